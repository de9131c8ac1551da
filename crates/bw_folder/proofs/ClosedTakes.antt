-- Which takes are open once those of a name are closed.
use Rattle.std.proofs.Common.{◌≡◌, List, [], ◌∷◌, ℕ, Bool, true, false, cond, refl, ap, not}
use Rattle.std.specs.Prelude.{filter}
use Rattle.std.specs.Str.{bytes_eq}
use Rattle.bw_folder.specs.declared.folder.OpenTake.{OpenTake}
use Rattle.bw_folder.specs.Folders.{open_names}

-- another name
abbrev is_other : List ℕ → List ℕ → Bool
is_other name n = not (bytes_eq n name)

module _ {F : Type 0} (name : List ℕ) where
  -- the names of those that stay open
  pub names_left : (takes : List (OpenTake F)) →
      open_names (filter (λ (t : OpenTake F). is_other name t.name) takes) ≡ filter (λ n. is_other name n) (open_names takes)
  names_left [] = refl
  names_left (t ∷ takes) = go (is_other name t.name) (names_left takes)
    where
      go : (b : Bool) →
          open_names (filter (λ (x : OpenTake F). is_other name x.name) takes) ≡ filter (λ n. is_other name n) (open_names takes) →
          open_names (cond b (t ∷ filter (λ (x : OpenTake F). is_other name x.name) takes)
          (filter (λ (x : OpenTake F). is_other name x.name) takes))
          ≡ cond b (t.name ∷ filter (λ n. is_other name n) (open_names takes)) (filter (λ n. is_other name n) (open_names takes))
      go true e = ap (λ (ns : List (List ℕ)). t.name ∷ ns) e
      go false e = e
