use Rattle.std.proofs.Common.{◌≡◌, ◌<◌, ℕ, List, [], ◌∷◌, Option, Some, None, length, get_or, refl, rules, tests, sym}
use Rattle.std.proofs.Common.{◌∙◌, arith}
use Rattle.std.specs.Prelude.{IsSome, IfSome, ◌↔◌}
use Rattle.std.specs.Option.{MatchOption}
use Rattle.std.specs.List.{AllWithin, Contains, HoldsAt}
use Rattle.std.proofs.lemmas.Iterator.{YieldsList-from_slice, IsFirst-from_position}
use Rattle.std.proofs.lemmas.List.{get_or-map, length-map}
use Rattle.std.proofs.lemmas.Slice.Eq.{bytes_eq-Decides}
use Rattle.bw_folder.specs.declared.folder.OpenTake.{OpenTake}
use Rattle.bw_folder.specs.Folders.{open_names}
use Rattle.bw_folder.proofs.folder.find.Goals as goal

module _ {F : Type 0} (takes : List (OpenTake F)) (name : List ℕ) where
  -- the first take of this name is at this place, or there is none
  abbrev IsFirst : Option ℕ → Type 0
  IsFirst r =
      MatchOption r
      (AllWithin (λ (take : OpenTake F). take.name ≡ name → ⊥) takes 0 (length takes))
      (λ i. (i < length takes)
      × HoldsAt (λ (take : OpenTake F). take.name ≡ name) takes i
      × AllWithin (λ (take : OpenTake F). take.name ≡ name → ⊥) takes 0 i)

  some_take : (all : List (OpenTake F)) (k : ℕ) → k < length all → OpenTake F
  some_take [] k h = absurd (omega arith)
  some_take (take ∷ rest) k h = take

  named : (k : ℕ) (d : OpenTake F) → k < length takes → get_or (open_names takes) k name ≡ (get_or takes k d).name
  named k d h = get_or-map (λ (take : OpenTake F). take.name) takes k d name h

  within : (k : ℕ) → k < length (open_names takes) → k < length takes
  within k h = rw length-map at h

  contains : (r : Option ℕ) → IsFirst r → IsSome r ↔ Contains (open_names takes) name
  contains None none = (
    λ some. cc,
    λ among.
        let small = within among.0 among.1 in
        let d = some_take takes among.0 small in
        absurd (none among.0 d (omega arith) small (sym (named among.0 d small) ∙ among.2)),
  )
  contains (Some i) found =
      let d = some_take takes i found.0 in
      (λ some. (i, rw length-map found.0, named i d found.0 ∙ found.1 d), λ among. refl)

  place_of : (r : Option ℕ) → IsFirst r
      → IfSome r (λ place. (place < length takes) × HoldsAt (λ (take : OpenTake F). take.name ≡ name) takes place)
  place_of None none = tt
  place_of (Some i) found = (found.0, found.1)

pub returns : goal.returns
returns g c =
    let takes = c.args.takes.now in
    let name = c.args.name.now in
    let reported = c.position.ensures.ran in
    let first =
    IsFirst-from_position _ _ c.position.result (λ take. take.name ≡ name) (λ take. take.name ≡ name → ⊥) reported
    (YieldsList-from_slice takes cc)
    (λ x q k. search (rules, tests, bytes_eq-Decides))
    (λ x q k. search (rules, tests, bytes_eq-Decides)) in
    record {
      «open» = contains takes name c.position.result first;
      place = place_of takes name c.position.result first;
    }
