-- What a disk in memory has after files were removed.
use Rattle.std.proofs.Common.{◌≡◌, ◌≢◌, ◌∙◌, List, [], ◌∷◌, ℕ, Bool, true, false, cond, not, Option, Some}
use Rattle.std.proofs.Common.{None, refl, sym, ap, string_bytes}
use Rattle.std.specs.List.{find, filter}
use Rattle.std.proofs.lemmas.Slice.Eq.{bytes_eq-Decides}
use Rattle.std.proofs.Common.{arith, length, take, ◌+◌, ◌++◌, ◌≤◌}
use Rattle.std.proofs.Math.ListN.{drop_of_length-le}
use Rattle.std.proofs.lemmas.List.{append-nil, take-append-drop}
use Rattle.std.specs.Option.{option_map}
use Rattle.bw_store.specs.Stores.{overwritten}
use Rattle.bw_disk.specs.Volumes.{WrittenInPart, IsCutInPart}
use Rattle.bw_disk.specs.declared.memory_disk.StoredFile.{StoredFile}
use Rattle.bw_disk.specs.MemoryDisks.{stands_at, content_at, synced_at}
use Rattle.bw_disk.proofs.MemoryDisks.{content_under, synced_of}

module _ {X : Type 0} (p : X → Bool) where
  -- what another test finds stays
  pub find_kept : (q : X → Bool) → ((x : X) → q x ≡ true → p x ≡ false) → (xs : List X) →
      find q (filter (λ x. not (p x)) xs) ≡ find q xs
  find_kept q apart [] = refl
  find_kept q apart (x ∷ xs) = go (p x) refl (q x) refl (find_kept q apart xs)
    where
      go : (b : Bool) → p x ≡ b → (d : Bool) → q x ≡ d → find q (filter (λ x. not (p x)) xs) ≡ find q xs →
          find q (cond (not b) (x ∷ filter (λ x. not (p x)) xs) (filter (λ x. not (p x)) xs)) ≡ cond d (Some x) (find q xs)
      go true e true f ih = let no : p x ≡ false = apart x f in cc
      go true e false f ih = ih
      go false e true f ih = ap (λ (v : Bool). cond v (Some x) (find q (filter (λ x. not (p x)) xs))) f
      go false e false f ih = ap (λ (v : Bool). cond v (Some x) (find q (filter (λ x. not (p x)) xs))) f ∙ ih

  -- nothing that was removed is found
  pub find_gone : (xs : List X) → find p (filter (λ x. not (p x)) xs) ≡ None
  find_gone [] = refl
  find_gone (x ∷ xs) = go (p x) refl (find_gone xs)
    where
      go : (b : Bool) → p x ≡ b → find p (filter (λ x. not (p x)) xs) ≡ None →
          find p (cond (not b) (x ∷ filter (λ x. not (p x)) xs) (filter (λ x. not (p x)) xs)) ≡ None
      go true e ih = ih
      go false e ih = ap (λ (v : Bool). cond v (Some x) (find p (filter (λ x. not (p x)) xs))) e ∙ ih

refuted : (b : Bool) → (b ≡ true → ⊥) → b ≡ false
refuted true never = absurd (never refl)
refuted false never = refl

apart : (from other : List ℕ) → other ≢ from → (file : StoredFile) →
    stands_at other file ≡ true → stands_at from file ≡ false
apart from other ne file e =
    let at : string_bytes file.path ≡ other = (bytes_eq-Decides (string_bytes file.path) other).0 e in
    refuted (stands_at from file) (λ f. ne (sym at ∙ (bytes_eq-Decides (string_bytes file.path) from).0 f))

module _ (files : List StoredFile) (from : List ℕ) where
  abbrev left : List StoredFile
  left = filter (λ (file : StoredFile). not (stands_at from file)) files

  pub gone : content_at left from ≡ None
  gone = ap content_under (find_gone (stands_at from) files)

  pub kept : (other : List ℕ) → other ≢ from → content_at left other ≡ content_at files other
  kept other ne = ap content_under (find_kept (stands_at from) (stands_at other) (apart from other ne) files)

  pub kept_synced : (other : List ℕ) → other ≢ from → synced_at left other ≡ synced_at files other
  kept_synced other ne = ap synced_of (find_kept (stands_at from) (stands_at other) (apart from other ne) files)

-- a write that changed nothing
pub unwritten : (before after : Option (List ℕ)) (place : ℕ) (bytes : List ℕ) → after ≡ before →
    WrittenInPart before place bytes after
unwritten before after place bytes same = (0, same ∙ as_it_was before)
  where
    as_it_was : (o : Option (List ℕ)) → o ≡ option_map (λ old. overwritten old place (take 0 bytes)) o
    as_it_was None = refl
    as_it_was (Some old) = refl

-- as many bytes as there are, or more, are all of them
all_taken : (xs : List ℕ) (count : ℕ) → length xs ≤ count → take count xs ≡ xs
all_taken xs count le =
    sym (append-nil (take count xs))
    ∙ (ap (λ rest. take count xs ++ rest) (sym (drop_of_length-le xs le)) ∙ take-append-drop count xs)

-- a cut that changed nothing
pub uncut : (before after : Option (List ℕ)) (len : ℕ) → after ≡ before → IsCutInPart before len after
uncut None after len same = (len, omega arith, same)
uncut (Some old) after len same =
    (len + length old, omega arith, same ∙ ap Some (sym (all_taken old (len + length old) (omega arith))))
