-- What putting a header at the start of a file leaves.
use Rattle.std.proofs.Common.{◌≡◌, ◌∙◌, ℕ, ◌+◌, ◌<◌, ◌≤◌, List, ◌++◌, length, take, drop, Option, Some, None, refl, sym, ap, subst}
use Rattle.std.proofs.Common.{arith, inl, inr, IsSome, IsTrue, Bool, true, false, ◌⊎◌}
use Rattle.std.specs.Prelude.{min, option_map, OnErr, Result, Ok, Err}
use Rattle.std.proofs.lemmas.List.{take_all, take-append-drop, length-append}
use Rattle.bw_model.proofs.Elements.{some_inj}
use Rattle.bw_store.specs.Stores.{Written, overwritten}
use Rattle.bw_disk.specs.Volumes.{ReadsPrefix, WrittenInPart}
use Rattle.bw_journal.specs.Notes.{BeginsWith, IsPrefixOf, IsShortOf, Starts, StartsInPart}
use Rattle.bw_journal.proofs.Starts.{starts_whole, starts_short}
use Rattle.bw_folder.proofs.Appended.{overwritten_part}
use Rattle.bw_journal.proofs.Overwritten.{overwritten_over}

some_of : (content : Option (List ℕ)) → IsSome content → (found : List ℕ) × (content ≡ Some found)
some_of None e = absurd (let no : false ≡ true = e in cc)
some_of (Some found) e = (found, refl)

-- a relation of two values, at values that they equal
pub moved : {X Y : Type 0} (P : X → Y → Type 0) (a a' : X) (b b' : Y) → a ≡ a' → b ≡ b' → P a b → P a' b'
moved P a a' b b' ea eb p = subst (λ x. P x b') ea (subst (λ y. P a y) eb p)

module _ (h room : List ℕ) (count : ℕ) (content : Option (List ℕ)) (n : ℕ) (long : n ≡ length h)
    (stands : IsSome content) (reads : ReadsPrefix content n count room) (same : take count room ≡ take count h) where
  abbrev found : List ℕ
  found = (some_of content stands).0

  is : content ≡ Some found
  is = (some_of content stands).1

  counted : count ≡ min n (length found)
  counted = (reads found is).0

  shown : take count found ≡ take count h
  shown = sym (reads found is).1 ∙ same

  -- the header is there whole
  pub whole : count ≡ length h → (after : Option (List ℕ)) → after ≡ content → Starts h content after
  whole full after kept =
      let all : take count h ≡ h = take_all count h (omega (arith, full)) in
      starts_whole h content after (
        drop count found,
        is ∙ ap Some (sym (take-append-drop count found) ∙ ap (λ (z : List ℕ). z ++ drop count found) (shown ∙ all)),
      )
      kept

  -- the content is a prefix of the header
  torn : count < length h → found ≡ take count h
  torn less = sym (take_all count found (omega (arith, counted, less, long))) ∙ shown

  shorter : count < length h → IsShortOf h content
  shorter less = inr (count, is ∙ ap Some (torn less), less)

  -- it is written
  pub written : count < length h → (after : Option (List ℕ)) → Written content 0 h after → Starts h content after
  written less after w =
      let old : w.0 ≡ found = some_inj (sym w.1 ∙ is) in
      let few : length w.0 ≤ length h = omega (arith, ap length old, counted, less, long) in
      starts_short h content after (shorter less) (w.2 ∙ ap (λ (z : List ℕ). Some z) (overwritten_over w.0 h few))

  -- a prefix of it is written
  pub in_part : count < length h → (after : Option (List ℕ)) → WrittenInPart content 0 h after →
      StartsInPart h content after
  in_part less after w =
      let part = overwritten_part count w.0 h in
      let now : after ≡ Some (take part.0 h) =
      w.1
      ∙ ap (option_map (λ (old : List ℕ). overwritten old 0 (take w.0 h))) (is ∙ ap Some (torn less))
      ∙ ap (λ (z : List ℕ). Some z) part.1 in
      record {
        prefix = λ p. inr (part.0, now);
        kept = λ begins. absurd (never begins);
        only = inr (inr (count, is ∙ ap Some (torn less)));
      }
    where
      never : BeginsWith h content → ⊥
      never (rest, e) =
          let eq : h ++ rest ≡ found = some_inj (sym e ∙ is) in
          let size : length h + length rest ≡ length found = sym (length-append h rest) ∙ ap length eq in
          omega (arith, size, counted, less, long)

-- it is there whole, and stays
pub started_in_part : (h : List ℕ) (before mid after : Option (List ℕ)) → Starts h before mid → after ≡ mid →
    StartsInPart h before after
started_in_part h before mid after starts same = record {
  prefix = λ p. inr (length h, same ∙ starts.written p ∙ ap Some (sym (take_all (length h) h (omega arith))));
  kept = λ w. same ∙ starts.kept w;
  only = kept_or starts.only;
}
  where
    kept_or : (mid ≡ before) ⊎ IsPrefixOf h before → (after ≡ before) ⊎ IsPrefixOf h before
    kept_or (inl is) = inl (same ∙ is)
    kept_or (inr p) = inr p

-- the same if what followed failed
pub failed_started : {T E : Type 0} (r : Result T E) (h : List ℕ) (before mid after : Option (List ℕ)) →
    Starts h before mid → after ≡ mid → OnErr r (StartsInPart h before after)
failed_started (Ok x) h before mid after starts same = tt
failed_started (Err e) h before mid after starts same = started_in_part h before mid after starts same

-- A journal didn't begin: bytes of the name wait, and the same is noted; or none do, and what is noted is what the file has.
pub begin_failed : {T E : Type 0} (r : Result T E) (h : List ℕ) (waits : Bool) (noted noted' found found' : Option (List ℕ)) →
    (waits ≡ false → (noted ≡ found) × (noted' ≡ found')) → (IsTrue waits → noted' ≡ noted) →
    OnErr r (StartsInPart h found found') → OnErr r (StartsInPart h noted noted')
begin_failed (Ok x) h waits noted noted' found found' idle busy failed = tt
begin_failed (Err e) h waits noted noted' found found' idle busy failed = go waits refl
  where
    go : (b : Bool) → waits ≡ b → StartsInPart h noted noted'
    go true is =
        let same : noted' ≡ noted = busy is in
        record { prefix = λ p. subst (IsPrefixOf h) (sym same) p; kept = λ w. same; only = inl same }
    go false is =
        let both = idle is in
        subst (λ (o : Option (List ℕ)). StartsInPart h noted o) (sym both.1)
        (subst (λ (o : Option (List ℕ)). StartsInPart h o found') (sym both.0) failed)
