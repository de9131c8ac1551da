-- What an entry's writing leaves.
use Rattle.std.proofs.Common.{◌≡◌, ℕ, ◌+◌, ◌≤◌, Result, Ok, Err, List, [], ◌∷◌, ◌++◌, length, take, drop, sym, ap, ◌∙◌, refl}
use Rattle.std.specs.Prelude.{Vec, vec_len, vec_capacity, IsErr}
use Rattle.std.specs.declared.alloc.AllocError.{AllocError}
use Rattle.std.proofs.lemmas.List.{take_at, drop_at}
use Rattle.bw_layout.specs.AppendedBytes.{Appends}
use Rattle.bw_journal.specs.Lines.{stuffed}
use Rattle.bw_journal.specs.Seals.{check, sealed_line}
use Rattle.bw_journal.specs.Entries.{JournalEntry, content, sealed_entry}

-- memory was refused
pub refused : {Z : Type 0} (bytes : List ℕ) (n : ℕ) (answer : Result (Unit {0}) AllocError) (old new : Vec ℕ Z) →
    IsErr answer → new.items ≡ old.items → vec_capacity old ≤ vec_capacity new →
    (vec_len old + n ≤ vec_capacity old → ⊥) → Appends bytes n answer old new
refused bytes n (Ok x) old new fails same grows never = absurd cc
refused bytes n (Err e) old new fails same grows never = record {
  ok = tt;
  len = tt;
  err = same;
  capacity = grows;
  succeeds = λ room. absurd (never room);
}

-- it is there
pub appended : {Z : Type 0} (bytes : List ℕ) (old new : Vec ℕ Z) → new.items ≡ old.items ++ bytes →
    vec_len new ≡ vec_len old + length bytes → vec_capacity old ≤ vec_capacity new →
    Appends bytes (length bytes) (Ok tt) old new
appended bytes old new is len grows =
    record { ok = is; len = len; err = tt; capacity = grows; succeeds = λ room. refl }

-- the line of an entry after other bytes
pub entry_after : (e : JournalEntry) (old mid : List ℕ) (start : ℕ) → start ≡ length old →
    mid ≡ old ++ (content e ++ check (content e)) →
    (take start mid ≡ old) × (stuffed (drop start mid) ++ 2 ∷ [] ≡ sealed_entry e)
unfolding sealed_line
entry_after e old mid start place is = (
  ap (take start) is ∙ take_at old (content e ++ check (content e)) start (sym place),
  ap (λ (l : List ℕ). stuffed (drop start l) ++ 2 ∷ []) is
      ∙ ap (λ (l : List ℕ). stuffed l ++ 2 ∷ []) (drop_at old (content e ++ check (content e)) start (sym place)),
)
