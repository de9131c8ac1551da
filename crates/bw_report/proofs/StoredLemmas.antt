-- Receipts that are there already, or not.
use Rattle.std.proofs.Common.{◌≡◌, ◌≢◌, ◌&&◌, ◌+◌, ◌<◌, ◌∙◌, ◌⊎◌, [], ◌∷◌, Bool, List, arith, false, nat_eq, true, Option, Some, Err}
use Rattle.std.proofs.Common.{get_or, inl, inr, length, refl, rules, subst, sym, take, ℕ}
use Rattle.std.specs.Prelude.{MatchOption}
use Rattle.std.specs.List.{All}
use Rattle.std.proofs.lemmas.List.{take_more}
use Rattle.std.proofs.lemmas.List.Elements.{All-push}
use Rattle.std.specs.Cmp.Lexicographic.{pointwise}
use Rattle.bw_model.specs.Reading.{Fault, IsFault}
use Rattle.bw_stream.specs.Readers.{Of}
use Rattle.bw_stream.specs.declared.source.Source.{Ghosts as Reader}
use Rattle.bw_inspect.specs.Faults.{bytes_fault, counted, is_failed_read, is_of_bytes}
use Rattle.bw_inspect.specs.declared.fault.InspectFault.{InspectFault}
use Rattle.bw_inspect.specs.declared.fault.InspectKind.{InspectKind}
use Rattle.bw_inspect.specs.declared.fault.InspectKind.TheVariants.{Read, Memory}
use Rattle.bw_inspect.proofs.Faults.{reported_fault}
use Rattle.bw_take_files.specs.declared.receipts.receipt.Receipt.{Receipt}
use Rattle.bw_report.specs.StoredRecordings.{AreUnreadable, IsReceiptIn, IsFileUnread}

-- what holds of those up to a place, and of the one there
pub all_more : {X : Type 0} (P : X → Type 0) (xs : List X) (place : ℕ) (x : X) → place < length xs →
    x ≡ get_or xs place x → All P (take place xs) → P x → All P (take (place + 1) xs)
all_more P xs place x inside is all one = subst (All P) (sym (take_more xs place x inside))
    (All-push P (take place xs) (get_or xs place x) all (subst P is one))

-- a fault that isn't lack of memory is a failed read, or one of the bytes
read_or_bytes : (k : InspectKind) → k ≢ Memory → (is_failed_read k ≡ true) ⊎ (is_of_bytes k ≡ true)
read_or_bytes Read other = inl refl
read_or_bytes Memory other = absurd (other refl)
read_or_bytes _ other = inr refl

-- bytes that an inspection refused, for another reason than lack of memory, have a fault, or the reader failed
pub unreadable : {R : Type 0} (reader : Reader R) (b : List ℕ) (f : InspectFault) (opened left : R) →
    reader.left opened ≡ Some b → reader.failures left ≡ counted {X = ℕ} (Err f) (reader.failures opened) →
    ((met : Fault) → bytes_fault f ≡ Some met → IsFault b met) → f.kind ≢ Memory → AreUnreadable reader b
unreadable reader b f opened left of_bytes count right other = go (read_or_bytes f.kind other)
  where
    go : (is_failed_read f.kind ≡ true) ⊎ (is_of_bytes f.kind ≡ true) → AreUnreadable reader b
    go (inl is) = inl (record { opened = opened; left = left; of_bytes = of_bytes; failed = rw is at count })
    go (inr is) =
        let named = reported_fault f is in
        inr (named.0, right named.0 named.1)

-- what is found of a file, after a call that left it as it was
pub found_after : {R : Type 0} (reader : Reader R) (file there : Option (List ℕ)) (n m n' : ℕ) (r : Option Receipt)
    (name : List ℕ) → there ≡ file → m ≡ n →
    MatchOption r (IsFileUnread reader there m n') (λ receipt. Of there (λ b. IsReceiptIn name b receipt) × (n' ≡ m)) →
    MatchOption r (IsFileUnread reader file n n') (λ receipt. Of file (λ b. IsReceiptIn name b receipt) × (n' ≡ n))
found_after reader file there n m n' r name same count found =
    subst (λ (f : Option (List ℕ)). MatchOption r (IsFileUnread reader f n n')
    (λ receipt. Of f (λ b. IsReceiptIn name b receipt) × (n' ≡ n))) same
    (subst (λ (k : ℕ). MatchOption r (IsFileUnread reader there k n')
    (λ receipt. Of there (λ b. IsReceiptIn name b receipt) × (n' ≡ k))) count found)

pub same_bytes : (xs : List ℕ) → pointwise nat_eq xs xs ≡ true
same_bytes [] = refl
same_bytes (x ∷ xs) =
    let first : nat_eq x x ≡ true = grind arith in rw first (same_bytes xs)

-- whether two receipts have the same parts
abbrev pub has_same_parts : Receipt → Receipt → Bool
has_same_parts one other = pointwise nat_eq one.name other.name
    && (nat_eq one.frames other.frames && pointwise nat_eq one.digest other.digest)

same_as_itself : (one : Receipt) → has_same_parts one one ≡ true
same_as_itself one =
    let frames : nat_eq one.frames one.frames ≡ true = grind arith in
    rw (same_bytes one.name, frames, same_bytes one.digest) refl

-- two that haven't are others
pub receipts_differ : (one other : Receipt) → false ≡ has_same_parts one other → one ≢ other
receipts_differ one other differ same =
    let itself : false ≡ has_same_parts one one = subst (λ (r : Receipt). false ≡ has_same_parts one r) (sym same) differ in
    let both_ways : false ≡ true = itself ∙ same_as_itself one in search (rules, both_ways)
