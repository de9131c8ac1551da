-- Bytes without an id, or with a part of one, aren't read.
use Rattle.std.proofs.Common.{◌≡◌, ◌∙◌, ℕ, zero, suc, ◌<◌, ◌≤◌, Bool, true, false, List, [], ◌∷◌, ◌++◌}
use Rattle.std.proofs.Common.{length, take, drop}
use Rattle.std.proofs.Common.{Option, Some, None, Result, Ok, Err, refl, sym, ap, subst, arith}
use Rattle.std.specs.Prelude.{◌||◌, nat_lt, if◌then◌else◌, not}
use Rattle.std.proofs.lemmas.Bool.{ltb-false}
use Rattle.bw_model.specs.Reading.{Fault, Form, form_at, is_riff, is_wide, outer}
use Rattle.bw_model.proofs.Elements.{some_inj}
use Rattle.bw_inspect.specs.Readings.{HasReading}
use Rattle.bw_store.specs.Stores.{overwritten}
use Rattle.bw_repair.specs.Forms.{id_of, renamed, unnamed}
use Rattle.bw_repair.specs.Makings.{Leftover, Part, Named, named_in_part}
use Rattle.bw_repair.specs.declared.conversions.form.WideForm.{WideForm}
use Rattle.bw_repair.specs.declared.conversions.form.WideForm.TheVariants.{Rf64, Bw64}
use Rattle.bw_repair.proofs.OutWrites.{written_first}

abbrev judged : Form → Option Fault → Result Form Fault
judged good o = elim o [ None ↦ Ok good | Some f ↦ Err f ]

no_fault : (f : Fault) (form : Form) → ◌≡◌ {A = Result Form Fault} (Err f) (Ok form) → ⊥
no_fault f form e = cc

-- a first line that holds is a fault
first_line : (short : Bool) (rest : Option Fault) (good form : Form) (f : Fault) →
    ◌≡◌ {A = Result Form Fault} (judged good (if short then Some f else rest)) (Ok form) → short ≡ false
first_line true rest good form f e = absurd (no_fault f form e)
first_line false rest good form f e = refl

-- so is a second one
second_line : (short other : Bool) (rest : Option Fault) (good form : Form) (f g : Fault) →
    ◌≡◌ {A = Result Form Fault} (judged good (if short then Some f else (if other then Some g else rest))) (Ok form) →
    other ≡ false
second_line true other rest good form f g e = absurd (no_fault f form e)
second_line false other rest good form f g e = first_line other rest good form g e

-- .. and a third one
pub third_line : (short other bad : Bool) (rest : Option Fault) (good form : Form) (f g h : Fault) →
    ◌≡◌ {A = Result Form Fault}
    (judged good (if short then Some f else (if other then Some g else (if bad then Some h else rest)))) (Ok form) →
    bad ≡ false
third_line true other bad rest good form f g h e = absurd (no_fault f form e)
third_line false other bad rest good form f g h e = second_line other bad rest good form g h e

-- bytes that are read are at least a header
pub long_enough : (b : List ℕ) → HasReading b → 12 ≤ length b
unfolding outer
long_enough b r =
    let whole : nat_lt (length b) 12 ≡ false =
    first_line (nat_lt (length b) 12) _ (form_at b) r.form _ r.reads.prefix.header in
    ltb-false (length b) 12 whole

-- .. with a known id
named : (b : List ℕ) → HasReading b → not (is_riff b || is_wide b) ≡ false
unfolding outer
named b r =
    second_line (nat_lt (length b) 12) (not (is_riff b || is_wide b)) _ (form_at b) r.form _ _ r.reads.prefix.header

unread : (b : List ℕ) → is_riff b || is_wide b ≡ false → HasReading b → ⊥
unread b none r = let bad : true ≡ false = sym (ap not none) ∙ named b r in cc

-- the first byte of none
zero_first : (xs : List ℕ) → HasReading (0 ∷ xs) → ⊥
zero_first xs r = unread (0 ∷ xs) refl r

-- .. nor a part of one
part_first : (form : WideForm) (n : ℕ) (rest : List ℕ) → n < 4 →
    HasReading (take n (id_of form) ++ drop n (0 ∷ 0 ∷ 0 ∷ 0 ∷ rest)) → ⊥
part_first form zero rest few r = zero_first (0 ∷ 0 ∷ 0 ∷ rest) r
part_first Rf64 (suc zero) rest few r = unread (82 ∷ 0 ∷ 0 ∷ 0 ∷ rest) refl r
part_first Bw64 (suc zero) rest few r = unread (66 ∷ 0 ∷ 0 ∷ 0 ∷ rest) refl r
part_first Rf64 (suc (suc zero)) rest few r = unread (82 ∷ 70 ∷ 0 ∷ 0 ∷ rest) refl r
part_first Bw64 (suc (suc zero)) rest few r = unread (66 ∷ 87 ∷ 0 ∷ 0 ∷ rest) refl r
part_first Rf64 (suc (suc (suc zero))) rest few r = unread (82 ∷ 70 ∷ 54 ∷ 0 ∷ rest) refl r
part_first Bw64 (suc (suc (suc zero))) rest few r = unread (66 ∷ 87 ∷ 54 ∷ 0 ∷ rest) refl r
part_first form (suc (suc (suc (suc n)))) rest few r = absurd (omega (arith, few))

-- an id over the first bytes
pub named_whole : (form : WideForm) (b : List ℕ) → overwritten (unnamed b) 0 (id_of form) ≡ renamed form b
named_whole Rf64 b = written_first (unnamed b) 82 (70 ∷ 54 ∷ 52 ∷ [])
named_whole Bw64 b = written_first (unnamed b) 66 (87 ∷ 54 ∷ 52 ∷ [])

-- a part of it
named_part : (form : WideForm) (n : ℕ) (rest : List ℕ) → n < 4 →
    named_in_part (id_of form) n (0 ∷ 0 ∷ 0 ∷ 0 ∷ rest) ≡ take n (id_of form) ++ drop n (0 ∷ 0 ∷ 0 ∷ 0 ∷ rest)
named_part form zero rest few = refl
named_part Rf64 (suc zero) rest few = written_first (0 ∷ 0 ∷ 0 ∷ 0 ∷ rest) 82 []
named_part Bw64 (suc zero) rest few = written_first (0 ∷ 0 ∷ 0 ∷ 0 ∷ rest) 66 []
named_part Rf64 (suc (suc zero)) rest few = written_first (0 ∷ 0 ∷ 0 ∷ 0 ∷ rest) 82 (70 ∷ [])
named_part Bw64 (suc (suc zero)) rest few = written_first (0 ∷ 0 ∷ 0 ∷ 0 ∷ rest) 66 (87 ∷ [])
named_part Rf64 (suc (suc (suc zero))) rest few = written_first (0 ∷ 0 ∷ 0 ∷ 0 ∷ rest) 82 (70 ∷ 54 ∷ [])
named_part Bw64 (suc (suc (suc zero))) rest few = written_first (0 ∷ 0 ∷ 0 ∷ 0 ∷ rest) 66 (87 ∷ 54 ∷ [])
named_part form (suc (suc (suc (suc n)))) rest few = absurd (omega (arith, few))

all_taken : (form : WideForm) (n : ℕ) → take (suc (suc (suc (suc n)))) (id_of form) ≡ id_of form
all_taken Rf64 zero = refl
all_taken Rf64 (suc n) = refl
all_taken Bw64 zero = refl
all_taken Bw64 (suc n) = refl

-- a prefix of bytes without an id
prefix_unread : (n : ℕ) (b : List ℕ) → HasReading (take n (unnamed b)) → ⊥
prefix_unread zero b r =
    let long : 12 ≤ length (take zero (unnamed b)) = long_enough [] r in absurd (omega (arith, long))
prefix_unread (suc n) b r = zero_first (take n (0 ∷ 0 ∷ 0 ∷ drop 4 b)) r

-- a part of an id
few_unread : (form : WideForm) (n : ℕ) (b : List ℕ) → n < 4 → HasReading (named_in_part (id_of form) n (unnamed b)) → ⊥
few_unread form n b few r =
    part_first form n (drop 4 b) few (subst HasReading (named_part form n (drop 4 b) few) r)

name_unread : (form : WideForm) (n : ℕ) (b : List ℕ) → HasReading (named_in_part (id_of form) n (unnamed b)) →
    named_in_part (id_of form) n (unnamed b) ≡ renamed form b
name_unread form zero b r = absurd (few_unread form zero b (omega arith) r)
name_unread form (suc zero) b r = absurd (few_unread form (suc zero) b (omega arith) r)
name_unread form (suc (suc zero)) b r = absurd (few_unread form (suc (suc zero)) b (omega arith) r)
name_unread form (suc (suc (suc zero))) b r = absurd (few_unread form (suc (suc (suc zero))) b (omega arith) r)
name_unread form (suc (suc (suc (suc n)))) b r =
    ap (λ (z : List ℕ). overwritten (unnamed b) 0 z) (all_taken form n) ∙ named_whole form b

pub leftovers_unread : (form : WideForm) (b x : List ℕ) → Leftover (id_of form) (unnamed b) (Some x) → HasReading x →
    x ≡ renamed form b
leftovers_unread form b x (Part n is) r = absurd (prefix_unread n b (subst HasReading (some_inj is) r))
leftovers_unread form b x (Named n is) r =
    some_inj is ∙ name_unread form n b (subst HasReading (some_inj is) r)
