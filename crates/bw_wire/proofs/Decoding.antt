-- A body, taken apart as the decoder takes it.
use Rattle.std.proofs.Common.{◌≡◌, ◌≢◌, ℕ, ◌-◌, ◌<◌, ◌≤◌, cond, List, [], ◌∷◌, length, get_or, take, drop, Option, Some}
use Rattle.std.proofs.Common.{None, Ok, Err, refl, sym, ap, ◌∙◌, arith}
use Rattle.std.specs.Prelude.{◌==◌, IsTrue}
use Rattle.std.proofs.lemmas.Bool.{and_from, ne_eqb, eq-eqb}
use Rattle.std.proofs.lemmas.List.{take_rest, nil_from_length}
use Rattle.bw_model.specs.Bytes.{first_that_holds, unless}
use Rattle.bw_model.specs.Wire.{Second, Bye, Reason, Kind, Payload, are_bytes, body_faults, frame_in, decoded}
use Rattle.bw_model.proofs.Ranges.{are_bytes_lem}
use Rattle.bw_wire.specs.Bodies.{is_message_read, is_ask_read, is_message_body, is_ask_body}

-- what follows the first byte, as a pattern has it
abbrev pub following : List ℕ → List ℕ
following b = take (length b - 1) (drop 1 b)

pub decoded-empty : (b : List ℕ) → length b < 1 → decoded Second b ≡ Err Kind
unfolding decoded
decoded-empty b h = ap (decoded Second) (nil_from_length b (omega arith))

by_kind : (k : ℕ) (rest : List ℕ) →
    decoded Second (k ∷ rest)
    ≡ cond (k == 9) (cond (length rest == 0) (Ok Bye) (Err Payload))
    (unless (first_that_holds (body_faults Second k rest)) (frame_in k rest))
unfolding decoded
by_kind k rest = refl

decoded-cons : (b : List ℕ) → 1 ≤ length b
    → decoded Second b ≡ cond (get_or b 0 0 == 9) (cond (length (following b) == 0) (Ok Bye) (Err Payload))
    (unless (first_that_holds (body_faults Second (get_or b 0 0) (following b))) (frame_in (get_or b 0 0) (following b)))
decoded-cons [] h = absurd (omega arith)
decoded-cons (k ∷ rest) h =
    ap (λ (x : List ℕ). decoded Second (k ∷ x)) (sym (take_rest (k ∷ rest) 1)) ∙ by_kind k (following (k ∷ rest))

pub decoded-bye : (b : List ℕ) → 1 ≤ length b → get_or b 0 0 ≡ 9 →
    decoded Second b ≡ cond (length (following b) == 0) (Ok Bye) (Err Payload)
decoded-bye b h nine = decoded-cons b h ∙ rw (eq-eqb (get_or b 0 0) 9 nine) refl

decoded-other : (b : List ℕ) → 1 ≤ length b → get_or b 0 0 ≢ 9 →
    decoded Second b ≡ unless (first_that_holds (body_faults Second (get_or b 0 0) (following b)))
    (frame_in (get_or b 0 0) (following b))
decoded-other b h other = decoded-cons b h ∙ rw (ne_eqb (get_or b 0 0) 9 other) refl

pub decoded-fault : (b : List ℕ) (reason : Reason) → 1 ≤ length b → get_or b 0 0 ≢ 9 →
    Some reason ≡ first_that_holds (body_faults Second (get_or b 0 0) (following b)) → decoded Second b ≡ Err reason
decoded-fault b reason h other fault =
    decoded-other b h other ∙ ap (λ (o : Option Reason). unless o (frame_in (get_or b 0 0) (following b))) (sym fault)

decoded-frame : (b : List ℕ) → 1 ≤ length b → get_or b 0 0 ≢ 9 →
    None ≡ first_that_holds (body_faults Second (get_or b 0 0) (following b)) →
    decoded Second b ≡ Ok (frame_in (get_or b 0 0) (following b))
decoded-frame b h other none =
    decoded-other b h other ∙ ap (λ (o : Option Reason). unless o (frame_in (get_or b 0 0) (following b))) (sym none)

-- a body without a fault spells an ask, or a message
pub is_ask : (b : List ℕ) → ((i : ℕ) → get_or b i 0 < 256) → 1 ≤ length b → get_or b 0 0 ≢ 9 →
    None ≡ first_that_holds (body_faults Second (get_or b 0 0) (following b))
    → get_or b 0 0 ≡ 6 → IsTrue (is_ask_body b)
is_ask b fits h other none six =
    and_from (are_bytes b) (is_ask_read (decoded Second b)) (are_bytes_lem b fits)
    (ap is_ask_read (decoded-frame b h other none) ∙ rw (eq-eqb (get_or b 0 0) 6 six) refl)

pub is_message : (b : List ℕ) → ((i : ℕ) → get_or b i 0 < 256) → 1 ≤ length b → get_or b 0 0 ≢ 9 →
    None ≡ first_that_holds (body_faults Second (get_or b 0 0) (following b))
    → get_or b 0 0 ≢ 6 → IsTrue (is_message_body b)
is_message b fits h other none request =
    and_from (are_bytes b) (is_message_read (decoded Second b)) (are_bytes_lem b fits)
    (ap is_message_read (decoded-frame b h other none) ∙ rw (ne_eqb (get_or b 0 0) 6 request) refl)
