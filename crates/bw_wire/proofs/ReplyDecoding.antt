-- A reply's body, taken apart as the decoder takes it.
use Rattle.std.proofs.Common.{◌≡◌, ◌≢◌, ℕ, ◌<◌, ◌≤◌, List, [], ◌∷◌, length, get_or, Err, cond, refl, sym, ap, ◌∙◌}
use Rattle.std.proofs.Common.{arith}
use Rattle.std.specs.Prelude.{◌==◌}
use Rattle.std.specs.Option.{ok_or}
use Rattle.std.proofs.lemmas.Bool.{ne_eqb, eq-eqb}
use Rattle.std.proofs.lemmas.List.{take_rest, nil_from_length}
use Rattle.bw_model.specs.Wire.{Kind, Payload}
use Rattle.bw_model.specs.Replies.{decoded_reply, addressed_reply, judged_by, noticed_by, refused_by}
use Rattle.bw_wire.proofs.Decoding.{following}

pub reply-empty : (b : List ℕ) → length b < 1 → decoded_reply b ≡ Err Kind
unfolding decoded_reply
reply-empty b h = ap decoded_reply (nil_from_length b (omega arith))

by_kind : (k : ℕ) (rest : List ℕ)
    → decoded_reply (k ∷ rest)
    ≡ cond (k == 0x81) (addressed_reply rest judged_by)
    (cond (k == 0x82) (addressed_reply rest noticed_by)
    (cond (k == 0x83) (ok_or (refused_by rest) Payload) (Err Kind)))
unfolding decoded_reply
by_kind k rest = refl

reply-cons : (b : List ℕ) → 1 ≤ length b
    → decoded_reply b ≡ cond (get_or b 0 0 == 0x81) (addressed_reply (following b) judged_by)
    (cond (get_or b 0 0 == 0x82) (addressed_reply (following b) noticed_by)
    (cond (get_or b 0 0 == 0x83) (ok_or (refused_by (following b)) Payload) (Err Kind)))
reply-cons [] h = absurd (omega arith)
reply-cons (k ∷ rest) h =
    ap (λ (x : List ℕ). decoded_reply (k ∷ x)) (sym (take_rest (k ∷ rest) 1)) ∙ by_kind k (following (k ∷ rest))

pub reply-judged : (b : List ℕ) → 1 ≤ length b → get_or b 0 0 ≡ 0x81 →
    decoded_reply b ≡ addressed_reply (following b) judged_by
reply-judged b h k = reply-cons b h ∙ rw (eq-eqb (get_or b 0 0) 0x81 k) refl

pub reply-noticed : (b : List ℕ) → 1 ≤ length b → get_or b 0 0 ≡ 0x82 →
    decoded_reply b ≡ addressed_reply (following b) noticed_by
reply-noticed b h k = reply-cons b h ∙ rw (ne_eqb (get_or b 0 0) 0x81 (omega arith), eq-eqb (get_or b 0 0) 0x82 k) refl

pub reply-refused : (b : List ℕ) → 1 ≤ length b → get_or b 0 0 ≡ 0x83 →
    decoded_reply b ≡ ok_or (refused_by (following b)) Payload
reply-refused b h k = reply-cons b h
    ∙ rw (
      ne_eqb (get_or b 0 0) 0x81 (omega arith),
      ne_eqb (get_or b 0 0) 0x82 (omega arith),
      eq-eqb (get_or b 0 0) 0x83 k,
    ) refl

pub reply-unknown : (b : List ℕ) → 1 ≤ length b → get_or b 0 0 ≢ 0x81 → get_or b 0 0 ≢ 0x82 → get_or b 0 0 ≢ 0x83 →
    decoded_reply b ≡ Err Kind
reply-unknown b h j n r =
    reply-cons b h ∙ rw (ne_eqb (get_or b 0 0) 0x81 j, ne_eqb (get_or b 0 0) 0x82 n, ne_eqb (get_or b 0 0) 0x83 r) refl
