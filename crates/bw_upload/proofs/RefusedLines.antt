-- The lines of refused numbers, one by one.
use Rattle.std.proofs.Common.{◌≡◌, ℕ, ◌+◌, ◌≤◌, List, ◌∷◌, ◌++◌, length, map, drop, sym, ◌∙◌, ap, append_assoc}
use Rattle.std.proofs.Common.{append-nil}
use Rattle.std.specs.Prelude.{flat_map}
use Rattle.std.proofs.Math.ListN.{drop_of_length-le}
use Rattle.bw_model.specs.declared.verdict.Verdict.{Verdict}
use Rattle.bw_sender.specs.RefusedNumbers.{refusal_of}
use Rattle.bw_upload.specs.SenderText.{refused_line}

-- the lines of these
abbrev pub lines_for : List (ℕ × Verdict) → List ℕ
lines_for xs = flat_map refused_line (map refusal_of xs)

-- the first of those that are left is put
pub refusal_step : (xs : List (ℕ × Verdict)) (x : ℕ × Verdict) (i : ℕ) (out out' whole : List ℕ) →
    drop i xs ≡ x ∷ drop (i + 1) xs → out ++ lines_for (drop i xs) ≡ whole →
    out' ≡ out ++ refused_line (refusal_of x) → out' ++ lines_for (drop (i + 1) xs) ≡ whole
refusal_step xs x i out out' whole first w put =
    let more : List ℕ = lines_for (drop (i + 1) xs) in
    ap (λ (z : List ℕ). z ++ more) put
    ∙ append_assoc out (refused_line (refusal_of x)) more
    ∙ ap (λ (z : List (ℕ × Verdict)). out ++ lines_for z) (sym first) ∙ w

-- after the last there is none
pub none_left : (xs : List (ℕ × Verdict)) (i : ℕ) (out whole : List ℕ) → length xs ≤ i →
    out ++ lines_for (drop i xs) ≡ whole → out ≡ whole
none_left xs i out whole past w =
    sym (append-nil out) ∙ ap (λ (z : List (ℕ × Verdict)). out ++ lines_for z) (sym (drop_of_length-le xs past)) ∙ w
