use Rattle.std.proofs.Common.{◌≡◌, ℕ, ◌+◌, ◌%◌, ◌∙◌, ◌↔◌, ◌++◌, List, cond, not, IsTrue, Option, Some, ap, subst, arith}
use Rattle.std.proofs.Common.{take, drop, length}
use Rattle.std.specs.Str.{bytes_eq}
use Rattle.bw_model.specs.Layout.{pad}
use Rattle.bw_model.specs.File.{data_place}
use Rattle.bw_recovery.specs.Files.{data_end}
use Rattle.bw_recovery.proofs.JudgedFiles.{cut_past}
use Rattle.bw_recovery.proofs.MendingLemmas.{patches}
use Rattle.bw_recovery.proofs.adoption.least_mending.Goals as goal

pub returns-clause-mended : goal.returns-clause-mended
returns-clause-mended c limit f file seen long header len =
    let p = c.args.state.now.parts in
    let padded = subst (λ (a : Option ℕ). IsTrue c.is_padded.result ↔ (p.samples_len % 2 ≡ 1) × (a ≡ Some 0)) seen.after
    (subst (λ (m : ℕ). IsTrue c.is_padded.result ↔ (m % 2 ≡ 1) × (c.args.facts.now.after ≡ Some 0))
    c.data_len-len.ensures.value c.is_padded.ensures) in
    let lacks = subst (λ (a : Option ℕ). IsTrue c.lacks_pad.result ↔ (p.samples_len % 2 ≡ 1) × (a ≡ Some 0 → ⊥)) seen.after
    (subst (λ (m : ℕ). IsTrue c.lacks_pad.result ↔ (m % 2 ≡ 1) × (c.args.facts.now.after ≡ Some 0 → ⊥))
    c.data_len-len.ensures.value c.lacks_pad.ensures) in
    patches c.args.header.now file (data_place (length p.history)) p.samples_len c.kept_len-kept.result c.ne.result
    c.is_padded.result c.lacks_pad.result c.cut.result len long
    (c.ne.ensures ∙ ap (λ (z : List ℕ). not (bytes_eq z c.args.header.now)) seen.front)
    padded lacks
    (c.kept_len-kept.ensures ∙ ap (λ (m : ℕ). m + cond c.is_padded.result 1 0) c.data_end.ensures.value)
    (λ z e. c.cut.ensures.value z (seen.len ∙ e))
    ∙ ap (λ (z : List ℕ). z ++ (take p.samples_len (drop (data_place (length p.history)) file) ++ pad p.samples_len)) header

pub returns-clause-cut : goal.returns-clause-cut
returns-clause-cut c =
    let kept = c.kept_len-kept.ensures in
    let ends = c.data_end.ensures.value in
    cut_past c.cut.result c.kept_len-kept.result (data_end c.args.state.now.parts) c.cut.ensures.kept
    (omega (arith, kept, ends))
