use Rattle.std.proofs.Common.{◌∙◌, ap, length, List, ℕ, arith}
use Rattle.bw_store.proofs.Tears.{written_tears, tears_wider}
use Rattle.bw_file.proofs.writes.put_header.Goals as goal

pub returns-in_err-write_at-clause-torn : goal.returns-in_err-write_at-clause-torn
returns-in_err-write_at-clause-torn g c =
    let long = ap (λ (l : List ℕ). length l) c.bytes.ensures ∙ c.build_header.ensures.len in
    λ honest. tears_wider _ _ 0 _ 0 _ (omega arith) (omega (arith, long)) (c.in_err-write_at.ensures.failed honest)

pub returns-clause-torn : goal.returns-clause-torn
returns-clause-torn g c =
    let long = ap (λ (l : List ℕ). length l) c.bytes.ensures ∙ c.build_header.ensures.len in
    λ honest. written_tears _ _ 0 _ c.bytes.result.now (omega (arith, long)) (c.in_ok-write_at.ensures.written honest)
