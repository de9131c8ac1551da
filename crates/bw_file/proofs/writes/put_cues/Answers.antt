use Rattle.std.proofs.Common.{◌∙◌, ap, length, List, ℕ, ◌<◌, arith}
use Rattle.bw_layout.proofs.CueChunkBytes.{length-cue_chunk}
use Rattle.bw_store.proofs.Tears.{written_tears}
use Rattle.bw_store.proofs.Asked.{first_as, gets_all, gets_as, gets_one}
use Rattle.bw_layout.proofs.Exits.{on_err}
use Rattle.bw_file.proofs.PlanForms.{some_cues}
use Rattle.bw_file.proofs.writes.put_cues.Goals as goal

pub returns-clause-torn : goal.returns-clause-torn
returns-clause-torn g c =
    let long = ap (λ (l : List ℕ). length l) (c.bytes.ensures ∙ c.build_cues.ensures) in
    λ honest. written_tears _ _ c.args.place _ c.bytes.result.now (omega (arith, long))
    (c.in_ok-write_at.ensures.written honest)

pub returns-in_err-write_at-clause-begun : goal.returns-in_err-write_at-clause-begun
returns-in_err-write_at-clause-begun g c =
    on_err _ _ (let some : 0 < length c.args.markers.now = grind arith in
    let long = ap (λ (l : List ℕ). length l) (c.bytes.ensures ∙ c.build_cues.ensures)
    ∙ length-cue_chunk c.args.markers.now some in
    first_as (some_cues c.args.name.now c.args.place _ some)
    (gets_all (gets_one c.write_at.ensures.calls (rw long at c.write_at.ensures.asked))))

pub returns-clause-order : goal.returns-clause-order
returns-clause-order g c =
    let some : 0 < length c.args.markers.now = grind arith in
    let long = ap (λ (l : List ℕ). length l) (c.bytes.ensures ∙ c.build_cues.ensures)
    ∙ length-cue_chunk c.args.markers.now some in
    gets_as (some_cues c.args.name.now c.args.place _ some)
    (gets_one c.write_at.ensures.calls (rw long at c.write_at.ensures.asked))
