use Rattle.std.proofs.Common.{◌≡◌, ◌∙◌, ap, sym, ℕ, List, ◌∷◌, ◌++◌}
use Rattle.bw_model.specs.Take.{Open}
use Rattle.bw_plan.specs.Plans.{plan, field_requests}
use Rattle.bw_plan.specs.Recordings.{block_frames}
use Rattle.bw_send_file.specs.ComingRequests.{sample_requests}
use Rattle.bw_send_file.specs.FramedSamples.{recording_with}
use Rattle.bw_send_file.specs.Samples.{HeldSamples}
use Rattle.bw_send_file.proofs.PcmPlans.{plan_with}
use Rattle.bw_send_file.proofs.followed_state.PcmRequests.of_outline.Goals as goal

pub returns-clause-plan : goal.returns-clause-plan
returns-clause-plan g c s e whole =
    let o = c.args.options.now in
    let r = c.args.outline in
    let frames = c.block_frames-frames.result in
    let same : block_frames o r.format ≡ frames =
    ap (block_frames o) (sym c.format.ensures) ∙ sym c.block_frames-frames.ensures.value in (
      s,
      e,
      ap (λ (n : ℕ). plan n (recording_with r s)) same ∙ plan_with frames r s whole
          ∙ ap (λ (hs : List ℕ). Open r.format r.history ∷ field_requests 1 r.values
          ++ sample_requests (record { outline = r; frames = frames; given = 0 }) (hs ++ s))
          (sym (ap (λ (z : HeldSamples). z.held) c.in_ok-samples.ensures)),
    )
