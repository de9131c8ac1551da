use Rattle.std.proofs.Common.{◌≡◌, ◌∙◌, ap, sym, ℕ, List, ◌∷◌, ◌++◌, drop}
use Rattle.bw_model.specs.Take.{Open}
use Rattle.bw_plan.specs.Plans.{plan, field_requests}
use Rattle.bw_plan.specs.Recordings.{Outline, block_frames}
use Rattle.bw_send_file.specs.ComingRequests.{sample_requests}
use Rattle.bw_send_file.specs.Samples.{HeldSamples}
use Rattle.bw_send_file.proofs.PcmPlans.{outline_is, plan_is}
use Rattle.bw_send_file.proofs.followed_state.PcmRequests.new.Goals as goal

pub returns-clause-plan : goal.returns-clause-plan
returns-clause-plan g c b r e k =
    let o = c.args.options.now in
    let s = c.in-Ok.outline in
    let frames = c.block_frames-frames.result in
    let same : block_frames o r.outline.format ≡ frames =
    ap (block_frames o)
    (ap (λ (x : Outline). x.format) (outline_is b o c.args.pcm c.args.file_len s r c.in-Ok.ensures.ok k)
    ∙ sym c.format.ensures)
    ∙ sym c.block_frames-frames.ensures.value in (
      drop c.args.pcm.skip b,
      e,
      ap (λ (n : ℕ). plan n r) same ∙ plan_is b o c.args.pcm c.args.file_len frames s r c.in-Ok.ensures.ok k
          ∙ ap (λ (hs : List ℕ). Open s.format s.history ∷ field_requests 1 s.values
          ++ sample_requests (record { outline = s; frames = frames; given = 0 }) (hs ++ drop c.args.pcm.skip b))
          (sym (ap (λ (z : HeldSamples). z.held) c.in-Ok-new.ensures)),
    )
