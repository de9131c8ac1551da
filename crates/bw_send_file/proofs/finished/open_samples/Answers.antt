use Rattle.std.proofs.Common.{rules, inl, ◌∙◌, ◌<◌, ℕ, List, Option, ap, sym, subst, length}
use Rattle.std.specs.Prelude.{◌^◌}
use Rattle.bw_plan.specs.Recordings.{block_frames}
use Rattle.bw_plan.specs.PcmRecordings.{PcmFaultOf}
use Rattle.bw_ports.specs.declared.recording_files.FileStamp.{FileStamp}
use Rattle.bw_send_file.proofs.OpenedSamples.{looked_at, outlined_at, samples_opened, samples_there}
use Rattle.bw_send_file.proofs.finished.open_samples.Goals as goal

pub returns-in-Ok-begin-clause-opens : goal.returns-in-Ok-begin-clause-opens
returns-in-Ok-begin-clause-opens g c =
    let path : List ℕ = c.args.path.now in
    let o = c.args.options.now in (
      (λ b e st.
          let at = looked_at path _ _ _ _ c.in-Ok-stamp.stamp b (c.in-Ok-stamp.ensures.files ∙ c.in-Ok.ensures.files)
          c.in-Ok.ensures.stamps c.in-Ok-stamp.ensures.ok e st in
          samples_opened b o c.args.pcm c.in-Ok-outline.outline c.block_frames-frames.result c.in-Ok-begin.plan _ _
          c.requires.allowed (outlined_at b o c.args.pcm c.in-Ok-outline.outline _ at.1 c.in-Ok-outline.ensures.ok)
          (search rules) (c.block_frames-frames.ensures.value ∙ ap (block_frames o) c.format.ensures)
          c.in-Ok-begin.ensures.plan c.in-Ok-begin.ensures.place
          (c.in-Ok-begin.ensures.stands b (c.in-Ok-open.ensures.ok b at.0)) c.in-Ok-begin.ensures.end
          c.in-Ok-begin.ensures.sound c.new.ensures.left),
      c.new.ensures.looks _ (record {
        again_is = c.in-Ok.ensures.ok;
        first_is = λ now e. c.in-Ok-stamp.ensures.ok now
            (ap (λ (f : List ℕ → Option FileStamp). f path) c.in-Ok.ensures.stamps ∙ e);
      }),
    )

pub returns-in-Err-begin-clause-opens : goal.returns-in-Err-begin-clause-opens
returns-in-Err-begin-clause-opens g c = λ b e st.
    let o = c.args.options.now in
    let at = looked_at c.args.path.now _ _ _ _ c.in-Ok-stamp.stamp b
    (c.in-Ok-stamp.ensures.files ∙ c.in-Ok.ensures.files) c.in-Ok.ensures.stamps c.in-Ok-stamp.ensures.ok e st in
    let few : c.in-Ok-stamp.stamp.len < 2 ^ 64 = search rules in
    inl (subst (PcmFaultOf o c.args.pcm (length b)) (sym c.unread.ensures)
    (samples_there b o c.args.pcm c.in-Ok-outline.outline c.in-Err-begin.fault _ c.requires.allowed
    (outlined_at b o c.args.pcm c.in-Ok-outline.outline _ at.1 c.in-Ok-outline.ensures.ok)
    (subst (λ (n : ℕ). n < 2 ^ 64) at.1 few) (c.in-Ok-open.ensures.ok b at.0) c.in-Err-begin.ensures.cut))
