use Rattle.std.proofs.Common.{◌∙◌, ap, sym}
use Rattle.bw_model.specs.Take.{Format}
use Rattle.bw_plan.specs.PcmRecordings.{set_pcm_outline, pcm_format}
use Rattle.bw_plan.proofs.PcmRecordings.{pcm_outlined, wrong_pcm_format, wrong_pcm_content}
use Rattle.bw_plan.proofs.pcm.Pcm.outline.Goals as goal

pub returns-in-Err-clause-err : goal.returns-in-Err-clause-err
returns-in-Err-clause-err c = λ g e.
    wrong_pcm_format c.args.options.now c.args.self c.args.file_len g (sym c.in-Err.ensures.err ∙ e)

pub returns-in-Some-clause-err : goal.returns-in-Some-clause-err
returns-in-Some-clause-err c = λ g e.
    wrong_pcm_content c.args.options.now c.args.self c.args.file_len c.in-Ok-made.outline g c.in-Ok.ensures.ok
    (c.in-Ok-made.ensures ∙ ap (λ (f : Format). set_pcm_outline c.args.options.now f c.saturating_sub-len.result) c.in-Ok.ensures.format
    ∙ ap (set_pcm_outline c.args.options.now (pcm_format c.args.self)) c.saturating_sub-len.ensures)
    (sym c.in-Some.ensures ∙ e)

pub returns-in-None-clause-ok : goal.returns-in-None-clause-ok
returns-in-None-clause-ok c =
    pcm_outlined c.args.options.now c.args.self c.args.file_len c.in-Ok-made.outline c.in-Ok.ensures.ok
    (c.in-Ok-made.ensures ∙ ap (λ (f : Format). set_pcm_outline c.args.options.now f c.saturating_sub-len.result) c.in-Ok.ensures.format
    ∙ ap (set_pcm_outline c.args.options.now (pcm_format c.args.self)) c.saturating_sub-len.ensures)
    (sym c.in-None.ensures)
