use Rattle.std.proofs.Common.{◌≡◌, ◌∙◌, ap, sym, ℕ, List}
use Rattle.std.specs.Prelude.{codes}
use Rattle.bw_model.specs.Bytes.{first_that_holds}
use Rattle.bw_inspect.specs.declared.report.Report.{Report}
use Rattle.bw_plan.specs.Notes.{notes_by}
use Rattle.bw_plan.specs.Recordings.{format_faults, head_place}
use Rattle.bw_plan.proofs.FaultLists.{outlined, wrong_format, wrong_content}
use Rattle.bw_plan.proofs.recording.outline_of.Goals as goal

-- the first fault of the format, where the chunk's place is known
at_place : (r : Report) (extension : List ℕ) (p : ℕ) → p ≡ head_place (codes "fmt ") r.chunks →
    first_that_holds (format_faults r.fmt extension (head_place (codes "fmt ") r.chunks))
    ≡ first_that_holds (format_faults r.fmt extension p)
at_place r extension p e = ap (λ (q : ℕ). first_that_holds (format_faults r.fmt extension q)) (sym e)

pub returns-in-Err-clause-err : goal.returns-in-Err-clause-err
returns-in-Err-clause-err c = λ g e.
    wrong_format c.args.options.now (notes_by c.args.report.now c.args.extension.now c.args.history.now) g
    (at_place c.args.report.now c.args.extension.now c.head_place-place.result
    (c.head_place-place.ensures ∙ ap (head_place (codes "fmt ")) c.as_slice.ensures) ∙ sym c.in-Err.ensures.err ∙ e)

pub returns-in-Some-clause-err : goal.returns-in-Some-clause-err
returns-in-Some-clause-err c = λ g e.
    wrong_content c.args.options.now (notes_by c.args.report.now c.args.extension.now c.args.history.now)
    c.in-Ok-made.outline g
    (at_place c.args.report.now c.args.extension.now c.head_place-place.result
    (c.head_place-place.ensures ∙ ap (head_place (codes "fmt ")) c.as_slice.ensures) ∙ c.in-Ok.ensures.ok)
    (c.in-Ok-made.ensures c.args.extension.now) (sym (c.in-Some.ensures c.args.extension.now) ∙ e)

pub returns-in-None-clause-ok : goal.returns-in-None-clause-ok
returns-in-None-clause-ok c =
    outlined c.args.options.now (notes_by c.args.report.now c.args.extension.now c.args.history.now)
    c.in-Ok-made.outline
    (at_place c.args.report.now c.args.extension.now c.head_place-place.result
    (c.head_place-place.ensures ∙ ap (head_place (codes "fmt ")) c.as_slice.ensures) ∙ c.in-Ok.ensures.ok)
    (c.in-Ok-made.ensures c.args.extension.now) (sym (c.in-None.ensures c.args.extension.now))
