use Rattle.std.proofs.Common.{◌∙◌, sym, ap, ℕ, List, Option}
use Rattle.bw_repair.proofs.KeptChunks.{report_left, unfit_refuses}
use Rattle.bw_repair.proofs.left_out.making.keep.Goals as goal

pub make_left-requires : goal.make_left-requires
make_left-requires g c = λ b e.
    let there = ap (λ (f : List ℕ → Option (List ℕ)). f c.args.path.now) (sym c.in-Ok.ensures.files) ∙ e in
    report_left b c.in-Ok.report c.as_slice-in-Ok-file_sections.result.now (c.in-Ok.ensures.ok b there)
    (rw c.as_slice.ensures at c.in-Ok-file_sections.ensures.fit)
    (c.as_slice-in-Ok-file_sections.ensures.value ∙ (rw c.as_slice.ensures at c.in-Ok-file_sections.ensures.ok))

pub returns-clause-err : goal.returns-clause-err
returns-clause-err g c = λ b e.
    unfit_refuses b c.in-Ok.report c.in-Err-file_sections.fault (c.in-Ok.ensures.ok b e)
    (rw c.as_slice.ensures at c.in-Err-file_sections.ensures.err)
