use Rattle.std.proofs.Common.{Some, ap, ◌∙◌}
use Rattle.clap.specs.Words.{found_of}
use Rattle.bw_args.specs.Lines.{Picturing}
use Rattle.bw_args.proofs.Asked.{no_picture_line, on_err, picture_asked}
use Rattle.bw_args.proofs.commands.one_file.picture_line.Goals as goal

pub returns-in_default-clause-ok : goal.returns-in_default-clause-ok
returns-in_default-clause-ok c = no_picture_line (found_of c.args.options.now) c.in_default.ensures

pub returns-clause-ok : goal.returns-clause-ok
returns-clause-ok c = picture_asked (found_of c.args.options.now) _
    (ap Some c.in_ok-file.ensures.ok ∙ c.in-Some.ensures)

pub returns-in_err-file-clause-err : goal.returns-in_err-file-clause-err
returns-in_err-file-clause-err c = on_err c.from_residual.result
    (Picturing _, tt, picture_asked (found_of c.args.options.now) _ c.in-Some.ensures)
