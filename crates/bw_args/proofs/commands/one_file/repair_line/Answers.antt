use Rattle.std.proofs.Common.{Some, ap, ◌∙◌, refl}
use Rattle.clap.specs.Words.{found_of}
use Rattle.bw_args.specs.Lines.{Repairing}
use Rattle.bw_args.proofs.Asked.{no_repaired_line, on_err, repair_asked}
use Rattle.bw_args.proofs.commands.one_file.repair_line.Goals as goal

pub returns-in_default-clause-ok : goal.returns-in_default-clause-ok
returns-in_default-clause-ok c = no_repaired_line (found_of c.args.options.now) c.in_default.ensures

pub returns-clause-ok : goal.returns-clause-ok
returns-clause-ok c = repair_asked (found_of c.args.options.now) _ _
    (ap Some c.in_ok-file.ensures.ok ∙ c.in-Some.ensures) c.flag_given-write.ensures

pub returns-in_err-file-clause-err : goal.returns-in_err-file-clause-err
returns-in_err-file-clause-err c =
    on_err c.from_residual.result
    (Repairing _ _, tt, repair_asked (found_of c.args.options.now) _ _ c.in-Some.ensures refl)
