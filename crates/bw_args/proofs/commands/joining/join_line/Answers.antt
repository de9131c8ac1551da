use Rattle.std.proofs.Common.{Some, ap, ◌∙◌}
use Rattle.clap.specs.Words.{found_of}
use Rattle.bw_args.specs.Lines.{Joining}
use Rattle.bw_args.proofs.Asked.{on_err}
use Rattle.bw_args.proofs.JoinLemmas.{join_asked, no_left_line, no_take_line}
use Rattle.bw_args.proofs.commands.joining.join_line.Goals as goal

pub returns-in_default-clause-ok : goal.returns-in_default-clause-ok
returns-in_default-clause-ok c = no_take_line (found_of c.args.options.now) c.in_default.ensures

pub returns-in_default-get_str-clause-ok : goal.returns-in_default-get_str-clause-ok
returns-in_default-get_str-clause-ok c = no_left_line (found_of c.args.options.now) c.in_default-get_str.ensures

pub returns-clause-ok : goal.returns-clause-ok
returns-clause-ok c = join_asked (found_of c.args.options.now) _ _
    (ap Some c.in_ok-take.ensures.ok ∙ c.in-Some.ensures) (ap Some c.in_ok-left.ensures.ok ∙ c.in-Some-get_str.ensures)

pub returns-in_err-take-clause-err : goal.returns-in_err-take-clause-err
returns-in_err-take-clause-err c = on_err c.from_residual.result
    (Joining _ _, tt, join_asked (found_of c.args.options.now) _ _ c.in-Some.ensures c.in-Some-get_str.ensures)

pub returns-in_err-left-clause-err : goal.returns-in_err-left-clause-err
returns-in_err-left-clause-err c = on_err c.from_residual-in_err-left.result
    (Joining _ _, tt, join_asked (found_of c.args.options.now) _ _ c.in-Some.ensures c.in-Some-get_str.ensures)
