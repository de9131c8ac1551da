use Rattle.std.proofs.Common.{◌∙◌, ap, sym, fold, map}
use Rattle.std.proofs.Math.ListN.{drop_of_length-le}
use Rattle.std.proofs.lemmas.List.{at_drop_more}
use Rattle.clap.specs.Simple.{with_rule}
use Rattle.bw_args.specs.Rows.{rule_of_row}
use Rattle.bw_args.proofs.BuilderLemmas.{command_arg}
use Rattle.bw_args.proofs.commands.row.with_rows.Goals as goal

pub loop-row-preserved : goal.loop-row-preserved
loop-row-preserved c app is =
    let kept = c.loop-row.invariant app is in (
      _,
      command_arg c.loop-row.command c.in_ok-command.command c.arg.result _ _ kept.1 c.arg.ensures c.in_ok-command.ensures,
      sym (at_drop_more (λ rows. fold with_rule kept.0 (map rule_of_row rows)) c.args.rows.now c.loop-row.row-index _
          c.loop-row-test.true) ∙ kept.2,
    )

pub returns : goal.returns
returns c app is =
    let kept = c.loop-row.invariant app is in (
      kept.1.0 ∙ sym (ap (λ rows. fold with_rule kept.0 (map rule_of_row rows))
          (drop_of_length-le c.args.rows.now c.loop-row-test.false)) ∙ kept.2,
      kept.1.1,
    )
