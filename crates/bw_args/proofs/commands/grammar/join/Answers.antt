use Rattle.bw_args.proofs.commands.grammar.join.Goals as goal

pub returns : goal.returns
returns c = c.with_rows.ensures _ c.named-command.ensures
