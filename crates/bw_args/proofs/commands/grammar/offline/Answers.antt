use Rattle.bw_args.proofs.commands.grammar.offline.Goals as goal

pub returns : goal.returns
returns c =
    c.with_command.ensures _ _ (c.with_command-inspects.ensures _ _ (c.with_command-rehearses.ensures _ _
    (c.with_command-replays.ensures _ _ c.program.ensures c.replay.ensures) c.rehearse.ensures) c.inspect.ensures)
    c.pack.ensures
