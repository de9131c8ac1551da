use Rattle.bw_args.proofs.commands.grammar.on_files.Goals as goal

pub returns : goal.returns
returns c =
    c.with_command.ensures _ _ (c.with_command-program-3.ensures _ _
    (c.with_command-program-2.ensures _ _ (c.with_command-program.ensures _ _ c.offline.ensures c.picture.ensures)
    c.repair.ensures) c.convert.ensures) c.join.ensures
