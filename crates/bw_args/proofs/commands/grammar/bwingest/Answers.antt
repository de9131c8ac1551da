use Rattle.bw_args.proofs.commands.grammar.bwingest.Goals as goal

pub returns : goal.returns
returns c =
    c.with_command.ensures _ _ (c.with_command-program.ensures _ _ c.on_folders.ensures c.serve.ensures) c.send.ensures
