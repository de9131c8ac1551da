use Rattle.bw_args.proofs.commands.grammar.on_folders.Goals as goal

pub returns : goal.returns
returns c = c.with_command.ensures _ _ c.on_files.ensures c.takes.ensures
