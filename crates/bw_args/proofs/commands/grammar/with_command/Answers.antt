use Rattle.bw_args.proofs.BuilderLemmas.{any_subcommand}
use Rattle.bw_args.proofs.commands.grammar.with_command.Goals as goal

pub returns : goal.returns
returns c =
    any_subcommand c.in_ok-program.program c.in_ok-command.field-0 c.args.program c.args.command c.subcommand.result
    c.in_ok-program.was c.in_ok-command.was c.subcommand.ensures
