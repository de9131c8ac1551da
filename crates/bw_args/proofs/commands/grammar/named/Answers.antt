use Rattle.bw_args.proofs.BuilderLemmas.{command_about, command_after_help}
use Rattle.bw_args.proofs.commands.grammar.named.Goals as goal

pub returns : goal.returns
returns c = command_after_help c.about.result c.after_help.result _ _
    (command_about c.new.result c.about.result _ _ (c.new.ensures.app, c.new.ensures.local) c.about.ensures)
    c.after_help.ensures
