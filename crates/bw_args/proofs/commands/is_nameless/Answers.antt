use Rattle.std.proofs.Common.{◌∙◌, ap, rules}
use Rattle.clap.specs.Words.{found_of}
use Rattle.bw_args.specs.Lines.{is_nameless}
use Rattle.bw_args.proofs.Asked.{nameless_given}
use Rattle.bw_args.proofs.commands.is_nameless.Goals as goal

pub returns-then-eq : goal.returns-then-eq
returns-then-eq c =
    nameless_given (found_of c.in-Some.options.now) c.in-Some.name.now c.lacks_name.result (search rules)
    c.lacks_name.ensures ∙ ap is_nameless c.in-Some.ensures
