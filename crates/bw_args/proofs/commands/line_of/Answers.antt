use Rattle.std.proofs.Common.{rules, refl}
use Rattle.clap.specs.Words.{found_of, rows_of}
use Rattle.bw_args.proofs.CommandLemmas.{unknown_line}
use Rattle.bw_args.proofs.commands.line_of.Goals as goal

pub returns-in_default-clause-ok : goal.returns-in_default-clause-ok
returns-in_default-clause-ok c = unknown_line _ c.args.name.now (rows_of (found_of c.args.options.now)) refl
    (search rules) (search rules) (search rules) (search rules) (search rules) (search rules) (search rules) (search rules)
    (search rules) (search rules) (search rules)
