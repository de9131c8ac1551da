use Rattle.std.proofs.Common.{rules, codes}
use Rattle.std.specs.Prelude.{is_some}
use Rattle.clap.specs.Words.{first_value, found_of}
use Rattle.bw_args.proofs.Asked.{no_place}
use Rattle.bw_args.proofs.commands.serving.status_given.Goals as goal

pub returns-in-None : goal.returns-in-None
returns-in-None c = no_place c.args.network (first_value (found_of c.args.options.now) (codes "status"))
    (is_some (first_value (found_of c.args.options.now) (codes "recorders"))) (search rules) c.in-None.ensures
