use Rattle.clap.specs.Words.{found_of}
use Rattle.bw_args.proofs.Asked.{given_rehearsed, name_alone_line, no_name_line}
use Rattle.bw_args.proofs.commands.rehearse_line.Goals as goal

pub returns-in_default : goal.returns-in_default
returns-in_default c = no_name_line (found_of c.args.options.now) c.in_default.ensures

pub returns-in-Some-limit_given : goal.returns-in-Some-limit_given
returns-in-Some-limit_given c = given_rehearsed (found_of c.args.options.now) c.in-Some.name
    c.in-Some-limit_given.limit c.in-Some.ensures c.in-Some-limit_given.ensures

pub returns-in-None : goal.returns-in-None
returns-in-None c = name_alone_line (found_of c.args.options.now) c.in-Some.name c.in-Some.ensures c.in-None.ensures
