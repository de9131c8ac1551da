use Rattle.clap.specs.Words.{found_of}
use Rattle.bw_args.proofs.Asked.{given_asked, no_fuse_line, no_limit_line}
use Rattle.bw_args.proofs.commands.replay_line.Goals as goal

pub returns-in_default : goal.returns-in_default
returns-in_default c = no_limit_line (found_of c.args.options.now) c.in_default.ensures

pub returns-in_default-fuse_given : goal.returns-in_default-fuse_given
returns-in_default-fuse_given c = no_fuse_line (found_of c.args.options.now) c.in-Some.limit c.in-Some.ensures
    c.in_default-fuse_given.ensures

pub returns : goal.returns
returns c = given_asked (found_of c.args.options.now) c.in-Some.limit c.in-Ok.fuse c.in-Some.ensures c.in-Ok.ensures
