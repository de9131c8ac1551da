use Rattle.std.proofs.Common.{[]}
use Rattle.bw_tests_stops.proofs.promised.begin.Goals as goal

pub returns : goal.returns
returns c = c.begin.ensures.running [] (c.new.ensures c.args.limit)
