use Rattle.std.proofs.Common.{rules, sym}
use Rattle.bw_connections.specs.Places.{connection_count}
use Rattle.bw_serve.proofs.Growing.{one_can}
use Rattle.bw_serve.proofs.event_loop.EventLoop.can_go_on.Goals as goal

pub returns-then-can_go_on : goal.returns-then-can_go_on
returns-then-can_go_on g c =
    sym (one_can c.args.self.now c.loop-place.place (connection_count c.args.self.now.connections) (search rules) (search rules))
