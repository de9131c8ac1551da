use Rattle.std.proofs.Common.{refl}
use Rattle.bw_tests_stops.proofs.Delivering.{delivered}
use Rattle.bw_tests_stops.proofs.promised.deliver.Goals as goal

pub returns : goal.returns
returns g c =
    delivered g.T.Turns.answers c.args.server.now c.store.new.server c.refuse.new.server c.store-2.new.server
    c.store-3.new.server c.store-4.new.server _ _ _ _ _ refl refl refl refl refl c.in_ok-store.ensures
    c.in_ok-refuse.ensures c.in_ok-store-2.ensures c.in_ok-store-3.ensures c.in_ok-store-4.ensures
