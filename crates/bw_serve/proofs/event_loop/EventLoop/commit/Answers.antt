use Rattle.bw_serve.proofs.Withholding.{withholds_none}
use Rattle.bw_serve.proofs.event_loop.EventLoop.commit.Goals as goal

pub returns-in-Ok-clause-withholds : goal.returns-in-Ok-clause-withholds
returns-in-Ok-clause-withholds g c =
    withholds_none g.L.Link g.O.Sink g.E.Sink c.args.log c.args.self.now c.args.out.now c.args.faults.now

pub returns-in-Err-SyncFault-clause-withholds : goal.returns-in-Err-SyncFault-clause-withholds
returns-in-Err-SyncFault-clause-withholds g c =
    withholds_none g.L.Link g.O.Sink g.E.Sink c.args.log c.args.self.now c.args.out.now c.args.faults.now
