use Rattle.bw_machine.specs.OpensHere.{OpensHere}
use Rattle.bw_machine.proofs.OpenedServers.{opened_same}
use Rattle.bw_machine.proofs.starting.TcpNetworkOpens.open.Goals as goal

pub returns-in-Ok-clause-received : goal.returns-in-Ok-clause-received
returns-in-Ok-clause-received c =
    opened_same c.in-Ok.field-0.server c.new.result.server c.in-Ok.field-0.takes c.new.ensures
    (λ r. OpensHere c.args.self.now c.args.folder.now c.args.limit c.args.sync r c.open_kept.new.network)
    c.in-Ok.ensures.here
