use Rattle.std.proofs.Common.{rules}
use Rattle.bw_operators.proofs.ConnectedLemmas.{read_on, reads}
use Rattle.bw_operators.proofs.connection.Connection.read.Goals as goal

pub returns-in-Bytes-clause-connection : goal.returns-in-Bytes-clause-connection
returns-in-Bytes-clause-connection g c = read_on g.L.Link c.args.self.now c.hold.new.self c.requires
    (reads g.L.Link c.args.self.now c.hold.new.self _ c.in-Bytes.count c.receive.new.buffer _
    c.in-Bytes.ensures.within.0 (search rules) c.in-Bytes.ensures.given c.in-Bytes.ensures.taken
    c.hold.ensures.link c.hold.ensures.held c.hold.ensures.phase)

pub returns-in-Bytes-clause-works : goal.returns-in-Bytes-clause-works
returns-in-Bytes-clause-works g c = reads g.L.Link c.args.self.now c.hold.new.self _ c.in-Bytes.count
    c.receive.new.buffer _ c.in-Bytes.ensures.within.0 (search rules) c.in-Bytes.ensures.given
    c.in-Bytes.ensures.taken c.hold.ensures.link c.hold.ensures.held c.hold.ensures.phase
