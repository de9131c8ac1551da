use Rattle.std.proofs.Common.{rules}
use Rattle.bw_operators.proofs.ConnectedLemmas.{finished}
use Rattle.bw_operators.proofs.connection.Connection.finish.Goals as goal

pub returns-clause-connection : goal.returns-clause-connection
returns-clause-connection g c = finished g.L.Link c.args.self.now.phase c.args.self.now.link c.shut.new.self c.args.self.now.held.items
    c.args.self.now.response.items c.args.self.now.sent c.requires c.shut.ensures.given c.shut.ensures.taken
    (search rules)
