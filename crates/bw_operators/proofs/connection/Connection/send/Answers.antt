use Rattle.std.proofs.Common.{refl, rules}
use Rattle.bw_operators.proofs.ConnectedLemmas.{sends, sent_more}
use Rattle.bw_operators.proofs.connection.Connection.send.Goals as goal

pub returns-in-Bytes-clause-connection : goal.returns-in-Bytes-clause-connection
returns-in-Bytes-clause-connection g c = λ is. c.finish.ensures.connection (sent_more g.L.Link c.args.self.now.phase c.args.self.now.link
    c.send.new.self c.args.self.now.held.items c.args.self.now.response.items c.waiting_of-waiting.result.now
    c.args.self.now.sent c.in-Bytes.count c.requires c.in-Bytes.ensures.given c.in-Bytes.ensures.taken (search rules)
    c.in-Bytes.ensures.within.1 is)

pub returns-in-Bytes-clause-works : goal.returns-in-Bytes-clause-works
returns-in-Bytes-clause-works g c = sends g.L.Link c.args.self.now _ c.finish.new.self c.waiting_of-waiting.result.now
    c.in-Bytes.count c.finish.ensures.finishes c.requires refl refl refl refl (search rules)
    c.in-Bytes.ensures.within.0 c.in-Bytes.ensures.within.1 c.in-Bytes.ensures.given c.in-Bytes.ensures.taken
