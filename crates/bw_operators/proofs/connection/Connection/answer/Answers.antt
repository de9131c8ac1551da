use Rattle.bw_operators.proofs.ConnectedLemmas.{answered}
use Rattle.bw_operators.proofs.connection.Connection.answer.Goals as goal

pub returns-clause-connection : goal.returns-clause-connection
returns-clause-connection g c = λ a s asks is_text is. answered g.L.Link c.args.self.now.phase c.args.self.now.link
    c.args.self.now.held.items c.args.self.now.response.items c.args.response.items c.args.self.now.sent a s asks
    is_text is
