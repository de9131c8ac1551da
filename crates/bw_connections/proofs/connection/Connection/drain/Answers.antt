use Rattle.std.proofs.Common.{rules, []}
use Rattle.bw_connections.proofs.Going.{drained, let_go, no_more, some_taken}
use Rattle.bw_connections.proofs.connection.Connection.drain.Goals as goal

pub returns-in-Ended-clause-goes : goal.returns-in-Ended-clause-goes
returns-in-Ended-clause-goes g c =
    let r = c.in-Ended.ensures in
    drained g.L.Link c.args.fault c.args.self.now (record c.args.self.now { link = c.receive.new.self }) [] c.requires
    (record { given = r.given; taken = no_more g.L.Link.taken _ _ r.taken; ended = r.ended; finished = r.finished })

pub returns-in-Failed-clause-goes : goal.returns-in-Failed-clause-goes
returns-in-Failed-clause-goes g c =
    let r = c.in-Failed.ensures in
    drained g.L.Link c.args.fault c.args.self.now (record c.args.self.now { link = c.receive.new.self }) [] c.requires
    (record { given = r.given; taken = no_more g.L.Link.taken _ _ r.taken; ended = r.ended; finished = r.finished })

pub returns-in-Bytes-clause-lets_go : goal.returns-in-Bytes-clause-lets_go
returns-in-Bytes-clause-lets_go g c =
    let_go g.L.Link c.args.self.now (record c.args.self.now { link = c.receive.new.self }) _
    (some_taken _ _ (search rules) (search rules)) c.in-Bytes.ensures.given
