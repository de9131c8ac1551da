use Rattle.std.proofs.Common.{inl, refl, rules, take}
use Rattle.bw_operators.proofs.ConnectedLemmas.{drained, some_taken}
use Rattle.bw_operators.proofs.connection.Connection.drain.Goals as goal

pub returns-in-Bytes-clause-connection : goal.returns-in-Bytes-clause-connection
returns-in-Bytes-clause-connection g c = drained g.L.Link c.args.self.now.phase c.args.self.now.link c.receive.new.self
    c.args.self.now.held.items c.args.self.now.response.items _ c.args.self.now.sent c.requires c.receive.ensures.given
    c.receive.ensures.taken

pub returns-in-Bytes-clause-works : goal.returns-in-Bytes-clause-works
returns-in-Bytes-clause-works g c = record {
  piece = take c.in-Bytes._count c.receive.new.buffer;
  link = record {
    given = c.in-Bytes.ensures.given;
    taken = c.in-Bytes.ensures.taken;
    moved = inl (some_taken c.in-Bytes._count c.receive.new.buffer c.in-Bytes.ensures.within.0 (search rules));
  };
  phase = c.requires;
  response = refl;
  held = refl;
}
