use Rattle.std.proofs.Common.{refl}
use Rattle.bw_connections.proofs.Going.{begun}
use Rattle.bw_connections.proofs.Standing.{adds_none, keeps_begun, keeps_free}
use Rattle.bw_connections.proofs.connections.Connections.begin.Goals as goal

pub returns-clause-adds : goal.returns-clause-adds
returns-clause-adds g c =
    let b = c.in-Ok.ensures in
    adds_none g.L.Link c.args.self.now _ (λ over trace.
    keeps_begun g.L.Link c.args.self.now _ c.args.place c.in-Ok.connection over trace c.in-Some.ensures.1 c.requires.free
    c.put_at.ensures.sets b.under
    (begun g.L.Link c.args.link c.args.self.now.next _ c.in-Ok.connection c.requires.given c.requires.taken b))

pub returns-clause-begins : goal.returns-clause-begins
returns-clause-begins g c = record {
  connection = c.in-Ok.connection;
  there = c.put_at.ensures.sets.there;
  begins = c.in-Ok.ensures;
  next = c.in-Some.ensures.1;
  refused = refl;
}

pub returns-in_default-clause-adds : goal.returns-in_default-clause-adds
returns-in_default-clause-adds g c =
    adds_none g.L.Link c.args.self.now _ (λ over trace.
    keeps_free g.L.Link c.args.self.now _ c.args.place over trace refl c.requires.free
    (record { there = c.requires.free; elsewhere = λ j other. refl }))

pub returns-in_default-new-clause-adds : goal.returns-in_default-new-clause-adds
returns-in_default-new-clause-adds g c =
    adds_none g.L.Link c.args.self.now _ (λ over trace.
    keeps_free g.L.Link c.args.self.now _ c.args.place over trace refl c.requires.free
    (record { there = c.requires.free; elsewhere = λ j other. refl }))
