use Rattle.bw_serve.proofs.Giving.{gives_more}
use Rattle.std.proofs.Common.{arith}
use Rattle.bw_serve.proofs.filtered_link.FilteredLinkLink.receive.Goals as goal

pub returns-in-Bytes-clause-given : goal.returns-in-Bytes-clause-given
returns-in-Bytes-clause-given g c =
    gives_more (g.L.Link.given c.args.self.now.link) (g.L.Link.given c.receive-received.new.self)
    c.args.self.now.one_name c.args.self.now.filter c.pass.new.self c.receive-received.new.buffer c.pass.new.bytes
    c.in-Bytes.count (omega (arith, c.in-Bytes.ensures.within, c.receive-received.auto.buffer))
    c.in-Bytes.ensures.given c.pass.ensures.after c.pass.ensures.given
