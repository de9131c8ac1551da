use Rattle.std.proofs.Common.{arith}
use Rattle.bw_serve.proofs.Giving.{reads_through}
use Rattle.bw_serve.proofs.filtered_reader.FilteredReaderSource.read.Goals as goal

pub returns-clause-ok : goal.returns-clause-ok
returns-clause-ok g c =
    reads_through c.args.self.now.filter c.pass.new.self (g.R.Source.left c.args.self.now.reader)
    (g.R.Source.left c.read.new.self) _ c.in_ok-count.count c.read.new.buf c.pass.new.bytes
    (omega (arith, c.in_ok-count.ensures.within, c.read.auto.buf)) c.in_ok-count.ensures.ok c.pass.ensures.after
    c.pass.ensures.given
