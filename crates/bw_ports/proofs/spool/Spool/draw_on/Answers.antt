use Rattle.std.proofs.Common.{rules, ◌∙◌, List, ℕ, refl, subst, take}
use Rattle.std.proofs.lemmas.List.{with_items_is}
use Rattle.bw_stream.specs.Moves.{Begins, Writes}
use Rattle.bw_ports.proofs.Drawing.{appended, appended_in_part, draws_bytes, draws_failure}
use Rattle.bw_ports.proofs.spool.Spool.draw_on.Goals as goal
use Rattle.bw_ports.proofs.spool.Spool.draw_on.Goals.{In-Ok, In-Err}

-- what came was written
written : (g : _) (c : In-Ok g) → Writes (g.W.Sink.written c.args.self.now.file)
    (take c.in-Bytes.count c.receive.new.buffer) (g.W.Sink.written c.write_all.new.writer)
written g c = subst (λ (b : List ℕ). Writes (g.W.Sink.written c.args.self.now.file) (take c.in-Bytes.count b)
    (g.W.Sink.written c.write_all.new.writer))
    (c.deref.ensures.value ∙ with_items_is c.args.self.now.piece c.receive.new.buffer (search rules)) c.in-Ok.ensures.ok

-- a front of what came was written
begun : (g : _) (c : In-Err g) → Begins (g.W.Sink.written c.args.self.now.file)
    (take c.in-Bytes.count c.receive.new.buffer) (g.W.Sink.written c.write_all.new.writer)
begun g c = subst (λ (b : List ℕ). Begins (g.W.Sink.written c.args.self.now.file) (take c.in-Bytes.count b)
    (g.W.Sink.written c.write_all.new.writer))
    (c.deref.ensures.value ∙ with_items_is c.args.self.now.piece c.receive.new.buffer (search rules)) c.in-Err.ensures.err

pub returns-in-Ok-clause-spooled : goal.returns-in-Ok-clause-spooled
returns-in-Ok-clause-spooled g c = λ base s.
    appended g.L.Link g.W.Sink base (take c.in-Bytes.count c.receive.new.buffer) c.args.self.now _ c.requires.open c.requires.open
    c.in-Bytes.ensures.given (written g (goal.at.returns-in-Ok-clause-spooled g c).In-Ok) s

pub returns-in-Ok-clause-drawn : goal.returns-in-Ok-clause-drawn
returns-in-Ok-clause-drawn g c = draws_bytes g.L.Link g.W.Sink (take c.in-Bytes.count c.receive.new.buffer) c.args.self.now _
    c.requires.open c.requires.open (search rules) c.in-Bytes.ensures.given
    (written g (goal.at.returns-in-Ok-clause-drawn g c).In-Ok)

pub returns-in-Err-clause-spooled : goal.returns-in-Err-clause-spooled
returns-in-Err-clause-spooled g c = λ base s.
    appended_in_part g.L.Link g.W.Sink base (take c.in-Bytes.count c.receive.new.buffer) c.args.self.now _ c.requires.open refl
    c.in-Bytes.ensures.given (begun g (goal.at.returns-in-Err-clause-spooled g c).In-Err) s

pub returns-in-Err-clause-drawn : goal.returns-in-Err-clause-drawn
returns-in-Err-clause-drawn g c = draws_failure g.L.Link g.W.Sink (take c.in-Bytes.count c.receive.new.buffer) c.args.self.now _
    c.requires.open refl c.in-Bytes.ensures.given (begun g (goal.at.returns-in-Err-clause-drawn g c).In-Err)
