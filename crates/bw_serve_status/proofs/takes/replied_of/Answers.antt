use Rattle.std.proofs.Common.{◌∙◌, sym, arith}
use Rattle.std.proofs.lemmas.List.{at_drop_all}
use Rattle.bw_serve_status.specs.Takes.{replied_of}
use Rattle.bw_serve_status.proofs.TakePlaces.{replied_here, replied_later}
use Rattle.bw_serve_status.proofs.takes.replied_of.Goals as goal

pub loop-tally-preserved : goal.loop-tally-preserved
loop-tally-preserved c =
    sym (replied_later c.args.name.now c.args.tallies.now c.loop-tally.tally-index c.tally-item.result
    (omega arith) c.tally-item.is
    (sym c.is_of.ensures ∙ c.if-is_of.false)) ∙ c.loop-tally.invariant

pub returns-then-is_of : goal.returns-then-is_of
returns-then-is_of c =
    sym (replied_here c.args.name.now c.args.tallies.now c.loop-tally.tally-index c.tally-item.result
    (omega arith) c.tally-item.is
    (sym c.is_of.ensures ∙ c.if-is_of.true)) ∙ c.loop-tally.invariant

pub returns : goal.returns
returns c =
    sym (at_drop_all (replied_of c.args.name.now) c.args.tallies.now c.loop-tally.tally-index
    (omega arith)) ∙ c.loop-tally.invariant
