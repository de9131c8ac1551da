use Rattle.bw_sender.proofs.HeardPieces.{hears-on}
use Rattle.bw_sender.proofs.hearing.hear_held.Goals as goal

pub returns-in_err-hear_next-clause-hears : goal.returns-in_err-hear_next-clause-hears
returns-in_err-hear_next-clause-hears c =
    hears-on c.args.sender.now c.loop.sender c.hear_next.new.sender c.args.framer.now c.loop.framer
    c.hear_next.new.framer c.loop.invariant c.hear_next.ensures.hears

pub loop-preserved : goal.loop-preserved
loop-preserved c =
    hears-on c.args.sender.now c.loop.sender c.hear_next.new.sender c.args.framer.now c.loop.framer
    c.hear_next.new.framer c.loop.invariant c.hear_next.ensures.hears

pub returns-clause-hears : goal.returns-clause-hears
returns-clause-hears c =
    hears-on c.args.sender.now c.loop.sender c.hear_next.new.sender c.args.framer.now c.loop.framer
    c.hear_next.new.framer c.loop.invariant c.hear_next.ensures.hears
