use Rattle.std.proofs.Common.{rules, arith}
use Rattle.bw_sender.proofs.HeardPieces.{feeds_replies, no_room}
use Rattle.bw_exchange.proofs.Reading.{has_given-nothing, has_none_left}
use Rattle.bw_sender.proofs.hearing.read_piece.Goals as goal

pub returns-then-count-eq0-clause-reads : goal.returns-then-count-eq0-clause-reads
returns-then-count-eq0-clause-reads g c =
    let zero = c.if-count-eq0.true in
    let r = c.in-Ok.ensures.ok in
    record {
      given = has_given-nothing _ _ _ c.in-Ok.count c.read.new.buf zero r;
      none = has_none_left _ _ _ c.in-Ok.count c.read.new.buf zero (omega (arith, c.requires.buffer)) r;
      kept = search rules;
    }

pub returns-clause-reads : goal.returns-clause-reads
returns-clause-reads g c =
    feeds_replies _ _ _ _ c.in-Ok.count _ c.read.new.buf c.args.framer.now _ c.in-Ok.ensures.ok (search rules)
    (search rules) c.if-count-eq0.false c.in-Ok.ensures.moved c.feed_piece.ensures.bytes
    c.in-Ok-feed_piece.ensures.fed

pub returns-in_default-feed_piece-clause-stops : goal.returns-in_default-feed_piece-clause-stops
returns-in_default-feed_piece-clause-stops g c =
    no_room _ _ c.in-Ok.count _ c.read.new.buf c.in-Ok.ensures.ok (search rules) (search rules)
    c.if-count-eq0.false c.feed_piece.ensures.bytes
