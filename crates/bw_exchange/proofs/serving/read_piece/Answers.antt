use Rattle.std.proofs.Common.{rules, ◌+◌, ◌-◌, ◌^◌, [], ℕ, ap, ◌∙◌, arith, inr}
use Rattle.std.specs.Prelude.{min}
use Rattle.bw_exchange.proofs.Feeds.{feeds_next, stops_reading}
use Rattle.bw_exchange.proofs.Reading.{has_given-nothing, has_none_left}
use Rattle.bw_exchange.proofs.serving.read_piece.Goals as goal

pub returns-then-count-eq0-clause-fed : goal.returns-then-count-eq0-clause-fed
returns-then-count-eq0-clause-fed g c =
    let zero = c.if-count-eq0.true in
    let r = c.in-Ok.ensures.ok in
    record {
      piece = [];
      given = has_given-nothing _ _ _ c.in-Ok.count c.read.new.buf zero r;
      short = search rules;
      counted = c.in-Ok.ensures.moved
          ∙ ap (λ (n : ℕ). min (g.R.Source.moved c.args.reader.now + n) (2 ^ 64 - 1)) zero;
      does = c.finish.ensures.done;
      by_end = inr (
        c.finish.ensures.over,
        has_none_left _ _ _ c.in-Ok.count c.read.new.buf zero (omega (arith, c.requires.buffer)) r,
      );
    }

pub returns-clause-fed : goal.returns-clause-fed
returns-clause-fed g c =
    feeds_next _ _ _ _ _ c.in-Ok.count _ c.read.new.buf c.args.exchange.now _ c.in-Ok.ensures.ok (search rules)
    (search rules) c.if-count-eq0.false c.in-Ok.ensures.moved c.requires.wants_read c.feed_piece.ensures.fed
    c.feed_piece.ensures.end

pub returns-clause-stops : goal.returns-clause-stops
returns-clause-stops g c =
    stops_reading _ _ _ c.in-Ok.count _ c.read.new.buf c.in-Ok.ensures.ok (search rules) (search rules)
    c.if-count-eq0.false c.feed_piece.ensures.bytes c.feed_piece.ensures.memory
