use Rattle.std.proofs.Common.{refl, ap, ◌∙◌, arith}
use Rattle.bw_wire.specs.Codecs.{message_codec}
use Rattle.bw_wire.specs.FramerStates.{Pending, next_of}
use Rattle.bw_exchange.proofs.Staying.{fresh_nothing}
use Rattle.bw_exchange.proofs.exchange.Exchange.new.Goals as goal

pub invariant_of-result : goal.invariant_of-result
invariant_of-result c = record {
  capacity = let e = c.in_ok-with_capacity.ensures.exact in omega arith;
  waiting = let e = c.in_ok-with_capacity.ensures.len in omega arith;
  room = λ h. let e = c.in_ok-with_capacity.ensures.len in omega arith;
  «open» = λ h. refl;
  quiet = λ h. (
    ap (λ (p : Pending). (next_of message_codec p).0) c.new.ensures ∙ fresh_nothing,
    (
      (let e = ap (λ (p : Pending). p.held) c.new.ensures in omega arith),
      (let e = ap (λ (p : Pending). p.room) c.new.ensures in omega arith),
    ),
  );
  held = let e = ap (λ (p : Pending). p.held) c.new.ensures in omega arith;
  block = let e = ap (λ (p : Pending). p.room) c.new.ensures in omega arith;
}
