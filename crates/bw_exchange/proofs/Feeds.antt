-- A piece that was read is fed, or there is no memory for it.
use Rattle.std.proofs.Common.{◌≡◌, ℕ, ◌+◌, ◌-◌, ◌^◌, ◌≤◌, true, List, [], length, take, Option, Result, Ok, Err, IfErr}
use Rattle.std.proofs.Common.{OnOk}
use Rattle.std.proofs.Common.{ap, subst, ◌∙◌, sym, arith, inl}
use Rattle.std.specs.Prelude.{min, is_some, IsTrue}
use Rattle.std.proofs.lemmas.List.{length-take-le}
use Rattle.bw_model.specs.Wire.{are_bytes}
use Rattle.bw_stream.specs.Moves.{Reads}
use Rattle.bw_wire.specs.Held.{longest_message_piece}
use Rattle.bw_exchange.specs.declared.exchange.Exchange.{Exchange}
use Rattle.bw_exchange.specs.declared.serving.ExchangeEnd.{ExchangeEnd}
use Rattle.bw_exchange.specs.declared.serving.ExchangeEnd.TheVariants.{Memory}
use Rattle.bw_exchange.specs.Done.{DoesMore}
use Rattle.bw_exchange.specs.Pieces.{FeedsNext, StopsReading}
use Rattle.bw_exchange.proofs.Reading.{has_given-piece}

-- some bytes were read, and then fed
pub feeds_next : (r : Result (Unit {0}) ExchangeEnd) (left left' : Option (List ℕ)) (moved moved' count most : ℕ)
    (buf : List ℕ) (e e' : Exchange) → Reads left most count buf left' → count ≤ length buf →
    length buf ≡ longest_message_piece → (count ≡ 0 → ⊥) → moved' ≡ min (moved + count) (2 ^ 64 - 1) →
    e.wants_read ≡ true → OnOk r (DoesMore e (take count buf) [] [] e') → OnOk r (e'.end ≡ e.end) →
    OnOk r (FeedsNext left left' moved moved' e e')
feeds_next (Err why) left left' moved moved' count most buf e e' reads within long some m wants_read does end = tt
feeds_next (Ok x) left left' moved moved' count most buf e e' reads within long some m wants_read does end =
    let len = length-take-le count buf within in
    record {
      piece = take count buf;
      given = has_given-piece left left' most count buf reads;
      short = omega (arith, len, within, long);
      counted = m ∙ ap (λ (n : ℕ). min (moved + n) (2 ^ 64 - 1)) (sym len);
      does = does;
      by_end = inl (ap is_some end ∙ e.«open» wants_read, omega (arith, len, some));
    }

-- some bytes were read, for which there is no memory
pub stops_reading : (r : Result (Unit {0}) ExchangeEnd) (left left' : Option (List ℕ)) (count most : ℕ)
    (buf : List ℕ) → Reads left most count buf left' → count ≤ length buf → length buf ≤ longest_message_piece →
    (count ≡ 0 → ⊥) → IsTrue (are_bytes (take count buf)) → IfErr r (λ end. end ≡ Memory) →
    IfErr r (λ end. StopsReading end left left')
stops_reading (Ok x) left left' count most buf reads within long some bytes memory = tt
stops_reading (Err end) left left' count most buf reads within long some bytes memory =
    let len = length-take-le count buf within in
    subst (λ (x : ExchangeEnd). StopsReading x left left') (sym memory) (
      take count buf,
      bytes,
      has_given-piece left left' most count buf reads,
      omega (arith, len, within, long),
      omega (arith, len, some),
    )
