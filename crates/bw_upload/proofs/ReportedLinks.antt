-- What was heard in rounds is what their links gave, where that is reported.
use Rattle.std.proofs.Common.{◌≡◌, ℕ, Option, Some, Result, List, [], ◌∷◌, ◌++◌, refl, sym, ◌∙◌, ap, subst, inl, inr}
use Rattle.std.proofs.Common.{append_assoc, rules}
use Rattle.bw_model.specs.Replies.{Reply}
use Rattle.bw_stream.specs.declared.sink.Sink.{Ghosts as Writer}
use Rattle.bw_stream.specs.declared.source.Source.{Ghosts as Reader}
use Rattle.bw_sender.specs.declared.sender.Sender.{Sender}
use Rattle.bw_wire.specs.Codecs.{reply_codec, spelling_of, Spelled}
use Rattle.bw_sender.specs.Hears.{Hears}
use Rattle.bw_sender.specs.Sent.{Exchanges}
use Rattle.bw_sender.specs.declared.send_fault.SendFault.{SendFault}
use Rattle.bw_upload.specs.RoundsMade.{AreHeardFrom, AreRounds, BeginWith, IsRound, heard_over}
use Rattle.bw_upload.specs.SendState.{Sending, hear_in, offer_more}
use Rattle.bw_ports.specs.declared.dial.Dial.{Ghosts as DialGhosts}

longer : (input rest more bytes : List ℕ) (heard : List Reply) → Spelled Reply reply_codec input heard rest →
    input ++ more ≡ bytes → BeginWith bytes heard
longer input rest more bytes heard s e = (
  rest ++ more,
  record {
    each = s.each;
    whole = sym e ∙ ap (λ (z : List ℕ). z ++ more) s.whole ∙ append_assoc (spelling_of reply_codec heard) rest more;
  },
)

-- what was heard in an exchange are the first replies that its link gave
hears_begin : {result : Result (Unit {0}) SendFault} {x y : Sender} {left left' : Option (List ℕ)}
    (h : Hears result x y left left') (bytes : List ℕ) → left ≡ Some bytes → BeginWith bytes h.heard
hears_begin h bytes reported =
    let given = h.given bytes reported in longer h.input h.prefix.0 given.0 bytes h.heard h.prefix.1 given.2

heard_begin : {R W : Type 0} {reader : Reader R} {writer : Writer W} {result : Result (Unit {0}) SendFault}
    {x y : Sender} {r r' : R} {w w' : W} (e : Exchanges reader writer result x y r r' w w') (bytes : List ℕ) →
    reader.left r ≡ Some bytes → BeginWith bytes (heard_over e)
heard_begin (inl whole) bytes reported = hears_begin whole.over.hears bytes reported
heard_begin (inr (inl broke)) bytes reported = hears_begin broke.over.hears bytes reported
heard_begin (inr (inr lacks)) bytes reported = (bytes, record { each = search rules; whole = refl })

module _ {D R W : Type 0} (dial : DialGhosts D R W) (reader : Reader R) (writer : Writer W) where
  pub rounds_reported : (x : Sending) (heard : List (List Reply)) (y : Sending) (d e : D) →
      AreRounds dial reader writer x heard y d e → (xs : List (List ℕ)) → dial.links d ≡ Some xs →
      AreHeardFrom heard xs
  rounds_reported x [] y d e went xs reported = tt
  rounds_reported x (h ∷ hs) y d e went xs reported = go went.2 (rounds_reported (hear_in (offer_more x) h) hs y went.0 e went.3)
    where
      go : IsRound dial reader writer (offer_more x).sender h d went.0 →
          ((xs : List (List ℕ)) → dial.links went.0 ≡ Some xs → AreHeardFrom hs xs) → AreHeardFrom (h ∷ hs) xs
      go (inl none) rec = inl (none.none, rec xs (none.kept ∙ reported))
      go (inr made) rec =
          let next = made.next xs reported in
          let first = heard_begin made.exchange.exchanges next.0 next.3 in
          inr (next.0, next.1, next.2, subst (BeginWith next.0) (sym made.exchange.heard_is) first, rec next.1 next.4)
