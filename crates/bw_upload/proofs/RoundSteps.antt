-- What rounds leave, one by one.
use Rattle.std.proofs.Common.{◌≡◌, ◌≢◌, ◌⊎◌, ℕ, ◌<◌, true, false, List, [], ◌∷◌, ◌++◌, length, refl, sym}
use Rattle.std.proofs.Common.{◌∙◌, ap, subst, Option, Some, None, Result, Ok, Err, OnOk, inl, inr}
use Rattle.std.specs.Prelude.{is_none, option_map}
use Rattle.std.specs.Borrow.{Bor}
use Rattle.bw_model.specs.Take.{Request}
use Rattle.bw_model.specs.Replies.{Reply}
use Rattle.bw_model.specs.World.{Sender as Defined}
use Rattle.bw_stream.specs.declared.sink.Sink.{Ghosts as Writer}
use Rattle.bw_stream.specs.declared.source.Source.{Ghosts as Reader}
use Rattle.bw_sender.specs.Offers.{lent_pending}
use Rattle.bw_sender.specs.Senders.{IsSender}
use Rattle.bw_sender.specs.declared.sender.Sender.{Sender}
use Rattle.bw_sender.specs.Hears.{hear_all}
use Rattle.bw_sender.specs.Sent.{Exchanges}
use Rattle.bw_sender.specs.declared.send_fault.SendFault.{SendFault}
use Rattle.bw_sender.proofs.HeardSenders.{all_heard}
use Rattle.bw_console.specs.Prints.{Nothing}
use Rattle.bw_console.specs.declared.fault.Fault.{Fault}
use Rattle.bw_console.specs.declared.fault.Fault.TheVariants as faults
use Rattle.bw_upload.specs.RequestLines.{RefusesRequests}
use Rattle.bw_upload.specs.Sends.{IsPrintOfSend}
use Rattle.bw_upload.specs.RoundsMade.{AreRounds, IsRound, MakesRounds, heard_over}
use Rattle.bw_upload.specs.SendState.{Sending, IsSending, IsSettled, hear_in, offer_more}
use Rattle.bw_upload.proofs.OfferSteps.{more_keeps}
use Rattle.bw_ports.specs.declared.dial.Dial.{Ghosts as DialGhosts}
use Rattle.bw_upload.specs.declared.dispatch.Dispatch.{Dispatch}

pub on_ok : {X E : Type 0} {P Q : Type 0} (r : Result X E) → OnOk r P → (P → Q) → OnOk r Q
on_ok (Ok x) p f = f p
on_ok (Err e) p f = tt

-- what was heard in an exchange is counted
pub counted : {R W : Type 0} {reader : Reader R} {writer : Writer W} {result : Result (Unit {0}) SendFault}
    {x y : Sender} {r r' : R} {w w' : W} (e : Exchanges reader writer result x y r r' w w') (s : Defined) →
    IsSender s x → IsSender (hear_all s (heard_over e)) y
counted (inl whole) s is = whole.over.hears.counted s is
counted (inr (inl broke)) s is = broke.over.hears.counted s is
counted (inr (inr lacks)) s is = subst (IsSender s) (sym lacks.unheard) is

pub heard_dispatch : (y : Sending) (heard : List Reply) (p : Dispatch) (sender : Sender) → IsSending y p →
    IsSender (hear_all y.sender heard) sender →
    IsSending (hear_in y heard) (record { sender = sender; offered = p.offered; is_stopped = p.is_stopped })
heard_dispatch y heard p sender k is = record {
  sender = is;
  offered = k.offered ∙ ap length (sym (all_heard y.sender heard));
  stopped = k.stopped;
}

-- Whether all is settled.

pub settled : (o : Option (ℕ × Bor Request)) (p : Option (ℕ × Request)) → option_map lent_pending o ≡ p →
    is_none o ≡ true → p ≡ None
settled None p e is = sym e
settled (Some x) p e is = absurd (cc)

pub unsettled : (o : Option (ℕ × Bor Request)) (p : Option (ℕ × Request)) → option_map lent_pending o ≡ p →
    is_none o ≡ false → p ≢ None
unsettled None p e is = absurd (cc)
unsettled (Some x) p e is = λ none. absurd (cc)

module _ {D R W : Type 0} (dial : DialGhosts D R W) (reader : Reader R) (writer : Writer W) where
  -- from x on this many rounds were made
  pub record RoundsOn (requests : List Request) (x : Sending) (p : Dispatch) (count : ℕ) (d d' : D) : Type 0 where
    pub heard : List (List Reply)
    pub y : Sending
    pub is : IsSending y p
    pub went : AreRounds dial reader writer x heard y d d'
    pub counted : length heard ≡ count
    pub from : y.requests ≡ requests

  -- one round more
  pub one_round : (x : Sending) (heard : List (List Reply)) (y : Sending) (new : List Reply) (d e f : D) →
      AreRounds dial reader writer x heard y d e → (¬ IsSettled (offer_more y)) →
      IsRound dial reader writer (offer_more y).sender new e f →
      AreRounds dial reader writer x (heard ++ new ∷ []) (hear_in (offer_more y) new) d f
  one_round x [] y new d e f went some round = (
    f,
    subst (λ (z : Sending). ¬ IsSettled (offer_more z)) went.0 some,
    subst (λ (z : Sending). IsRound dial reader writer (offer_more z).sender new d f) went.0
        (subst (λ (q : D). IsRound dial reader writer (offer_more y).sender new q f) went.1 round),
    (ap (λ (z : Sending). hear_in (offer_more z) new) went.0, refl),
  )
  one_round x (h ∷ hs) y new d e f went some round =
      (went.0, went.1, went.2, one_round (hear_in (offer_more x) h) hs y new went.0 e f went.3 some round)

  -- rounds leave the requests
  went_keeps : (x : Sending) (heard : List (List Reply)) (y : Sending) (d e : D) →
      AreRounds dial reader writer x heard y d e → y.requests ≡ x.requests
  went_keeps x [] y d e went = ap (λ (z : Sending). z.requests) went.0
  went_keeps x (h ∷ hs) y d e went = went_keeps (hear_in (offer_more x) h) hs y went.0 e went.3 ∙ more_keeps x

  pub rounds_keep : (rounds : ℕ) (x y : Sending) (d e : D) → MakesRounds dial reader writer rounds x y d e →
      y.requests ≡ x.requests
  rounds_keep rounds x y d e made = go made.ends
    where
      go : ((length made.heard ≡ rounds) × (y ≡ made.following))
          ⊎ ((length made.heard < rounds) × (y ≡ offer_more made.following) × IsSettled y) → y.requests ≡ x.requests
      go (inl all) = ap (λ (z : Sending). z.requests) all.1 ∙ went_keeps x made.heard made.following d e made.went
      go (inr few) =
          ap (λ (z : Sending). z.requests) few.1 ∙ more_keeps made.following
          ∙ went_keeps x made.heard made.following d e made.went

-- What refuses an input.

module _ {D R W : Type 0} (dial : DialGhosts D R W) (reader : Reader R) (writer : Writer W) where
  pub refuses_send : (name : List ℕ) (rounds : ℕ) (input : Option (List ℕ)) (d : D) (fault : Fault) →
      ((xs : List ℕ) → input ≡ Some xs → RefusesRequests fault xs) → fault ≢ faults.Unwritable →
      IsPrintOfSend dial reader writer name rounds input d d (Err fault) Nothing
  refuses_send name rounds input d faults.TooLong h own = record { is = refl; right = h; unsent = refl }
  refuses_send name rounds input d (faults.NotHex n) h own = record { is = refl; right = h; unsent = refl }
  refuses_send name rounds input d (faults.NotEvent n) h own = record { is = refl; right = h; unsent = refl }
  refuses_send name rounds input d (faults.NotRequest n) h own = record { is = refl; right = h; unsent = refl }
  refuses_send name rounds input d faults.Unreadable h own = record { is = refl; right = h; unsent = refl }
  refuses_send name rounds input d faults.Unwritable h own = absurd (own refl)
  refuses_send name rounds input d faults.Memory h own = refl
