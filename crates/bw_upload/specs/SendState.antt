-- A sender and the requests that it is to send.
use Rattle.std.specs.Prelude.{◌≡◌, ◌<◌, ◌≤◌, ◌++◌, ℕ, Bool, true, false, ◌||◌, not, Option}
use Rattle.std.specs.Prelude.{Some, None, is_none}
use Rattle.std.specs.Prelude.{List, [], ◌∷◌, length, drop, ◌==◌, if◌then◌else◌}
use Rattle.bw_model.specs.Bytes.{at}
use Rattle.bw_model.specs.Take.{Request, Stored}
use Rattle.bw_model.specs.Replies.{Reply}
use Rattle.bw_model.specs.World.{Sender, OfferFault, NumbersSpent, BeforeOpen, AfterClose}
use Rattle.bw_model.specs.World.{WindowFull, offer, offer_fault, pending, refused, stored}
use Rattle.bw_sender.specs.Senders.{IsSender, new_sender}
use Rattle.bw_sender.specs.Hears.{hear_all}
use Rattle.bw_console.specs.declared.exit.Exit.{Exit}
use Rattle.bw_console.specs.declared.exit.Exit.TheVariants.{Done, Refused, Device}
use Rattle.bw_upload.specs.declared.dispatch.Dispatch.{Dispatch}

-- the requests of an input, the sender to which the first of them were offered, and whether no more
-- are offered
pub record Sending : Type 0 where
  pub requests : List Request
  pub sender : Sender
  pub is_stopped : Bool

-- nothing was offered yet
abbrev pub new_sending : List ℕ → List Request → Sending
new_sending name requests =
    record { requests = requests; sender = new_sender name; is_stopped = false }

-- an offer that is refused so is the last one
abbrev pub is_last_offer : Option OfferFault → Bool
is_last_offer None = false
is_last_offer (Some NumbersSpent) = true
is_last_offer (Some BeforeOpen) = true
is_last_offer (Some AfterClose) = true
is_last_offer (Some WindowFull) = false

-- the sending after a request was offered
abbrev pub offer_next : Sending → Request → Sending
offer_next x r =
    record x { sender = offer x.sender r; is_stopped = is_last_offer (offer_fault x.sender r) }

-- after these were, in their order, up to the first that is refused
unfoldable pub offer_all : Sending → List Request → Sending
offer_all x [] = x
offer_all x (r ∷ rs) =
    if is_none (offer_fault x.sender r) then offer_all (offer_next x r) rs else offer_next x r

-- the requests that weren't offered yet
abbrev pub unoffered : Sending → List Request
unoffered x = drop (length x.sender.offered) x.requests

-- the sending after more was offered, as far as the window has room
unfoldable pub offer_more : Sending → Sending
offer_more x = if x.is_stopped then x else offer_all x (unoffered x)

-- after these replies were heard
abbrev pub hear_in : Sending → List Reply → Sending
hear_in x heard = record x { sender = hear_all x.sender heard }

-- all that was offered has its verdict
abbrev pub IsSettled : Sending → Type 0
IsSettled x = pending x.sender 0 ≡ None

-- a request was refused, by its verdict or when it was offered
abbrev pub has_refused : Sending → Bool
has_refused x = x.is_stopped || not (length (refused x.sender) == 0)

-- how the command ends: `Done` if each line's request is settled and stored
abbrev pub exit_for_sender : Sending → Exit
exit_for_sender x =
    if has_refused x then Refused
    else if stored x.sender == length x.requests then Done else Device

-- The requests that were offered are the first of the input, and only they have verdicts.
pub record OffersInOrder (x : Sending) : Type 0 where
  pub prefix : x.sender.offered ++ unoffered x ≡ x.requests
  pub within : length x.sender.verdicts ≤ length x.sender.offered

-- Each request of the input was offered, and has the verdict Stored.
pub record EachIsStored (x : Sending) : Type 0 where
  pub all : x.sender.offered ≡ x.requests
  pub stored : (n : ℕ) → n < length x.requests → at x.sender.verdicts n ≡ Some Stored

-- the code has got this far with the requests
pub record IsSending (x : Sending) (p : Dispatch) : Type 0 where
  pub sender : IsSender x.sender p.sender
  pub offered : p.offered ≡ length x.sender.offered
  pub stopped : p.is_stopped ≡ x.is_stopped
