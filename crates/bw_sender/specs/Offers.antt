-- An offered request, and why an offer is refused, in the definitions' words.
use Rattle.std.specs.Prelude.{ℕ, Option, Some, None, Result, Ok, Err, option_map}
use Rattle.std.specs.Borrow.{Bor}
use Rattle.bw_model.specs.Take.{Request}
use Rattle.bw_model.specs.World as model
use Rattle.bw_model.specs.VerdictMeanings.{verdict_meaning}
use Rattle.bw_sender.specs.declared.offer.OfferError.{OfferError}
use Rattle.bw_sender.specs.declared.offer.OfferError.TheVariants as errors
use Rattle.bw_sender.specs.declared.window.Offered.{Offered}
use Rattle.bw_sender.specs.Entries.{SenderEntry}

-- an offered request, with its verdict
abbrev pub sender_entry : Offered → SenderEntry
sender_entry o = record { request = o.request; verdict = option_map verdict_meaning o.verdict }

-- why an offer is refused: lack of memory is no cause in the definitions
abbrev pub fault_of : OfferError → Option model.OfferFault
fault_of errors.NumbersSpent = Some model.NumbersSpent
fault_of errors.BeforeOpen = Some model.BeforeOpen
fault_of errors.AfterClose = Some model.AfterClose
fault_of errors.WindowFull = Some model.WindowFull
fault_of errors.Memory = None

-- a borrowed request, with its number
abbrev pub lent_pending : ℕ × Bor Request → ℕ × Request
lent_pending x = (x.0, x.1.now)

-- why a check refuses an offer
abbrev pub checked_fault : Result (Unit {0}) OfferError → Option model.OfferFault
checked_fault (Ok x) = None
checked_fault (Err e) = fault_of e

-- the number of a refusal, in the order in which they are checked
abbrev pub refusal_number : OfferError → ℕ
refusal_number errors.NumbersSpent = 1
refusal_number errors.BeforeOpen = 2
refusal_number errors.AfterClose = 3
refusal_number errors.WindowFull = 4
refusal_number errors.Memory = 5
