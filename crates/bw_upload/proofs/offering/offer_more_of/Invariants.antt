use Rattle.std.proofs.Common.{◌≡◌, ◌-◌, length}
use Rattle.bw_upload.specs.SendState.{Sending, IsSending}
use Rattle.bw_upload.proofs.OfferSteps.{OffersOn}
use Rattle.bw_upload.proofs.offering.offer_more_of.Given as goal

abbrev pub invariant-loop-dispatch : goal.invariant-loop-dispatch
invariant-loop-dispatch l = (x : Sending) → IsSending x l.fn.dispatch → x.requests ≡ l.requests →
    OffersOn l.requests x l.dispatch

abbrev pub decreases-loop-dispatch : goal.decreases-loop-dispatch
decreases-loop-dispatch l = length l.requests - l.dispatch.offered
