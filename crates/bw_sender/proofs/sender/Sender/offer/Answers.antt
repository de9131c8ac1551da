use Rattle.std.proofs.Common.{sym, ◌∙◌, ap, refl, rules}
use Rattle.bw_sender.specs.Offers.{checked_fault}
use Rattle.bw_sender.proofs.SenderLaws.{offers_one}
use Rattle.bw_sender.proofs.sender.Sender.offer.Goals as goal

pub returns-clause-ok : goal.returns-clause-ok
returns-clause-ok c = λ s f.
    let fault = sym (c.check_offer.ensures.fault s f) ∙ ap checked_fault c.in_default.is in (
      f.offered,
      fault,
      offers_one s c.args.self.now _ c.args.request f fault refl refl c.push.ensures refl
          c.reserve.ensures.numbers refl,
    )

pub invariant_of-self : goal.invariant_of-self
invariant_of-self c = search rules
