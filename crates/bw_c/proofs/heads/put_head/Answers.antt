use Rattle.std.proofs.Common.{◌<◌, ◌∙◌, List, ℕ, sym, subst, arith}
use Rattle.std.specs.Prelude.{IsTrue}
use Rattle.bw_model.specs.Wire.{is_name}
use Rattle.bw_c.proofs.HeadLaws.{refuses_offer, refuses_request, refuses_name}
use Rattle.bw_c.proofs.heads.put_head.Goals as goal

pub returns-then-not-may_offer-clause-some : goal.returns-then-not-may_offer-clause-some
returns-then-not-may_offer-clause-some c = (
  λ some. absurd (omega (arith, some)),
  λ w. absurd (refuses_offer c.args.sender.now _ _ (sym c.may_offer.ensures.value ∙ c.if-not-may_offer.true) w),
)

pub returns-then-not-fits-clause-some : goal.returns-then-not-fits-clause-some
returns-then-not-fits-clause-some c = (
  λ some. absurd (omega (arith, some)),
  λ w. absurd (refuses_request c.args.sender.now _ _ (sym c.fits.ensures.value ∙ c.if-not-fits.true) w),
)

pub returns-in-None-clause-some : goal.returns-in-None-clause-some
returns-in-None-clause-some c = (
  λ some. absurd (omega (arith, some)),
  λ w. absurd (refuses_name c.args.sender.now _ _
      (λ named. c.in-None.ensures (subst (λ (b : List ℕ). IsTrue (is_name b)) (sym c.name_bytes.ensures) named)) w),
)

pub returns-in-Some-clause-wrote : goal.returns-in-Some-clause-wrote
returns-in-Some-clause-wrote c = c.put_named.ensures.wrote

pub returns-in-Some-clause-some : goal.returns-in-Some-clause-some
returns-in-Some-clause-some c = c.put_named.ensures.some

pub returns-in-Some-clause-none : goal.returns-in-Some-clause-none
returns-in-Some-clause-none c = c.put_named.ensures.none
