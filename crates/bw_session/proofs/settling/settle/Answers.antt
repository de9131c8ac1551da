use Rattle.std.proofs.Common.{◌≡◌, suc, true, false, sym, ◌∙◌, subst}
use Rattle.bw_model.specs.Take.{Parts, Request, Verdict, is_stored}
use Rattle.bw_model.specs.Requests.{meaning}
use Rattle.bw_take.specs.States.{State, FollowsTakes}
use Rattle.bw_model.specs.VerdictMeanings.{verdict_meaning}
use Rattle.bw_session.specs.DoneNumbers.{KeepsDone}
use Rattle.bw_session.proofs.LogSteps.{keeps_stored, keeps_refused}
use Rattle.bw_session.proofs.settling.settle.Goals as goal
use Rattle.bw_session.proofs.settling.settle.Goals.{then-is_stored, else-is_stored}

pub returns-clause-keeps : goal.returns-clause-keeps
returns-clause-keeps c = λ existed name log k here d e.
    let r : Request = meaning c.args.request.now in
    let v : Verdict = verdict_meaning c.args.verdict in
    let old : Parts = c.args.state.now.parts in
    elim c.if-is_stored.branch [
      | then-is_stored w ↦
          let s : is_stored v ≡ true = sym c.is_stored.ensures.value ∙ w.if-is_stored.true in
          let follows : FollowsTakes old r c.if-is_stored.state.parts =
          subst (λ (x : State). FollowsTakes old r x.parts) (sym w.state-is) w.commit.ensures.takes in
          keeps_stored existed name log r old c.if-is_stored.state.parts c.args.ledger.now.outcomes
          c.push.new.self.outcomes
          c.args.digest.now v c.requires.judged s follows c.push.ensures.outcomes k here d e
      | else-is_stored w ↦
          let s : is_stored v ≡ false = sym c.is_stored.ensures.value ∙ w.if-is_stored.false in
          subst (λ (x : State). KeepsDone existed name
          (record log { done = suc log.done }) x.parts c.push.new.self.outcomes) (sym w.state-is)
          (keeps_refused existed name log r old c.args.ledger.now.outcomes c.push.new.self.outcomes
          c.args.digest.now v c.requires.judged s c.push.ensures.outcomes k here d e)
    ]
