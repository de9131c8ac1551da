use Rattle.std.proofs.Common.{rules, sym}
use Rattle.std.proofs.lemmas.Result.{err_from_is_err_and}
use Rattle.bw_sender.proofs.Batching.{none_after}
use Rattle.bw_sender.proofs.SayingSteps.{said_none, said_more, said_part, said_all}
use Rattle.bw_sender.proofs.talk.say_from.Goals as goal

pub loop-place-init : goal.loop-place-init
loop-place-init g c = record { sent = λ s is. said_none c.args.next s _; writes = search rules }

pub returns-in_err-say_unless_said-clause-err : goal.returns-in_err-say_unless_said-clause-err
returns-in_err-say_unless_said-clause-err g c s is =
    let n = c.in-Some.number in
    let r = c.in-Some.request.now in
    let answer = err_from_is_err_and c.from_residual.result c.from_residual.ensures.1 in
    rw (answer.1, answer.2) (said_part
    c.in_err-say_unless_said.field-0.0 c.loop-place.place c.args.next s c.name.result.now _ _ _ (n, r)
    (c.name.ensures s is) (sym (c.in-Some.ensures.value s is)) (c.loop-place.invariant.sent s is)
    c.in_err-say_unless_said.ensures.err)

pub loop-place-preserved : goal.loop-place-preserved
loop-place-preserved g c = record {
  sent = λ s is.
      let n = c.in-Some.number in
      let r = c.in-Some.request.now in
      said_more c.loop-place.place c.args.next s c.name.result.now _ _ _ (n, r) (c.name.ensures s is)
      (sym (c.in-Some.ensures.value s is)) (c.loop-place.invariant.sent s is) c.in_ok-say_unless_said.ensures.ok;
  writes = search rules;
}

pub returns-after-loop-place-clause-ok : goal.returns-after-loop-place-clause-ok
returns-after-loop-place-clause-ok g c s is =
    let place = c.loop-place.place in
    said_all place c.args.next s _ _ (none_after s c.args.sender.now place is (search rules))
    (c.loop-place.invariant.sent s is)

pub returns-in_default-clause-ok : goal.returns-in_default-clause-ok
returns-in_default-clause-ok g c s is =
    said_all c.loop-place.place c.args.next s _ _ (sym (c.in_default.ensures.value s is))
    (c.loop-place.invariant.sent s is)
