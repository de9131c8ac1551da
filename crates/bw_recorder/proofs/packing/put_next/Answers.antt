use Rattle.std.proofs.Common.{◌∷◌, [], sym, refl}
use Rattle.std.proofs.lemmas.Result.{err_from_is_err_and}
use Rattle.bw_model.specs.Take.{Request}
use Rattle.bw_model.specs.Requests.{meaning}
use Rattle.bw_plan.specs.Progress.{after_next, remaining}
use Rattle.bw_recorder.proofs.PutSteps.{goes_on, going_on_gives, going_on_put, next_first, no_line, one_text}
use Rattle.bw_recorder.proofs.packing.put_next.Goals as goal

pub returns-in_err-put_line : goal.returns-in_err-put_line
returns-in_err-put_line g c =
    let u = no_line g.W.Sink (meaning c.in-Some.request) c.in_err-put_line.field-0.0 c.args.out.now c.put_line.new.out
    c.in_err-put_line.ensures.err in
    let answer = err_from_is_err_and c.from_residual.result c.from_residual.ensures.1 in
    rw (answer.1, answer.2) (u.given, u.put, tt, λ b s. u.gives _ (sym (c.in-Some.ensures b)))

pub returns-in-Ok : goal.returns-in-Ok
returns-in-Ok g c =
    let r : Request = meaning c.in-Some.request in (
      r ∷ [],
      one_text g.W.Sink r c.args.out.now c.put_line.new.out c.in_ok-put_line.ensures.ok,
      refl,
      λ b s. goes_on b c.args.opened.now.plan c.advance.new.self _ _ r s (sym (c.in-Some.ensures b))
          (c.in-Ok.ensures.ok b s.at) c.in-Ok.ensures.sound c.in-Ok.ensures.end,
    )

pub returns-in-Err : goal.returns-in-Err
returns-in-Err g c =
    let r : Request = meaning c.in-Some.request in
    let text = one_text g.W.Sink r c.args.out.now c.put_line.new.out c.in_ok-put_line.ensures.ok in
    rw c.read_on.ensures (
      r ∷ [],
      going_on_put g.W.Sink (r ∷ []) c.in-Err.fault c.args.out.now c.put_line.new.out text,
      tt,
      λ b s. going_on_gives b c.args.opened.now.plan.samples c.in-Err.fault _ (remaining c.args.opened.now.plan b) (r ∷ [])
          (after_next (remaining c.args.opened.now.plan b), sym (next_first _ r (sym (c.in-Some.ensures b)))) s.there
          (c.in-Err.ensures.err s.sound b s.at),
    )
