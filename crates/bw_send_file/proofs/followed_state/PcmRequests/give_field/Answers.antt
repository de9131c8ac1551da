use Rattle.std.proofs.Common.{◌∙◌, ap, sym, refl, ◌++◌, ◌∷◌}
use Rattle.bw_model.specs.Take.{Request, SetField}
use Rattle.bw_plan.specs.Progress.{next_step_of}
use Rattle.bw_send_file.specs.ComingRequests.{progress_of, requests_of_step}
use Rattle.bw_send_file.specs.declared.followed_state.PcmStep.TheVariants as steps
use Rattle.bw_send_file.proofs.FollowedFeeds.{copy_fault, field_first}
use Rattle.bw_send_file.proofs.followed_state.PcmRequests.give_field.Goals as goal

pub returns-in-Err-clause-by : goal.returns-in-Err-clause-by
returns-in-Err-clause-by g c =
    let x = c.args.self.now in
    copy_fault g.F.Followed (steps.Fields c.args.after) x x c.in-Err.fault (SetField c.in-Some.tag c.get.result.now)
    c.in-Err.ensures.err
    (λ rest e. ap next_step_of (field_first (progress_of x) (x.samples.held ++ rest) c.args.after c.in-Some.tag
    c.values.result.now c.values-2.result.now c.get.result.now c.values.ensures c.values-2.ensures c.get.ensures
    c.in-Some.ensures))

pub returns-clause-left : goal.returns-clause-left
returns-clause-left g c rest e =
    let x = c.args.self.now in (
      requests_of_step (progress_of x) (x.samples.held ++ rest) (steps.Fields c.in-Some.tag),
      field_first (progress_of x) (x.samples.held ++ rest) c.args.after c.in-Some.tag c.values.result.now
          c.values-2.result.now c.get.result.now c.values.ensures c.values-2.ensures c.get.ensures c.in-Some.ensures
          ∙ ap (λ (r : Request). r ∷ requests_of_step (progress_of x) (x.samples.held ++ rest) (steps.Fields c.in-Some.tag))
          (sym c.in-Ok.ensures.ok),
      (rest, e, refl),
    )
