use Rattle.std.proofs.Common.{◌∙◌, ◌++◌, ◌∷◌, Some, ap, refl, sym}
use Rattle.bw_model.specs.Take.{Request}
use Rattle.bw_plan.specs.Recordings.{Outline}
use Rattle.bw_send_file.specs.ComingRequests.{open_of, progress_of, requests_of_step}
use Rattle.bw_send_file.specs.declared.followed_state.PcmStep.TheVariants as steps
use Rattle.bw_send_file.proofs.FollowedFeeds.{copy_fault, left_of_read, same_requests}
use Rattle.bw_send_file.proofs.followed_state.PcmRequests.give_open.Goals as goal

pub returns-in-Err-clause-left : goal.returns-in-Err-clause-left
returns-in-Err-clause-left g c rest e =
    left_of_read g.F.Followed steps.Open c.args.self.now c.reach_frame.new.self rest c.reach_frame.ensures.kept c.requires
    (c.reach_frame.ensures.read rest e)

pub returns-then-not-has_frame-clause-left : goal.returns-then-not-has_frame-clause-left
returns-then-not-has_frame-clause-left g c rest e =
    left_of_read g.F.Followed steps.Open c.args.self.now c.reach_frame.new.self rest c.reach_frame.ensures.kept c.requires
    (c.reach_frame.ensures.read rest e)

pub returns-in-Err-open_request-clause-left : goal.returns-in-Err-open_request-clause-left
returns-in-Err-open_request-clause-left g c rest e =
    left_of_read g.F.Followed steps.Open c.args.self.now c.reach_frame.new.self rest c.reach_frame.ensures.kept c.requires
    (c.reach_frame.ensures.read rest e)

pub returns-in-Err-open_request-clause-by : goal.returns-in-Err-open_request-clause-by
returns-in-Err-open_request-clause-by g c =
    let y = c.reach_frame.new.self in
    copy_fault g.F.Followed steps.Open c.args.self.now y c.in-Err-open_request.fault (open_of y.outline)
    c.in-Err-open_request.ensures.err
    (λ rest e. ap (λ (o : Outline). Some (open_of o)) (sym c.reach_frame.ensures.kept.outline))

pub returns-clause-left : goal.returns-clause-left
returns-clause-left g c rest e =
    let x = c.args.self.now in
    let y = c.reach_frame.new.self in
    let m = c.reach_frame.ensures.read rest e in
    let more = requests_of_step (progress_of y) (y.samples.held ++ m.rest) (steps.Fields 0) in (
      more,
      same_requests g.F.Followed steps.Open x y rest _ c.reach_frame.ensures.kept m
          ∙ ap (λ (r : Request). r ∷ more) (sym c.in-Ok-open_request.ensures.ok),
      (m.rest, m.left_is, refl),
    )
