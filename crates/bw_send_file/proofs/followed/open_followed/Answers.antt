use Rattle.std.proofs.Common.{◌∙◌, ℕ, List, Option, ◌++◌, ap, subst, sym}
use Rattle.bw_plan.specs.Plans.{plan}
use Rattle.bw_plan.specs.Recordings.{block_frames}
use Rattle.bw_send_file.specs.ComingRequests.{RequestsLeft}
use Rattle.bw_send_file.specs.Marked.{StateOfMarked, points_known, with_marks}
use Rattle.bw_send_file.specs.SampleFeeds.{requests_of_feed}
use Rattle.bw_send_file.proofs.KnownLengths.{known_before}
use Rattle.bw_send_file.proofs.MarkedPlans.{pcm_marked}
use Rattle.bw_send_file.proofs.followed.open_followed.Goals as goal

pub returns-in-Err-clause-follows : goal.returns-in-Err-clause-follows
returns-in-Err-clause-follows g c = known_before _ _

pub returns-in-Ok-open_requests-clause-follows : goal.returns-in-Ok-open_requests-clause-follows
returns-in-Ok-open_requests-clause-follows g c = λ b e ms known r is.
    let frames : ℕ = block_frames c.args.options.now r.outline.format in
    let path : List ℕ = c.args.file.now.file.path.now in (
      plan frames r,
      subst (λ f. RequestsLeft g.F.Growing.Followed (requests_of_feed f) (plan frames r))
          (sym (ap (λ (s : StateOfMarked _ _). s.feed) c.new.ensures))
          (c.in-Ok-open_requests.ensures.follows b
          (ap (λ (h : List ℕ → Option (List ℕ)). h path) c.in-Ok.ensures.files ∙ e) r is),
      ms,
      ap (λ (s : StateOfMarked _ _). points_known g.F.Marker.Marker s.marker) c.new.ensures
          ∙ c.in-Ok.ensures.places ∙ known,
      pcm_marked b c.args.options.now c.args.file.now.pcm frames ms r is
          ∙ ap (λ (s : StateOfMarked _ _). s.waiting ++ with_marks ms (plan frames r)) (sym c.new.ensures),
    )
