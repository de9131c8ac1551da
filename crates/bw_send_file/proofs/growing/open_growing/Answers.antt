use Rattle.std.proofs.Common.{◌∙◌, ℕ, List, [], ◌++◌, Option, Some, ap, subst, sym}
use Rattle.bw_model.specs.Take.{Request}
use Rattle.bw_plan.specs.Plans.{plan}
use Rattle.bw_plan.specs.Recordings.{block_frames}
use Rattle.bw_send_file.specs.ComingRequests.{RequestsLeft}
use Rattle.bw_send_file.specs.FramedSamples.{recording_with}
use Rattle.bw_send_file.specs.Marked.{StateOfMarked, points_known, with_marks}
use Rattle.bw_send_file.specs.SampleFeeds.{requests_of_feed}
use Rattle.bw_send_file.proofs.GrowingSteps.{feeds_growing}
use Rattle.bw_send_file.proofs.MarkedPlans.{none_marked}
use Rattle.bw_send_file.proofs.growing.open_growing.Goals as goal

pub returns-in-Ok-of_outline-clause-ok : goal.returns-in-Ok-of_outline-clause-ok
returns-in-Ok-of_outline-clause-ok g c = λ b e.
    let o = c.args.options.now in
    let path = c.args.path.now in
    let outline = c.in-Ok-read_header.found.header.outline in
    let same = ap (λ (f : List ℕ → Option (List ℕ)). f path) c.in-Ok.ensures.files ∙ e in
    let there = c.in-Ok-follow_data.ensures.ok b same in
    feeds_growing b o c.in-Ok-read_header.found _ (c.in-Ok-read_header.ensures.ok b (c.in-Ok.ensures.ok b e))
    (λ s at whole.
    let requests : List Request = plan (block_frames o outline.format) (recording_with outline s) in (
      requests,
      subst (λ f. RequestsLeft g.F.Growing.Followed (requests_of_feed f) requests)
          (sym (ap (λ (z : StateOfMarked _ _). z.feed) c.new.ensures))
          (c.in-Ok-of_outline.ensures.plan s (there ∙ ap Some (sym at)) whole),
      [],
      ap (λ (z : StateOfMarked _ _). points_known g.F.Marker.Marker z.marker) c.new.ensures,
      sym (none_marked requests)
          ∙ ap (λ (z : StateOfMarked _ _). z.waiting ++ with_marks [] requests) (sym c.new.ensures),
    ))
