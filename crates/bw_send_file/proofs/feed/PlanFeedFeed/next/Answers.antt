use Rattle.std.proofs.Common.{◌≡◌, ◌∙◌, Some, ap, sym}
use Rattle.bw_model.specs.Take.{Request}
use Rattle.bw_send_file.specs.declared.feed.PlanFeed.{PlanFeed}
use Rattle.bw_send_file.proofs.FeedSteps.{gives_next}
use Rattle.bw_send_file.proofs.feed.PlanFeedFeed.next.Goals as goal
use Rattle.bw_send_file.proofs.feed.PlanFeedFeed.next.Goals.{then-is_close+in_ok-look_again, else-is_close}

pub returns-in-Ok-clause-left : goal.returns-in-Ok-clause-left
returns-in-Ok-clause-left g c = λ requests old.
    let plan_is : c.if-is_close.self.plan ≡ c.args.self.now.plan = elim c.if-is_close.branch [
      | then-is_close+in_ok-look_again w ↦ ap (λ (f : PlanFeed g.row.R.Denot g.row.S.Denot). f.plan) w.self-is
      | else-is_close w ↦ ap (λ (f : PlanFeed g.row.R.Denot g.row.S.Denot). f.plan) w.self-is
    ] in
    let reader_is : g.R.Source.left c.if-is_close.self.reader ≡ g.R.Source.left c.args.self.now.reader =
    elim c.if-is_close.branch [
      | then-is_close+in_ok-look_again w ↦
          ap (λ (f : PlanFeed g.row.R.Denot g.row.S.Denot). g.R.Source.left f.reader) w.self-is
      | else-is_close w ↦ ap (λ (f : PlanFeed g.row.R.Denot g.row.S.Denot). g.R.Source.left f.reader) w.self-is
    ] in
    gives_next c.args.self.now.plan c.if-is_close.self.plan c.advance.new.self _ _ _ c.in_ok-request.request requests
    plan_is reader_is old
    (λ b. sym (c.in-Some.ensures b) ∙ ap (λ (r : Request). Some r) (sym c.in_ok-request.ensures.ok))
    c.in-Ok.ensures.ok c.in-Ok.ensures.sound c.in-Ok.ensures.end
