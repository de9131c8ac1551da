use Rattle.std.proofs.Common.{Bool, ap, arith, refl, sym, ◌∙◌}
use Rattle.bw_upload.specs.WindowFills.{is_done}
use Rattle.bw_upload.specs.declared.outcome.Outcome.TheVariants.{Done, Limit}
use Rattle.bw_upload.proofs.Lifting.{with_filling}
use Rattle.bw_upload.proofs.LinkSteps.{links_none, links_unprepared, links_ready, links_stopped, links_more, links_over}
use Rattle.bw_upload.proofs.LinkSteps.{few_more}
use Rattle.bw_upload.proofs.links.make_links.Goals as goal

pub loop-links-init : goal.loop-links-init
loop-links-init g c = record {
  so_far = λ s is unended.
      links_none g.F.Feed g.P.Pause g.D.Dial g.D.Reader.Source g.D.Writer.Sink c.args.most s _ _ _ _ is unended;
  few = omega arith;
}

pub returns-in-Err : goal.returns-in-Err
returns-in-Err g c = λ s is unended.
    let so = c.loop-links.invariant.so_far s is unended in
    links_unprepared g.F.Feed g.P.Pause g.D.Dial g.D.Reader.Source g.D.Writer.Sink c.args.most c.in-Err.outcome
    c.loop-links.links c.loop-links.fruitless s _ _ _ _ _ _ _ _ _ _ so
    (c.in-Err.ensures so.after.filling so.filling)

pub returns-in-Err-make_link : goal.returns-in-Err-make_link
returns-in-Err-make_link g c = λ s is unended.
    let so = c.loop-links.invariant.so_far s is unended in
    let q = c.in_default.ensures so.after.filling so.filling in
    let next = links_ready g.F.Feed g.P.Pause g.D.Dial g.D.Reader.Source g.D.Writer.Sink c.args.most c.loop-links.links
    c.loop-links.fruitless s _ _ _ _ _ _ _ _ _ _ _ so q c.back_off.ensures in
    let k = c.in-Err-make_link.ensures c.args.most (with_filling so.after q.after) next in
    links_stopped g.F.Feed g.P.Pause g.D.Dial g.D.Reader.Source g.D.Writer.Sink c.args.most c.in-Err-make_link.outcome
    c.loop-links.links c.loop-links.fruitless s _ _ _ _ _ _ _ _ _ _ _ _ _ _ so q k

pub loop-links-preserved : goal.loop-links-preserved
loop-links-preserved g c = record {
  so_far = λ s is unended.
      let so = c.loop-links.invariant.so_far s is unended in
      let q = c.in_default.ensures so.after.filling so.filling in
      let next = links_ready g.F.Feed g.P.Pause g.D.Dial g.D.Reader.Source g.D.Writer.Sink c.args.most c.loop-links.links
      c.loop-links.fruitless s _ _ _ _ _ _ _ _ _ _ _ so q c.back_off.ensures in
      let k = c.in_default-make_link.ensures c.args.most (with_filling so.after q.after) next in
      links_more g.F.Feed g.P.Pause g.D.Dial g.D.Reader.Source g.D.Writer.Sink c.args.most c.loop-links.links
      c.loop-links.fruitless c.settled-before.result c.settled.result c.count_after-fruitless.result s
      _ _ _ _ _ _ _ _ _ _ _ _ _ _ so q k
      (c.settled-before.ensures.value q.after.sender q.by.0.sender)
      (c.settled.ensures.value k.after.filling.sender k.by.0.filling.sender) c.count_after-fruitless.ensures;
  few = rw c.count_after-fruitless.ensures (few_more
      g.F.Feed g.P.Pause g.D.Dial g.D.Reader.Source g.D.Writer.Sink c.args.most c.settled-before.result c.settled.result
      c.loop-links.fruitless c.loop-links.links c.loop-links.invariant.few);
}

pub returns-then-is_done : goal.returns-then-is_done
returns-then-is_done g c = λ s is unended.
    let so = c.loop-links.invariant.so_far s is unended in
    links_over g.F.Feed g.P.Pause g.D.Dial g.D.Reader.Source g.D.Writer.Sink c.args.most Done c.loop-links.links
    c.loop-links.fruitless s _ _ _ _ _ _ _ so
    (sym (ap (λ (e : Bool). is_done so.after.filling.sender e) (sym so.filling.ended)
    ∙ sym (c.is_done.ensures so.after.filling.sender so.filling.sender) ∙ c.if-is_done.true)) refl so.filling.feed

pub returns-else-is_done : goal.returns-else-is_done
returns-else-is_done g c = λ s is unended.
    let so = c.loop-links.invariant.so_far s is unended in
    let many = so.many in
    links_over g.F.Feed g.P.Pause g.D.Dial g.D.Reader.Source g.D.Writer.Sink c.args.most Limit c.loop-links.links
    c.loop-links.fruitless s _ _ _ _ _ _ _ so
    (sym (ap (λ (e : Bool). is_done so.after.filling.sender e) (sym so.filling.ended)
    ∙ sym (c.is_done.ensures so.after.filling.sender so.filling.sender) ∙ c.if-is_done.false)) refl
    (omega (arith, c.loop-links-test.false, many), so.filling.feed)
