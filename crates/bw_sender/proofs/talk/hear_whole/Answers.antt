use Rattle.std.proofs.Common.{[], ◌∷◌, ◌++◌, ◌∙◌}
use Rattle.bw_sender.proofs.HeardReplies.{these_none, these_on}
use Rattle.bw_sender.proofs.ListeningSteps.{notes_none, notes_on, next_heard}
use Rattle.bw_sender.proofs.talk.hear_whole.Goals as goal

pub loop-stop-init : goal.loop-stop-init
loop-stop-init c = ([], these_none _ _, notes_none _)

pub loop-stop-preserved : goal.loop-stop-preserved
loop-stop-preserved c =
    let i = c.loop-stop.invariant in
    let one = next_heard c.loop-stop.sender c.hear_one.new.sender c.loop-stop.framer c.hear_one.new.framer
    c.in_ok-stop.field-0 c.in-Heard.stop c.in-Heard.is c.in_ok-stop.ensures.hears in (
      i.0 ++ one.0 ∷ [],
      these_on i.0 (one.0 ∷ []) c.args.sender.now c.loop-stop.sender c.hear_one.new.sender c.args.framer.now
          c.loop-stop.framer c.hear_one.new.framer i.1 one.1,
      λ s is.
          c.earlier-first.ensures
          ∙ notes_on i.0 (one.0 ∷ []) c.loop-stop.first c.in-Heard.stop c.args.sender.now c.loop-stop.sender i.2
          i.1.counted one.2 s is,
    )
