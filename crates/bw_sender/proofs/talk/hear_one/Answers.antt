use Rattle.std.proofs.Common.{sym, ap, ◌∙◌}
use Rattle.bw_model.specs.World.{Heard}
use Rattle.bw_wire.specs.FramerStates.{Nothing}
use Rattle.bw_wire.specs.Replies.{reply_of}
use Rattle.bw_sender.specs.Stops.{stop_by}
use Rattle.bw_sender.proofs.ReplyRuns.{reported_again, failed_by, fault_again, gives_shorter}
use Rattle.bw_sender.proofs.HeardPieces.{as_reported}
use Rattle.bw_sender.proofs.HeardReplies.{these_quiet, these_one}
use Rattle.bw_sender.proofs.ListeningSteps.{stop_of_one}
use Rattle.bw_sender.proofs.talk.hear_one.Goals as goal

pub returns-in-Ok-None-clause-hears : goal.returns-in-Ok-None-clause-hears
returns-in-Ok-None-clause-hears c =
    let reported = c.in-Ok-None.ensures in
    let same = as_reported c.in-Ok-None.field-0-is reported.reported in (
      these_quiet c.args.sender.now c.args.framer.now c.next_frame.new.self Nothing same tt reported.left,
      reported_again c.args.framer.now c.next_frame.new.self Nothing (sym same) reported.left tt,
    )

pub returns-in-Ok-Some-clause-hears : goal.returns-in-Ok-Some-clause-hears
returns-in-Ok-Some-clause-hears c =
    let reported = c.in-Ok-Some.ensures in
    let r = reply_of c.in-Ok-Some.reply in (
      r,
      these_one c.args.sender.now c.on_reply-heard.new.self c.args.framer.now c.next_frame.new.self r
          (as_reported c.in-Ok-Some.field-0-is reported.reported) reported.left c.on_reply-heard.ensures.hears,
      λ s is.
          c.stop_by.ensures ∙ ap (λ (h : Heard). stop_by h r) (c.on_reply-heard.ensures.heard s is)
          ∙ sym (stop_of_one s r),
    )

pub returns-in-Ok-Some-clause-some : goal.returns-in-Ok-Some-clause-some
returns-in-Ok-Some-clause-some c =
    let reported = c.in-Ok-Some.ensures in
    gives_shorter c.args.framer.now c.next_frame.new.self (reply_of c.in-Ok-Some.reply)
    (sym (as_reported c.in-Ok-Some.field-0-is reported.reported)) reported.left

pub returns-in-Err-clause-hears : goal.returns-in-Err-clause-hears
returns-in-Err-clause-hears c =
    these_quiet c.args.sender.now c.args.framer.now c.next_frame.new.self (failed_by c.in-Err._fault)
    c.in-Err.ensures.reported tt c.in-Err.ensures.left

pub returns-in-Err-clause-bad : goal.returns-in-Err-clause-bad
returns-in-Err-clause-bad c =
    fault_again c.args.framer.now c.next_frame.new.self c.in-Err._fault c.in-Err.ensures.reported c.in-Err.ensures.left
