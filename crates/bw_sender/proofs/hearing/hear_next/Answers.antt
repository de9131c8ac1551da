use Rattle.std.proofs.Common.{sym}
use Rattle.bw_wire.specs.FramerStates.{Nothing}
use Rattle.bw_wire.specs.Replies.{reply_of}
use Rattle.bw_sender.proofs.ReplyRuns.{reported_again, failed_by, fault_again, gives_shorter}
use Rattle.bw_sender.proofs.HeardPieces.{as_reported, hears-quiet, hears-one}
use Rattle.bw_sender.proofs.hearing.hear_next.Goals as goal

pub returns-in-Ok-None-clause-hears : goal.returns-in-Ok-None-clause-hears
returns-in-Ok-None-clause-hears c =
    let reported = c.in-Ok-None.ensures in
    hears-quiet c.args.sender.now c.args.framer.now c.next_frame.new.self Nothing
    (as_reported c.in-Ok-None.field-0-is reported.reported) tt reported.left

pub returns-in-Ok-None-clause-none : goal.returns-in-Ok-None-clause-none
returns-in-Ok-None-clause-none c _ =
    let reported = c.in-Ok-None.ensures in
    reported_again c.args.framer.now c.next_frame.new.self Nothing
    (sym (as_reported c.in-Ok-None.field-0-is reported.reported)) reported.left tt

pub returns-in-Ok-Some-clause-hears : goal.returns-in-Ok-Some-clause-hears
returns-in-Ok-Some-clause-hears c =
    let reported = c.in-Ok-Some.ensures in
    hears-one c.args.sender.now c.on_reply.new.self c.args.framer.now c.next_frame.new.self
    (reply_of c.in-Ok-Some.reply) (as_reported c.in-Ok-Some.field-0-is reported.reported) reported.left c.on_reply.ensures.hears

pub returns-in-Ok-Some-clause-some : goal.returns-in-Ok-Some-clause-some
returns-in-Ok-Some-clause-some c _ =
    let reported = c.in-Ok-Some.ensures in
    gives_shorter c.args.framer.now c.next_frame.new.self (reply_of c.in-Ok-Some.reply)
    (sym (as_reported c.in-Ok-Some.field-0-is reported.reported)) reported.left

pub returns-in-Err-clause-hears : goal.returns-in-Err-clause-hears
returns-in-Err-clause-hears c =
    hears-quiet c.args.sender.now c.args.framer.now c.next_frame.new.self (failed_by c.in-Err._fault)
    c.in-Err.ensures.reported tt c.in-Err.ensures.left

pub returns-in-Err-clause-bad : goal.returns-in-Err-clause-bad
returns-in-Err-clause-bad c =
    fault_again c.args.framer.now c.next_frame.new.self c.in-Err._fault c.in-Err.ensures.reported c.in-Err.ensures.left
