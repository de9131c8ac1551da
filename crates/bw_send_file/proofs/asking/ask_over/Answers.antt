use Rattle.bw_wire.specs.Replies.{reply_of}
use Rattle.bw_send_file.specs.Asks.{bye_frame}
use Rattle.bw_sender.proofs.Beginnings.{begins-after, begins-before}
use Rattle.bw_send_file.proofs.AskSteps.{begun_by, written_begins}
use Rattle.bw_send_file.proofs.ReadSteps.{if_some}
use Rattle.bw_send_file.proofs.asking.ask_over.Goals as goal

pub returns-clause-answer : goal.returns-clause-answer
returns-clause-answer g c =
    if_some c.next_in.result _ _ c.next_in.ensures (λ n says. (reply_of c.in_ok-reply.reply, says, c.in_ok-reply.ensures))

pub returns-in-Err-clause-writes : goal.returns-in-Err-clause-writes
returns-in-Err-clause-writes g c =
    (c.write_all.new.writer, begins-before _ _ c.args.frame.now bye_frame c.in-Err.ensures.err)

pub returns-in_err-reply-clause-writes : goal.returns-in_err-reply-clause-writes
returns-in_err-reply-clause-writes g c =
    (c.write_all.new.writer, written_begins _ _ c.args.frame.now bye_frame c.in-Ok.ensures.ok)

pub returns-clause-writes : goal.returns-clause-writes
returns-clause-writes g c = (
  c.write_all-2.new.writer,
  begins-after _ _ _ c.args.frame.now bye_frame c.in-Ok.ensures.ok
      (begun_by c.write_all-2.result _ _ bye_frame c.write_all-2.ensures.ok c.write_all-2.ensures.err),
)
