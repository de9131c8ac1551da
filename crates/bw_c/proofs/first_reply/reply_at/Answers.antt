use Rattle.std.proofs.Common.{Ok}
use Rattle.bw_model.specs.Wire.{Length, Cut}
use Rattle.bw_wire.specs.Reasons.{reason_meaning}
use Rattle.bw_wire.specs.Replies.{reply_of}
use Rattle.bw_wire.proofs.ReplyPrefixes.{first_reply-framing, first_reply-prefix, bad_reply_prefix}
use Rattle.bw_c.proofs.first_reply.reply_at.Goals as goal

pub returns-in-Partial : goal.returns-in-Partial
returns-in-Partial c = first_reply-framing c.args.bytes.now Cut c.in-Partial.ensures

pub returns-in-Bad : goal.returns-in-Bad
returns-in-Bad c = (first_reply-framing c.args.bytes.now Length c.in-Bad.ensures, λ e. cc)

pub returns-in-Err : goal.returns-in-Err
returns-in-Err c = bad_reply_prefix c.args.bytes.now c.in-Whole.len
    (reason_meaning c.in-Err.reason) c.in-Whole.ensures c.in-Err.ensures

pub returns-in-Ok : goal.returns-in-Ok
returns-in-Ok c = (
  c.in-Whole.ensures.whole,
  first_reply-prefix c.args.bytes.now c.in-Whole.len
      (Ok (reply_of c.in-Ok.reply)) c.in-Whole.ensures c.in-Ok.ensures,
)
