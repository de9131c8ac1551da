use Rattle.std.proofs.Common.{sym, ◌∙◌, arith}
use Rattle.bw_wire.proofs.ReplyDecoding.{reply-empty, reply-judged, reply-noticed, reply-refused, reply-unknown}
use Rattle.bw_wire.proofs.reply_decoder.decode_reply.Goals as goal

pub returns-in_default : goal.returns-in_default
returns-in_default c = sym (reply-empty c.args.body.now c.in_default.len_below)

pub returns-in-129 : goal.returns-in-129
returns-in-129 c = c.verdict.ensures ∙ sym (reply-judged c.args.body.now c.in-len1-up.len_at_least c.in-129.is)

pub returns-in-130 : goal.returns-in-130
returns-in-130 c = c.notice.ensures ∙ sym (reply-noticed c.args.body.now c.in-len1-up.len_at_least c.in-130.is)

pub returns-in-131 : goal.returns-in-131
returns-in-131 c = c.bad_frame.ensures ∙ sym (reply-refused c.args.body.now c.in-len1-up.len_at_least c.in-131.is)

pub returns-in_default-kind : goal.returns-in_default-kind
returns-in_default-kind c =
    sym (reply-unknown c.args.body.now c.in-len1-up.len_at_least (omega arith) (omega arith) (omega arith))
