use Rattle.std.proofs.Common.{◌∙◌, ℕ, List, ap, sym}
use Rattle.bw_model.specs.Bytes.{u32_at}
use Rattle.bw_model.specs.Replies.{decoded_reply}
use Rattle.bw_wire.specs.Replies.{reply_of}
use Rattle.bw_send_file.proofs.ReadSteps.{reply_given}
use Rattle.bw_send_file.proofs.asking.read_reply.Goals as goal

pub returns-in-Ok : goal.returns-in-Ok
returns-in-Ok g c =
    reply_given _ _ _ c.in_ok-head.head.items c.in_ok-body.body.items (reply_of c.in-Ok.reply) c.in_ok-head.ensures.given
    c.in_ok-body.ensures.given c.in_ok-head.ensures.many
    (sym (c.in_ok-body.ensures.many ∙ c.read_u32-len.ensures ∙ ap (λ (b : List ℕ). u32_at b 0) c.as_slice.ensures.value))
    (ap decoded_reply (sym c.as_slice-2.ensures.value) ∙ sym c.in-Ok.ensures)
