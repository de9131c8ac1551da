-- What replies mean.
use Rattle.std.specs.Prelude.{◌+◌, ◌≤◌, Result, Ok, Err}
use Rattle.bw_model.specs.Wire.{Second, last_number, Reason as ModelReason}
use Rattle.bw_model.specs.Replies as model
use Rattle.bw_model.specs.VerdictMeanings.{verdict_meaning}
use Rattle.bw_wire.specs.declared.reason.Reason.{Reason}
use Rattle.bw_wire.specs.declared.reply.Reply.{Reply}
use Rattle.bw_wire.specs.declared.reply.Reply.TheVariants.{Verdict, Notice, BadFrame}
use Rattle.bw_wire.specs.Notices.{notice_meaning}
use Rattle.bw_wire.specs.Reasons.{reason_meaning}

-- the reply, in the definitions' words
abbrev pub reply_of : Reply → model.Reply
reply_of (Verdict name number verdict) = model.Judged name number (verdict_meaning verdict)
reply_of (Notice name number code next) = model.Noticed name number (notice_meaning code) next
reply_of (BadFrame reason offset) = model.Refused (reason_meaning reason) offset

-- its numbers are in the ranges of the wire format
abbrev pub HasWireNumbers : Reply → Type 0
HasWireNumbers (Verdict name number verdict) = number ≤ last_number Second
HasWireNumbers (Notice name number code next) =
    (number ≤ last_number Second) × (next ≤ last_number Second + 1)
HasWireNumbers (BadFrame reason offset) = Unit {0}

-- what a decoder returns
abbrev pub reply_read : Result Reply Reason → Result model.Reply ModelReason
reply_read (Ok r) = Ok (reply_of r)
reply_read (Err reason) = Err (reason_meaning reason)
