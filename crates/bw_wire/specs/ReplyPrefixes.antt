-- What is at the start of a stream's bytes, where replies are read.
use Rattle.std.specs.Prelude.{◌≡◌, ◌≢◌, ℕ, ◌+◌, ◌≤◌, Ok, Err, List, length, drop}
use Rattle.bw_model.specs.Wire.{Cut}
use Rattle.bw_model.specs.Stream.{first_reply, longest_reply}
use Rattle.bw_wire.specs.declared.reply.Reply.{Reply}
use Rattle.bw_wire.specs.declared.reply_prefix.ReplyPrefix.{ReplyPrefix}
use Rattle.bw_wire.specs.declared.reply_prefix.ReplyPrefix.TheVariants.{Partial, Bad, Whole}
use Rattle.bw_wire.specs.Held.{rest_below}
use Rattle.bw_wire.specs.Reasons.{reason_meaning}
use Rattle.bw_wire.specs.Replies.{reply_of}

-- the bytes begin with the frame of this reply, whose body has this length
pub record IsWholeReply (bytes : List ℕ) (reply : Reply) (len : ℕ) : Type 0 where
  pub whole : 4 + len ≤ length bytes
  pub first : first_reply bytes ≡ Ok (reply_of reply, drop (4 + len) bytes)

-- what the bytes begin with
abbrev pub IsReplyPrefix : List ℕ → ReplyPrefix → Type 0
IsReplyPrefix bytes Partial =
    (first_reply bytes ≡ Err Cut) × (length bytes ≤ rest_below longest_reply)
IsReplyPrefix bytes (Bad reason) =
    (first_reply bytes ≡ Err (reason_meaning reason)) × (reason_meaning reason ≢ Cut)
IsReplyPrefix bytes (Whole reply len) = IsWholeReply bytes reply len
