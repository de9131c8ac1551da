-- What is at the start of the bytes of replies.
use Rattle.std.specs.Prelude.{◌≡◌, ◌≢◌, ◌≤◌, ◌+◌, ℕ, Some, Ok, Err, List, length, drop}
use Rattle.bw_model.specs.Bytes.{first_that_holds}
use Rattle.bw_model.specs.Wire.{Length, Cut}
use Rattle.bw_model.specs.Stream.{first_reply, framing_faults, longest_reply}
use Rattle.bw_wire.specs.Framings.{HasPrefix}
use Rattle.bw_wire.specs.Reasons.{reason_meaning}
use Rattle.bw_wire.specs.Replies.{reply_of}
use Rattle.bw_c.specs.declared.first_reply.BodyAt.{BodyAt}
use Rattle.bw_c.specs.declared.first_reply.BodyAt.TheVariants as bodies
use Rattle.bw_c.specs.declared.first_reply.FirstReply.{FirstReply}
use Rattle.bw_c.specs.declared.first_reply.FirstReply.TheVariants as replies

-- what the bytes begin with, by their length field and the number of bytes that are there
abbrev pub IsBodyAt : List ℕ → BodyAt → Type 0
IsBodyAt bytes bodies.Partial = first_that_holds (framing_faults longest_reply bytes) ≡ Some Cut
IsBodyAt bytes bodies.Bad = first_that_holds (framing_faults longest_reply bytes) ≡ Some Length
IsBodyAt bytes (bodies.Whole len) = HasPrefix longest_reply bytes len

-- what they begin with
abbrev pub IsReplyAt : List ℕ → FirstReply → Type 0
IsReplyAt bytes replies.Partial = first_reply bytes ≡ Err Cut
IsReplyAt bytes (replies.Bad reason) =
    (first_reply bytes ≡ Err (reason_meaning reason)) × (reason_meaning reason ≢ Cut)
IsReplyAt bytes (replies.Whole reply len) =
    (4 + len ≤ length bytes) × (first_reply bytes ≡ Ok (reply_of reply, drop (4 + len) bytes))
