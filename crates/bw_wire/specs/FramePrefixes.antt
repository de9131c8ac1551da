-- What is at the start of a stream's bytes.
use Rattle.std.specs.Prelude.{◌≡◌, ◌≢◌, ℕ, ◌+◌, ◌≤◌, IsTrue, Ok, Err, List, length, drop}
use Rattle.bw_model.specs.Wire.{Second, Says, Asks, Bye, Cut}
use Rattle.bw_model.specs.Stream.{first_frame}
use Rattle.bw_wire.specs.declared.frame_prefix.FramePrefix.{FramePrefix}
use Rattle.bw_wire.specs.declared.frame_prefix.FramePrefix.TheVariants as prefixes
use Rattle.bw_wire.specs.Framings.{body_at_prefix}
use Rattle.bw_wire.specs.Held.{longest_rest}
use Rattle.bw_wire.specs.Reasons.{reason_meaning}
use Rattle.bw_wire.specs.Bodies.{body_name, body_number, message_in, is_message_body, is_ask_body}

-- the bytes begin with the frame of a message, whose body has this length
pub record IsMessagePrefix (bytes : List ℕ) (len : ℕ) : Type 0 where
  pub whole : 4 + len ≤ length bytes
  pub spelled : IsTrue (is_message_body (body_at_prefix len bytes))
  pub first : first_frame Second bytes
      ≡ Ok (Says (message_in (body_at_prefix len bytes)), drop (4 + len) bytes)

-- the bytes begin with the frame of an ask, whose body has this length
pub record IsAskPrefix (bytes : List ℕ) (len : ℕ) : Type 0 where
  pub whole : 4 + len ≤ length bytes
  pub spelled : IsTrue (is_ask_body (body_at_prefix len bytes))
  pub first : first_frame Second bytes
      ≡ Ok (
        Asks (body_name (body_at_prefix len bytes)) (body_number (body_at_prefix len bytes)),
        drop (4 + len) bytes,
      )

-- the bytes begin with the frame that ends an exchange, whose body has this length
pub record IsByePrefix (bytes : List ℕ) (len : ℕ) : Type 0 where
  pub whole : 4 + len ≤ length bytes
  pub first : first_frame Second bytes ≡ Ok (Bye, drop (4 + len) bytes)

-- what the bytes begin with
abbrev pub IsFramePrefix : List ℕ → FramePrefix → Type 0
IsFramePrefix bytes prefixes.Partial =
    (first_frame Second bytes ≡ Err Cut) × (length bytes ≤ longest_rest)
IsFramePrefix bytes (prefixes.Bad reason) =
    (first_frame Second bytes ≡ Err (reason_meaning reason)) × (reason_meaning reason ≢ Cut)
IsFramePrefix bytes (prefixes.Message len) = IsMessagePrefix bytes len
IsFramePrefix bytes (prefixes.Ask len) = IsAskPrefix bytes len
IsFramePrefix bytes (prefixes.Bye len) = IsByePrefix bytes len
