-- What a framer reads: frames of messages one way, frames of replies the other.
use Rattle.std.specs.Prelude.{◌≡◌, ℕ, Bool, true, false, Option, Some, None, Result, IsTrue, List}
use Rattle.std.specs.Prelude.{◌++◌, flat_map}
use Rattle.std.specs.List.{list_all}
use Rattle.bw_model.specs.Wire.{Second, Frame, Says, Asks, Bye, Reason, body, framed}
use Rattle.bw_model.specs.Replies.{Reply, is_reply, reply_body}
use Rattle.bw_model.specs.Stream.{first_frame, first_reply, is_turn, longest_reply}
use Rattle.bw_wire.specs.Held.{rest_below, longest_rest}

-- how the values of a stream are read and spelled
pub record Codec (X : Type 0) : Type 0 where
  -- the first value of the bytes and the bytes after it, or the first reason why there is none
  pub first : List ℕ → Result (X × List ℕ) Reason
  -- the frame of a value
  pub frame : X → List ℕ
  -- a value that is given to the caller
  pub is_given : X → Bool
  -- a value after which nothing is read
  pub is_last : X → Bool
  -- that value, if there is one
  pub last : Option X
  -- bytes that aren't a whole frame are at most this many
  pub most_left : ℕ

-- the frame that ends an exchange
abbrev pub is_bye : Frame → Bool
is_bye (Says m) = false
is_bye (Asks name number) = false
is_bye Bye = true

-- messages and asks, up to the end of their exchange
abbrev pub message_codec : Codec Frame
message_codec = record {
  first = first_frame Second;
  frame = λ f. framed (body f);
  is_given = is_turn Second;
  is_last = is_bye;
  last = Some Bye;
  most_left = longest_rest;
}

-- replies, none of which is the last
abbrev pub reply_codec : Codec Reply
reply_codec = record {
  first = first_reply;
  frame = λ r. framed (reply_body r);
  is_given = is_reply;
  is_last = λ r. false;
  last = None;
  most_left = rest_below longest_reply;
}

-- the frames of these values one after another
abbrev pub spelling_of : {X : Type 0} → Codec X → List X → List ℕ
spelling_of codec xs = flat_map codec.frame xs

-- the bytes are the frames of these values, followed by the rest
pub record Spelled (X : Type 0) (codec : Codec X) (bytes : List ℕ) (xs : List X) (rest : List ℕ)
    : Type 0 where
  pub each : IsTrue (list_all codec.is_given xs)
  pub whole : bytes ≡ spelling_of codec xs ++ rest
