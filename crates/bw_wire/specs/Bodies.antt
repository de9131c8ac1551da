-- What is in the body of a frame.
use Rattle.std.specs.Prelude.{◌≡◌, ◌≤◌, ℕ, Bool, true, false, ◌&&◌, Result, Ok, Err, List, length, drop}
use Rattle.std.specs.Prelude.{slice_index}
use Rattle.bw_model.specs.Take.{Request}
use Rattle.bw_model.specs.Wire.{Second, Message, Frame, Says, Asks, Bye, Reason, name_in, number_in}
use Rattle.bw_model.specs.Wire.{payload_in, request_of, are_bytes, decoded, is_name_bad, last_number}
use Rattle.bw_wire.specs.Addresses.{HasAddress}

-- the name in the body of a message or an ask
unfoldable pub body_name : List ℕ → List ℕ
body_name bytes = name_in (drop 1 bytes)

-- the number in the body of a message or an ask
unfoldable pub body_number : List ℕ → ℕ
body_number bytes = number_in (drop 1 bytes)

-- a body that has a name and a number in range after its kind
pub record IsAddressedBody (b : List ℕ) : Type 0 where
  pub some : 1 ≤ length b
  pub address : HasAddress (drop 1 b)
  pub named : is_name_bad (drop 1 b) ≡ false
  pub number : body_number b ≤ last_number Second

-- the request of a message's body
unfoldable pub body_request : List ℕ → Request
body_request bytes = request_of (slice_index bytes 0) (payload_in (drop 1 bytes))

-- the message that a body spells, if it spells one
abbrev pub message_in : List ℕ → Message
message_in bytes = record {
  name = body_name bytes;
  number = body_number bytes;
  request = body_request bytes;
}

-- whether a message was read
abbrev pub is_message_read : Result Frame Reason → Bool
is_message_read (Ok (Says m)) = true
is_message_read (Ok (Asks name number)) = false
is_message_read (Ok Bye) = false
is_message_read (Err reason) = false

-- whether an ask was read
abbrev pub is_ask_read : Result Frame Reason → Bool
is_ask_read (Ok (Says m)) = false
is_ask_read (Ok (Asks name number)) = true
is_ask_read (Ok Bye) = false
is_ask_read (Err reason) = false

-- whether the bytes spell a message
abbrev pub is_message_body : List ℕ → Bool
is_message_body bytes = are_bytes bytes && is_message_read (decoded Second bytes)

-- whether the bytes spell an ask
abbrev pub is_ask_body : List ℕ → Bool
is_ask_body bytes = are_bytes bytes && is_ask_read (decoded Second bytes)
