-- Bytes that are held in a block of memory.
use Rattle.std.specs.Prelude.{ℕ, ◌+◌, ◌*◌, ◌^◌, List, [], ◌++◌, length, drop, max, nat_le}
use Rattle.std.specs.Prelude.{if◌then◌else◌}
use Rattle.bw_model.specs.Limits.{longest_body}

-- the size of a frame without its last byte, if its body has this length
abbrev pub rest_below : ℕ → ℕ
rest_below longest = longest + 3

-- at most this many bytes are left after the whole frames
abbrev pub longest_rest : ℕ
longest_rest = rest_below longest_body

-- a stream has at most this many bytes
abbrev pub longest_stream : ℕ
longest_stream = 2 ^ 62

-- a piece of replies has at most this many bytes
abbrev pub longest_piece : ℕ
longest_piece = 65536

-- a piece of messages: sixteen of the longest frames, which a sender may have on the way, so that their
-- digests are computed at once and one commit is for all of them
abbrev pub longest_message_piece : ℕ
longest_message_piece = 16 * (4 + longest_body)

-- a larger block isn't kept once the whole frames are taken
abbrev pub largest_kept : ℕ
largest_kept = 2 * longest_rest

-- no block is larger: that of a rest and a piece after it
abbrev pub largest_block : ℕ
largest_block = longest_rest + longest_message_piece

-- bytes, and the room of their block
pub record Held : Type 0 where
  -- the bytes
  pub bytes : List ℕ
  -- how many the block has room for
  pub room : ℕ

-- no bytes, and no block
abbrev pub nothing_held : Held
nothing_held = record { bytes = []; room = 0 }

-- the room of a block once it has room for this many bytes: if it grows, at least twice its size
abbrev pub room_for : ℕ → ℕ → ℕ
room_for needed room = if nat_le needed room then room else max needed (2 * room)

-- the room of the block that is kept after the whole frames: a large one is released
abbrev pub room_kept : ℕ → ℕ
room_kept room = if nat_le room largest_kept then room else longest_rest

-- with a block of this size
abbrev pub with_room : Held → ℕ → Held
with_room h room = record h { room = room }

-- with more bytes at the end
abbrev pub with_bytes : Held → List ℕ → Held
with_bytes h bytes = record {
  bytes = h.bytes ++ bytes;
  room = room_for (length h.bytes + length bytes) h.room;
}

-- without this many bytes at the start
abbrev pub without_prefix : Held → ℕ → Held
without_prefix h count = record { bytes = drop count h.bytes; room = room_kept h.room }
