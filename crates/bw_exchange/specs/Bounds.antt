-- How much an exchange holds.
use Rattle.std.specs.Prelude.{ℕ, ◌+◌, ◌*◌, ◌-◌, ◌^◌}
use Rattle.bw_wire.specs.Held.{longest_rest, longest_message_piece}

-- the room that is kept for a reply's frame, which has at most 47 bytes
abbrev pub longest_reply_frame : ℕ
longest_reply_frame = 64

-- the frames of all replies to one frame
abbrev pub longest_answer : ℕ
longest_answer = 17 * longest_reply_frame

-- at most this many bytes of replies wait
abbrev pub most_waiting : ℕ
most_waiting = 65600

-- if no more than these wait, there is room for an answer, and for the reply to a bad frame
abbrev pub most_before_answer : ℕ
most_before_answer = most_waiting - longest_reply_frame - longest_answer

-- at most this many frames are answered between two commits
abbrev pub most_in_batch : ℕ
most_in_batch = 2 ^ 20 + 1

-- at most this many bytes of frames are held: a rest, and a piece after it
abbrev pub most_held : ℕ
most_held = longest_rest + longest_message_piece
