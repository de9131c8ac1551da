-- What is written of a frame: all of it before the bytes that its request carries, its head.
use Rattle.std.specs.Prelude.{◌≡◌, ◌<◌, ◌≤◌, ◌+◌, ◌&&◌, ℕ, Bool, List, ◌++◌, length, take, drop}
use Rattle.std.specs.Prelude.{nat_le, nat_lt, IsTrue}
use Rattle.bw_model.specs.Take.{Request}
use Rattle.bw_model.specs.Wire.{Second, last_number, Frame, is_frame, body, framed}
use Rattle.bw_model.specs.World.{Sender as Defined}
use Rattle.bw_model.specs.Requests.{carried_bytes}
use Rattle.bw_wire.specs.EncodedFrames.{IsFrameOf, said}
use Rattle.bw_c.specs.PlainSenders.{IsPlainSender, sender_name, with_offer}
use Rattle.bw_c.specs.declared.sender.BwiSender.{BwiSender}

-- the next number is one, and the window isn't full
abbrev pub has_place : BwiSender → Bool
has_place x = nat_le x.settled x.offered && nat_lt x.offered (x.settled + 16)
    && nat_le x.offered (last_number Second)

-- The sender's next message with this request has a frame, its window isn't full, and the head fits into the
-- room.
pub record CanWrite (x : BwiSender) (r : Request) (room : ℕ) : Type 0 where
  pub frame : IsTrue (is_frame Second (said (sender_name x) x.offered r))
  pub settled : x.settled ≤ x.offered
  pub window : x.offered < x.settled + 16
  pub enough : length (framed (body (said (sender_name x) x.offered r))) ≤ room + length (carried_bytes r)

-- The first n bytes are the head of its frame, and the rest is as it was. The request was offered.
pub record WroteHead (old : BwiSender) (r : Request) (before : List ℕ) (new : BwiSender) (after : List ℕ)
    (n : ℕ)
    : Type 0 where
  pub frame : IsFrameOf (said (sender_name old) old.offered r) (take n after ++ carried_bytes r)
  pub rest : drop n after ≡ drop n before
  pub counted : new ≡ record old { offered = old.offered + 1 }
  pub offered : (s : Defined) → IsPlainSender s old → IsPlainSender (with_offer s r) new

-- The first n bytes are the whole frame, and the rest is as it was.
pub record WroteFrame (f : Frame) (before after : List ℕ) (n : ℕ) : Type 0 where
  pub frame : IsFrameOf f (take n after)
  pub rest : drop n after ≡ drop n before

-- The frame can be spelled, and fits into the room.
pub record CanSpell (f : Frame) (room : ℕ) : Type 0 where
  pub frame : IsTrue (is_frame Second f)
  pub enough : length (framed (body f)) ≤ room
