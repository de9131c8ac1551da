-- What an encoder gives.
use Rattle.std.specs.Prelude.{◌≡◌, ℕ, IsTrue, List}
use Rattle.bw_model.specs.Take.{Request}
use Rattle.bw_model.specs.Wire.{Second, Frame, Says, is_frame, body, framed}

-- the message of a request under a name and a number
abbrev pub said : List ℕ → ℕ → Request → Frame
said name number request = Says (record { name = name; number = number; request = request })

-- the one frame that spells this
pub record IsFrameOf (f : Frame) (bytes : List ℕ) : Type 0 where
  pub fits : IsTrue (is_frame Second f)
  pub spelled : bytes ≡ framed (body f)
