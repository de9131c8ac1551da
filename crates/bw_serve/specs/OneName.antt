-- What is left of an exchange if it may have one name alone.
use Rattle.std.specs.Prelude.{◌≡◌, ◌≢◌, ◌⊎◌, ℕ, true, IsTrue, if◌then◌else◌, List, [], ◌∷◌, length}
use Rattle.bw_model.specs.Wire.{Second, Frame, Says, Asks, Bye, Reason, Name, are_bytes}
use Rattle.bw_model.specs.Stream.{End, BadFrame, frames_bytes, stream_of}
use Rattle.bw_serve.specs.Filters.{starting, allows, filtered}

-- the name of a frame; BYE has none
abbrev pub frame_name : Frame → List ℕ
frame_name (Says m) = m.name
frame_name (Asks name number) = name
frame_name Bye = []

-- the frames up to the first under another name than this, or than the first's if this is empty
abbrev pub under_name : List ℕ → List Frame → List Frame
under_name name [] = []
under_name name (f ∷ fs) =
    if allows name (frame_name f) then f ∷ under_name (frame_name f) fs else []

-- the frames up to the first under another name than the first's
abbrev pub under_one_name : List Frame → List Frame
under_one_name frames = under_name [] frames

-- what is given for the bytes of an exchange
abbrev pub one_name : List ℕ → List ℕ
one_name bytes = filtered (starting true) bytes

-- it ends alike, or a frame that was bad at this place is bad there for its name
abbrev pub EndsAlike : ℕ → End → End → Type 0
EndsAlike place end end' = (end' ≡ end)
    ⊎ ((reason : Reason) × (end ≡ BadFrame reason place) × (end' ≡ BadFrame Name place))

-- what is left of an exchange with these frames and this end: these frames, and this end
pub record LeavesOneName (fs : List Frame) (end : End) (fs' : List Frame) (end' : End) : Type 0 where
  pub frames : fs' ≡ under_one_name fs
  -- the first frame under another name is bad, at its place
  pub other : fs' ≢ fs → end' ≡ BadFrame Name (length (frames_bytes fs'))
  -- without one it ends as before, or at the same bad frame, which is then bad for its name
  pub alike : fs' ≡ fs → EndsAlike (length (frames_bytes fs)) end end'

-- of each exchange the frames are left up to the first under another name, and none after it
abbrev pub OneNameIsLeft : Type 0
OneNameIsLeft = (bytes : List ℕ) → IsTrue (are_bytes bytes) →
    let s = stream_of Second bytes in
    let t = stream_of Second (one_name bytes) in
    LeavesOneName s.0 s.1 t.0 t.1
