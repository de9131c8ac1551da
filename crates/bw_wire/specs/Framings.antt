-- What follows a length at the start of a stream's bytes.
use Rattle.std.specs.Prelude.{◌≡◌, ℕ, ◌+◌, ◌≤◌, Bool, true, false, Option, Some, None}
use Rattle.std.specs.Prelude.{List, length, take, drop}
use Rattle.bw_model.specs.Bytes.{u32_at, first_that_holds}
use Rattle.bw_model.specs.Wire.{Length, Cut, Reason}
use Rattle.bw_model.specs.Stream.{framing_faults, longest_body}
use Rattle.bw_wire.specs.declared.framing.Framing.{Framing}
use Rattle.bw_wire.specs.declared.framing.Framing.TheVariants as framings

-- the body of this length after its length
abbrev pub body_at_prefix : ℕ → List ℕ → List ℕ
body_at_prefix len bytes = take len (drop 4 bytes)

-- a body of this length is at the start
pub record HasPrefix (longest : ℕ) (bytes : List ℕ) (len : ℕ) : Type 0 where
  pub framed : first_that_holds (framing_faults longest bytes) ≡ None
  pub len_is : len ≡ u32_at bytes 0
  pub short : len ≤ longest
  pub whole : 4 + len ≤ length bytes

-- whether the first frame is decided, by what is wrong with the bytes: only missing ones leave it
-- open
abbrev pub is_decided_by : Option Reason → Bool
is_decided_by (Some Cut) = false
is_decided_by _ = true

-- whether the first frame is decided: the bytes begin with a whole frame, or a length that no frame has
abbrev pub is_decided : List ℕ → Bool
is_decided bytes = is_decided_by (first_that_holds (framing_faults longest_body bytes))

-- what the bytes begin with, by their length field and the number of bytes that are there
abbrev pub IsFraming : ℕ → List ℕ → Framing → Type 0
IsFraming longest bytes framings.Partial =
    first_that_holds (framing_faults longest bytes) ≡ Some Cut
IsFraming longest bytes framings.Bad = first_that_holds (framing_faults longest bytes) ≡ Some Length
IsFraming longest bytes (framings.Body len) = HasPrefix longest bytes len
