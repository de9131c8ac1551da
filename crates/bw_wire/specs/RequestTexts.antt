-- Requests in hex.
use Rattle.std.specs.Prelude.{◌≡◌, ℕ, ◌%◌, List, Ok}
use Rattle.hex.specs.Hex.{decode_of}
use Rattle.bw_model.specs.Wire.{decoded_request}
use Rattle.bw_model.specs.Take.{Request}

-- the hex of a request: its kind byte and its payload
pub record IsRequestText (text : List ℕ) (r : Request) : Type 0 where
  pub bytes : List ℕ
  pub hex : decode_of text ≡ Ok bytes
  pub request : decoded_request bytes ≡ Ok r

-- an even number
abbrev pub IsEven : ℕ → Type 0
IsEven n = n % 2 ≡ 0
