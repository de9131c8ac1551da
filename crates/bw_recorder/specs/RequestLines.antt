-- Requests as lines of hex.
use Rattle.std.specs.Prelude.{ℕ, List, ◌∷◌, flat_map, IsTrue}
use Rattle.hex.specs.Hex.{encode_lower}
use Rattle.bw_model.specs.Take.{Request}
use Rattle.bw_model.specs.Wire.{kind, payload, is_request}
use Rattle.bw_wire.specs.RequestTexts.{IsRequestText}
use Rattle.bw_console.specs.Text.{as_line}

-- a request's kind byte and its payload, in hex
abbrev pub request_hex : Request → List ℕ
request_hex r = encode_lower (kind r ∷ payload r)

-- a line for each
abbrev pub request_lines : List Request → List ℕ
request_lines rs = flat_map (λ r. as_line (request_hex r)) rs

-- what is printed of a request is read as that request
abbrev pub LinesAreRead : Type 0
LinesAreRead = (r : Request) → IsTrue (is_request r) → IsRequestText (request_hex r) r
