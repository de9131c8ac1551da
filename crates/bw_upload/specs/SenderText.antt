-- The text of a sender's outcome.
use Rattle.std.specs.Prelude.{ℕ, ◌++◌, List, flat_map, codes, decimal}
use Rattle.bw_model.specs.Take.{Verdict, Stored, NameTaken, AlreadyOpen, NotOpen, Closed}
use Rattle.bw_model.specs.Take.{BadFormat, BadBlock, BadMarker, DuplicateMarker, TooManyMarkers}
use Rattle.bw_model.specs.Take.{BadField, WrongTotal}
use Rattle.bw_model.specs.World.{Sender, settled, stored, refused}
use Rattle.bw_console.specs.Text.{as_line}

-- a verdict as it is printed
abbrev pub name_of_verdict : Verdict → List ℕ
name_of_verdict Stored = codes "Stored"
name_of_verdict NameTaken = codes "NameTaken"
name_of_verdict AlreadyOpen = codes "AlreadyOpen"
name_of_verdict NotOpen = codes "NotOpen"
name_of_verdict Closed = codes "Closed"
name_of_verdict BadFormat = codes "BadFormat"
name_of_verdict BadBlock = codes "BadBlock"
name_of_verdict BadMarker = codes "BadMarker"
name_of_verdict DuplicateMarker = codes "DuplicateMarker"
name_of_verdict TooManyMarkers = codes "TooManyMarkers"
name_of_verdict BadField = codes "BadField"
name_of_verdict WrongTotal = codes "WrongTotal"

-- the lines of two counts
abbrev pub counts_lines : ℕ → ℕ → List ℕ
counts_lines settled stored =
    as_line (codes "settled " ++ decimal settled) ++ as_line (codes "stored " ++ decimal stored)

-- the line of a refused number
abbrev pub refused_line : ℕ × Verdict → List ℕ
refused_line x =
    as_line (codes "refused " ++ decimal x.0 ++ codes " " ++ name_of_verdict x.1)

-- how many are settled and stored, and the refused numbers in their order
abbrev pub sender_text : Sender → List ℕ
sender_text s = counts_lines (settled s) (stored s) ++ flat_map refused_line (refused s)
