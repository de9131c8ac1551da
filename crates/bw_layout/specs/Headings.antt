-- The header of a file by its heading.
use Rattle.std.specs.Prelude.{ℕ, List, length, Bool, nat_le}
use Rattle.bw_model.specs.File.{header, form_size, data_place}
use Rattle.bw_layout.specs.declared.heading.Heading.{Heading}

-- the bytes before the data, for this much data and this many cue points
abbrev pub header_of : Heading → ℕ → ℕ → List ℕ
header_of h data_len cues = header h.format h.bext.now h.history.now data_len cues h.limit

-- where the data begin
abbrev pub place_of : Heading → ℕ
place_of h = data_place (length h.history.now)

-- the form size is one of a RIFF file
abbrev pub fits_riff : Heading → ℕ → ℕ → Bool
fits_riff h data_len cues = nat_le (form_size (length h.history.now) data_len cues) h.limit
