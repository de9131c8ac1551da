-- The lines of what a recording loses of its file.
use Rattle.std.specs.Prelude.{ℕ, List, ◌++◌, map, flat_map, codes, decimal, ◌==◌, if◌then◌else◌}
use Rattle.bw_model.specs.Report.{id_byte}
use Rattle.bw_console.specs.Text.{as_line}
use Rattle.bw_plan.specs.Warnings.{Warning, FieldCleaned, FieldLeftOut, HistoryCleaned, CuesLeftOut}
use Rattle.bw_plan.specs.Warnings.{MaskLeftOut, ChunkLeftOut}
use Rattle.bw_recorder.specs.QuotedTexts.{quoted_text}

-- the key of the text field of `bext` with this tag
abbrev pub key_of : ℕ → List ℕ
key_of tag =
    if tag == 1 then codes "description"
    else if tag == 2 then codes "originator"
    else if tag == 3 then codes "reference"
    else if tag == 4 then codes "date"
    else codes "clock"

-- the text under a key became another one
abbrev pub cleaning_text : List ℕ → List ℕ → List ℕ → List ℕ
cleaning_text key before after =
    codes "cleaned: "
    ++ (key ++ (codes " " ++ (quoted_text before ++ (codes " -> " ++ quoted_text after))))

-- what a warning says
abbrev pub warning_text : Warning → List ℕ
warning_text (FieldCleaned tag before after) = cleaning_text (key_of tag) before after
warning_text (FieldLeftOut tag) = codes "left out: " ++ key_of tag
warning_text (HistoryCleaned before after) = cleaning_text (codes "history") before after
warning_text (CuesLeftOut count) = codes "left out: cue points " ++ decimal count
warning_text MaskLeftOut = codes "left out: channel mask"
warning_text (ChunkLeftOut e) = codes "left out: " ++ map id_byte e.id ++ codes " " ++ decimal e.size

abbrev pub warning_line : Warning → List ℕ
warning_line w = as_line (warning_text w)

-- a line for each
abbrev pub warning_lines : List Warning → List ℕ
warning_lines ws = flat_map warning_line ws
