-- The texts of kept markers, and of lines that are none.
use Rattle.std.specs.Prelude.{ℕ, List, ◌∷◌, ◌++◌, codes, decimal, Result, Ok, Err}
use Rattle.bw_live.specs.declared.answer.MarkFault.{MarkFault}
use Rattle.bw_live.specs.declared.answer.MarkFault.TheVariants.{Unknown, Taken, TooMany, TooLate}

-- why a line is no marker
abbrev pub fault_words : MarkFault → List ℕ
fault_words Unknown = codes "it isn't 'mark' or 'mark LABEL-ID'"
fault_words Taken = codes "a marker has this label id"
fault_words TooMany = codes "there are 1,024 markers"
fault_words TooLate = codes "no marker can be so late"

-- `FRAME LABEL-ID.`, or `skipped.` for a line that is no marker
abbrev pub mark_text : Result (ℕ × ℕ) MarkFault → List ℕ
mark_text (Ok m) = decimal m.1 ++ 32 ∷ decimal m.0 ++ codes "."
mark_text (Err fault) = codes "skipped."

-- there are no more
abbrev pub end_text : List ℕ
end_text = codes "end."

-- what is reported of a line that is no marker: the path of the file of marks, and the line's number from 1
abbrev pub skipped_text : List ℕ → ℕ → MarkFault → List ℕ
skipped_text path number fault =
    codes "send: " ++ path ++ codes ": line " ++ decimal number ++ codes " is skipped: " ++ fault_words fault

-- what is reported of a look that failed
abbrev pub failed_look_text : List ℕ → List ℕ
failed_look_text words = codes "send: no marker can be placed now: " ++ words
