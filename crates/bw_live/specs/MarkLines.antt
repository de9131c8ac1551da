-- What the lines of a file of marks ask for.
use Rattle.std.specs.Prelude.{ℕ, List, Option, Some, None, codes, drop, nat_eq, if◌then◌else◌}
use Rattle.std.specs.List.{starts_with}
use Rattle.std.specs.Str.{bytes_eq}
use Rattle.bw_live.specs.MarkNumbers.{number_spelled}
use Rattle.bw_live.specs.declared.answer.MarkWish.{MarkWish}
use Rattle.bw_live.specs.declared.answer.MarkWish.TheVariants.{Next, Labelled, Unknown}

-- a marker with this identifier, if it is one
abbrev pub labelled_wish : Option ℕ → MarkWish
labelled_wish None = Unknown
labelled_wish (Some id) = Labelled id

-- `mark` or `mark LABEL-ID`, or anything else
abbrev pub wish_said : List ℕ → MarkWish
wish_said line =
    if bytes_eq line (codes "mark") then Next
    else if starts_with nat_eq line (codes "mark ") then labelled_wish (number_spelled (drop 5 line))
    else Unknown
