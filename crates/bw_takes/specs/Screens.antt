-- What a screen shows of takes, by what is read of them and by the screen before.
use Rattle.std.specs.Prelude.{◌==◌, ◌-◌, ◌/◌, ◌%◌, ℕ, Bool, true, false}
use Rattle.std.specs.Prelude.{List, [], ◌∷◌, ◌++◌, codes, decimal, length, map, take}
use Rattle.std.specs.Prelude.{flat_map, if◌then◌else◌, Option, Some, None}
use Rattle.std.specs.List.{count_by}
use Rattle.std.specs.Str.{bytes_eq}
use Rattle.bw_stream.specs.Moves.{one_more}
use Rattle.bw_takes.specs.FolderProgress.{progress_word}
use Rattle.bw_takes.specs.TakeLines.{thousandths}
use Rattle.bw_takes.specs.declared.progress.ProgressState.{ProgressState}
use Rattle.bw_takes.specs.declared.progress.ProgressState.TheVariants as states
use Rattle.bw_takes.specs.declared.progress.TakeProgress.{TakeProgress}
use Rattle.bw_takes.specs.declared.screen.Row.{Row}
use Rattle.bw_takes.specs.declared.screen.ScreenStyle.{ScreenStyle}
use Rattle.bw_takes.specs.declared.screen.ScreenStyle.TheVariants.{Terminal, Lines}

-- the first row of a take
abbrev pub first_row : TakeProgress → Row
first_row t = record { take = t; growth = None; unchanged = 0 }

-- The next row of a take that had this one: by how many frames it grew, and for how many screens its
-- next number stayed the same.
abbrev pub next_row : TakeProgress → Row → Row
next_row t row = record {
  take = t;
  growth = Some (t.frames - row.take.frames);
  unchanged = if t.next == row.take.next then one_more row.unchanged else 0;
}

-- the row of a take after a screen with these
abbrev pub row_after : List Row → TakeProgress → Row
row_after [] t = first_row t
row_after (row ∷ rows) t = if bytes_eq row.take.name t.name then next_row t row else row_after rows t

-- the rows of takes after a screen with these
abbrev pub rows_after : List Row → List TakeProgress → List Row
rows_after before takes = map (row_after before) takes

-- whether a take is open
abbrev pub is_open_state : ProgressState → Bool
is_open_state states.Open = true
is_open_state _ = false

-- so many seconds as hours, minutes and seconds
unfoldable pub hours_text : ℕ → List ℕ
hours_text n = decimal (n / 3600) ++ codes ":" ++ decimal (n / 600 % 6) ++ decimal (n / 60 % 10)
    ++ codes ":" ++ decimal (n / 10 % 6) ++ decimal (n % 10)

-- whole seconds and thousandths of one
unfoldable pub seconds_text : ℕ → ℕ → List ℕ
seconds_text whole part = decimal whole ++ codes "." ++ decimal (part / 100)
    ++ decimal (part / 10 % 10) ++ decimal (part % 10) ++ codes " s"

-- how long so many frames last at a rate, rounded down; a dash where there are none
abbrev pub recorded_text : ℕ → ℕ → List ℕ
recorded_text count rate = if rate == 0 then codes "-" else hours_text (count / rate)

-- how long the frames last that came, rounded down to thousandths of a second; a dash in a first row
abbrev pub growth_text : Option ℕ → ℕ → List ℕ
growth_text None rate = codes "-"
growth_text (Some count) rate =
    if rate == 0 then codes "-" else seconds_text (count / rate) (thousandths count rate)

-- for how many screens nothing came, of which there is one each second
unfoldable pub age_text : ℕ → List ℕ
age_text n = decimal n ++ codes " s"

-- the text of a column of this width, at most twelve, and what comes before the next
abbrev pub cell : ℕ → List ℕ → List ℕ
cell width text = text ++ (take (width - length text) (codes "            ") ++ codes "  ")

-- a control sequence of a terminal (ECMA-48, and DEC's for wrapping)
abbrev pub control : List ℕ → List ℕ
control text = 27 ∷ 91 ∷ text

-- where a screen begins; a terminal doesn't wrap from here on, and its first line is cleared
abbrev pub screen_start : ScreenStyle → List ℕ
screen_start Terminal = control (codes "?7l") ++ (control (codes "H") ++ control (codes "K"))
screen_start Lines = []

-- where a line ends; the cursor of a terminal goes to the next one, but never below the last, and that
-- line is cleared
abbrev pub line_end : ScreenStyle → List ℕ
line_end Terminal = 13 ∷ (control (codes "B") ++ control (codes "K"))
line_end Lines = 10 ∷ []

-- where a screen ends; a terminal clears all below, and wraps again
abbrev pub screen_end : ScreenStyle → List ℕ
screen_end Terminal = control (codes "J") ++ control (codes "?7h")
screen_end Lines = 10 ∷ []

-- the line of a take
abbrev pub row_text : ScreenStyle → Row → List ℕ
row_text style row = cell 12 (progress_word row.take.state)
    ++ (cell 10 (recorded_text row.take.frames row.take.rate)
    ++ (cell 9 (growth_text row.growth row.take.rate)
    ++ (cell 9 (age_text row.unchanged) ++ (row.take.name ++ line_end style))))

-- the line of an open take
abbrev pub open_text : ScreenStyle → Row → List ℕ
open_text style row = if is_open_state row.take.state then row_text style row else []

-- the line of another take
abbrev pub other_text : ScreenStyle → Row → List ℕ
other_text style row = if is_open_state row.take.state then [] else row_text style row

-- the line of a take if it is open, or if it isn't
abbrev pub text_if : Bool → ScreenStyle → Row → List ℕ
text_if true = open_text
text_if false = other_text

-- how many takes are open
abbrev pub open_count : List Row → ℕ
open_count rows = count_by (λ row. is_open_state row.take.state) rows

-- what follows the number of the open takes, and that of all
unfoldable pub open_word : List ℕ
open_word = codes " open, "

unfoldable pub all_word : List ℕ
all_word = codes " in all"

-- how many takes there are
abbrev pub takes_text : ℕ → ℕ → List ℕ
takes_text opened all = (decimal opened ++ open_word) ++ (decimal all ++ all_word)

-- the names of the columns
unfoldable pub column_names : List ℕ
column_names = codes "STATE         RECORDED    GROWTH     UNCHANGED  NAME"

-- the lines above the takes
unfoldable pub head_text : ScreenStyle → List Row → List ℕ
head_text style rows = takes_text (open_count rows) (length rows)
    ++ (line_end style ++ (column_names ++ line_end style))

-- A screen: how many takes there are, the names of the columns, and a line for each take, the open
-- ones first.
abbrev pub screen_text : ScreenStyle → List Row → List ℕ
screen_text style rows = screen_start style ++ (head_text style rows
    ++ (flat_map (open_text style) rows ++ (flat_map (other_text style) rows ++ screen_end style)))
