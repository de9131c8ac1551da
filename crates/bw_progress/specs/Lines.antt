-- The line that shows how far an upload is.
use Rattle.std.specs.Prelude.{ℕ, ◌+◌, ◌-◌, ◌*◌, ◌/◌, ◌%◌, ◌==◌, max, min, List, [], ◌∷◌, ◌++◌}
use Rattle.std.specs.Prelude.{Option, Some, None, codes, decimal, if◌then◌else◌}
use Rattle.bw_recorder.specs.Measures.{done_frames}
use Rattle.bw_progress.specs.Progresses.{speed_at}
use Rattle.bw_progress.specs.declared.batch.BatchPart.{BatchPart}
use Rattle.bw_progress.specs.declared.progress.LinkState.{LinkState}
use Rattle.bw_progress.specs.declared.progress.LinkState.TheVariants.{Up, Down}
use Rattle.bw_progress.specs.declared.progress.UploadProgress.{UploadProgress}

-- the two digits of a number below 100
abbrev pub clock_digits : ℕ → List ℕ
clock_digits n = (48 + n / 10) ∷ (48 + n % 10) ∷ []

-- so many seconds as hours, minutes and seconds: `1:02:03`
abbrev pub span_text : ℕ → List ℕ
span_text n = decimal (n / 3600) ++ codes ":" ++ clock_digits (n / 60 % 60) ++ codes ":"
    ++ clock_digits (n % 60)

-- bytes a second in millions of bytes, with one decimal that is rounded down: `27.4 MB/s`
abbrev pub speed_text : ℕ → List ℕ
speed_text n = decimal (n / 1000000) ++ codes "." ++ decimal (n / 100000 % 10) ++ codes " MB/s"

-- how many hundredths are done, rounded down; all of nothing
abbrev pub percent : ℕ → ℕ → ℕ
percent done all = if all == 0 then 100 else min done all * 100 / all

-- how long so many frames last, and of how many; without an end, the first alone
abbrev pub part_text : ℕ → ℕ → Option ℕ → List ℕ
part_text rate done None = span_text (done / rate)
part_text rate done (Some all) =
    decimal (percent done all) ++ codes "% " ++ span_text (done / rate) ++ codes "/"
    ++ span_text (all / rate)

-- how much of a take is settled
abbrev pub amount_text : UploadProgress → List ℕ
amount_text p =
    part_text (max p.measure.rate 1) (done_frames p.measure p.offered p.settled) p.measure.frames

-- whether there is a link, or for how many seconds there has been none
abbrev pub link_text : ℕ → LinkState → List ℕ
link_text now Up = codes "link up"
link_text now (Down since) = codes "link down, " ++ decimal ((now - since) / 1000) ++ codes " s"

-- how fast requests are settled, how many are under way, and the link
abbrev pub course_text : ℕ → UploadProgress → List ℕ
course_text now p =
    speed_text (speed_at now p) ++ codes " pending " ++ decimal (p.offered - p.settled)
    ++ codes " " ++ link_text now p.link

-- which of several recordings it is: `3/40 `; nothing of one that is sent alone
abbrev pub batch_text : BatchPart → List ℕ
batch_text part =
    if part.count == 0 then []
    else decimal part.number ++ codes "/" ++ decimal part.count ++ codes " "

-- The line at this millisecond: which recording it is, the take's name, how much is settled, and the
-- course.
abbrev pub upload_line : ℕ → UploadProgress → List ℕ
upload_line now p =
    batch_text p.part ++ p.name ++ codes " " ++ amount_text p ++ codes " " ++ course_text now p
