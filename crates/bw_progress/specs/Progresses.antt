-- How far an upload is.
use Rattle.std.specs.Prelude.{ℕ, List, Option, Some, None, length}
use Rattle.bw_model.specs.World.{Sender, settled}
use Rattle.bw_upload.specs.declared.observer.LinkEnd.TheVariants as ends
use Rattle.bw_upload.specs.declared.observer.LinkEvent.{LinkEvent}
use Rattle.bw_upload.specs.declared.observer.LinkEvent.TheVariants as events
use Rattle.bw_recorder.specs.Measures.{done_bytes}
use Rattle.bw_progress.specs.Speeds.{bytes_a_second, speed_noted}
use Rattle.bw_progress.specs.declared.batch.BatchPart.{BatchPart}
use Rattle.bw_recorder.specs.declared.measure.TakeMeasure.{TakeMeasure}
use Rattle.bw_progress.specs.declared.progress.LinkState.{LinkState}
use Rattle.bw_progress.specs.declared.progress.LinkState.TheVariants.{Up, Down}
use Rattle.bw_progress.specs.declared.progress.UploadProgress.{UploadProgress}
use Rattle.bw_progress.specs.declared.speed.Mark.{Mark}
use Rattle.bw_progress.specs.declared.speed.Speed.{Speed}

-- an upload that begins at this millisecond
abbrev pub begun_progress : BatchPart → List ℕ → TakeMeasure → ℕ → UploadProgress
begun_progress part name measure now = record {
  part = part;
  name = name;
  measure = measure;
  offered = 0;
  settled = 0;
  link = Down now;
  speed = None;
}

-- the link after an event at this millisecond; one that is left because all is done isn't down
abbrev pub link_after : ℕ → LinkEvent → LinkState → LinkState
link_after now events.Made link = Up
link_after now (events.Left ends.Done) link = link
link_after now (events.Left _) link = Down now
link_after now events.Missed link = link
link_after now (events.Waits milliseconds) link = link

-- what is done at this millisecond
abbrev pub mark_at : ℕ → UploadProgress → Mark
mark_at now p = record { time = now; bytes = done_bytes p.measure p.offered p.settled }

-- the speed after a mark, which may be the first
abbrev pub speed_after : Mark → Option Speed → Speed
speed_after mark None = speed_noted mark (record { since = mark; next = mark })
speed_after mark (Some speed) = speed_noted mark speed

-- an upload of which so many requests are offered and settled at this millisecond
abbrev pub counted_progress : ℕ → ℕ → ℕ → UploadProgress → UploadProgress
counted_progress now offered settled p =
    let q = record p { offered = offered; settled = settled } in
    record q { speed = Some (speed_after (mark_at now q) p.speed) }

-- .. by a sender
abbrev pub counted_at : ℕ → Sender → UploadProgress → UploadProgress
counted_at now s p = counted_progress now (length s.offered) (settled s) p

-- an upload after an event at this millisecond, and such a count
abbrev pub followed : ℕ → LinkEvent → Sender → UploadProgress → UploadProgress
followed now event s p = counted_at now s (record p { link = link_after now event p.link })

-- how many bytes a second are settled, over the last seconds
abbrev pub speed_at : ℕ → UploadProgress → ℕ
speed_at now p = elim p.speed [ None ↦ 0 | Some speed ↦ bytes_a_second speed.since (mark_at now p) ]
