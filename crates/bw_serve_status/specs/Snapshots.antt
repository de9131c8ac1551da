-- What is shown of a server besides its takes.
use Rattle.std.specs.Prelude.{◌≡◌, ◌==◌, ◌&&◌, ◌||◌, Bool, List, is_some, length, map, nat_lt}
use Rattle.std.specs.Prelude.{unwrap_or, if◌then◌else◌}
use Rattle.std.specs.List.{list_any}
use Rattle.bw_model.specs.Turn.{most_takes}
use Rattle.bw_serve.specs.CountedEnds.{end_counts}
use Rattle.bw_serve.specs.declared.observing.RoundReport.{RoundReport}
use Rattle.bw_status.specs.declared.snapshot.Health.{Health}
use Rattle.bw_status.specs.declared.snapshot.Health.TheVariants.{Ready, Folder, Full, Store}
use Rattle.bw_status.specs.declared.snapshot.Snapshot.{Snapshot}
use Rattle.bw_status.specs.declared.snapshot.TakeStatus.{TakeStatus}
use Rattle.bw_serve_status.specs.CountNames.{kind_and_count, message_counts, notice_counts}
use Rattle.bw_serve_status.specs.CountNames.{verdict_counts}
use Rattle.bw_serve_status.specs.Tallies.{Tally}
use Rattle.bw_serve_status.specs.declared.snapshots.Surroundings.{Surroundings}

-- nothing of a take waits, and a number of it is done
abbrev pub is_idle : TakeStatus → Bool
is_idle t = (t.held == 0) && nat_lt 0 t.next

-- a new name finds a place in a table of these takes: a free one, or that of an idle take, if names may
-- leave the table
abbrev pub finds_place : Bool → List TakeStatus → Bool
finds_place may_leave takes =
    nat_lt (length takes) most_takes || (may_leave && list_any is_idle takes)

-- whether a server of these takes is well: its folder can be used, its store doesn't fail to begin takes,
-- and a new name finds a place; with journals names may leave the table
abbrev pub health_of : List TakeStatus → Surroundings → Health
health_of takes around =
    if around.has_folder then (if around.begins then
    (if finds_place (is_some around.resumed) takes then Ready else Full) else Store) else Folder

-- what was counted is shown as it is, and so is what the round's end and the surroundings say
pub record CopiesCounts (tally : Tally) (round : RoundReport) (around : Surroundings) (s : Snapshot)
    : Type 0 where
  pub since : s.since ≡ around.since
  pub uptime : s.uptime_ms ≡ around.now
  pub resumed : s.resumed ≡ unwrap_or around.resumed 0
  pub connections : s.connections ≡ round.connections
  pub places : s.places ≡ round.places
  pub ended : s.ended ≡ round.ended
  pub ended_by : map kind_and_count s.ended_by.items ≡ end_counts round.ended_by
  pub turned_away : s.turned_away ≡ round.turned_away
  pub bytes : s.bytes ≡ tally.bytes
  pub memory : s.memory ≡ around.memory
  pub lines_dropped : s.lines_dropped ≡ around.lines_dropped
  pub messages : map kind_and_count s.messages.items ≡ message_counts tally.kinds
  pub verdicts : map kind_and_count s.verdicts.items ≡ verdict_counts tally.verdicts
  pub notices : map kind_and_count s.notices.items ≡ notice_counts tally.notices
  pub health : s.health ≡ health_of s.takes.items around
