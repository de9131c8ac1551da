-- The ways in which the turn of a message goes, and where draining ends.
use Rattle.std.proofs.Common.{ℕ, ◌≤◌, Bool, true, false, not, cond, ◌&&◌, List, [], ◌∷◌, Option, Some, None, arith}
use Rattle.std.specs.Prelude.{nat_le}
use Rattle.bw_model.specs.Wire.{Message}
use Rattle.bw_model.specs.Replies.{Reply, Noticed, Notice, TooFar, TableFull, NoRoom}
use Rattle.bw_model.specs.Book.{Log}
use Rattle.bw_model.specs.Turn.{Faults, turn_by, served, drained_to, window, is_admissible, notice}

-- a notice alone, or the name's log is served
pub by_case : (taken known full : Bool) (log : Log) (m : Message) (faults : Faults)
    (P : List Reply × Option Log → Type 0) →
    ((code : Notice) (next : ℕ) → P (Noticed m.name m.number code next ∷ [], None)) →
    P ((served taken log m faults.stop).0, Some (served taken log m faults.stop).1) →
    P (turn_by taken known full log m faults)
unfolding turn_by
by_case taken known full log m faults P noticed changed =
    go (not known && nat_le window m.number) (not known && full) (is_admissible log m.number && faults.refused)
  where
    go : (far full refused : Bool) → P (cond far (notice m TooFar 0, None) (cond full (notice m TableFull 0, None)
        (cond refused (notice m NoRoom log.done, None)
        ((served taken log m faults.stop).0, Some (served taken log m faults.stop).1))))
    go true full refused = noticed TooFar 0
    go false true refused = noticed TableFull 0
    go false false true = noticed NoRoom log.done
    go false false false = changed

pub ends_between : (done end : ℕ) (stop : Option ℕ) → done ≤ end →
    (done ≤ drained_to done end stop) × (drained_to done end stop ≤ end)
ends_between done end None h = (h, omega arith)
ends_between done end (Some k) h = (omega arith, omega arith)
