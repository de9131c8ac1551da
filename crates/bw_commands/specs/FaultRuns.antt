-- What faults the events of a rehearsal meet, and where they are reported.
use Rattle.std.specs.Prelude.{◌≡◌, ℕ, Option, Some, None, IsTrue, IsFalse, List, [], ◌∷◌}
use Rattle.std.specs.Prelude.{slice_get, map}
use Rattle.std.specs.List.{list_any}
use Rattle.bw_model.specs.Counts.{Counts}
use Rattle.bw_model.specs.Wire.{Message, Frame, Says}
use Rattle.bw_model.specs.Book.{Book}
use Rattle.bw_model.specs.Turn.{Faults, good, turn}
use Rattle.bw_model.specs.CountedTurn.{IsWithoutRoom, stops_short}
use Rattle.bw_model.specs.NumberOrder.{reports_failure}
use Rattle.bw_model.specs.Exchange.{nothing_stands}
use Rattle.bw_model.specs.World as model

-- All of a turn's faults are reported, by its answer or by the store's count of failures.
pub record AreReported (before after : ℕ) (book : Book) (f : Frame) (faults : Faults) : Type 0 where
  -- a growth is refused only if NoRoom is the answer
  pub room : IsTrue faults.refused → IsWithoutRoom book f (turn nothing_stands book f faults).0
  -- the count rises exactly if draining stops short
  pub count : Counts before after (stops_short nothing_stands book f faults)
  pub stop : IsFalse (stops_short nothing_stands book f faults) → faults.stop ≡ None

-- the server's memory and store aren't used: there is no fault, and the count stays
pub record IsUntouched (before after : ℕ) (faults : Faults) : Type 0 where
  pub faults_are : faults ≡ good
  pub count : after ≡ before

-- the faults of a delivery, if there is a message
abbrev pub AreFaultsOfDelivery : ℕ → ℕ → Book → Option Message → Faults → Type 0
AreFaultsOfDelivery before after book None faults = IsUntouched before after faults
AreFaultsOfDelivery before after book (Some m) faults = AreReported before after book (Says m) faults

-- the faults of an event, between two counts of the store's failures; in a rehearsal there is no
-- other recorder
abbrev pub AreFaultsOf : ℕ → ℕ → model.World → model.Event → Faults → Type 0
AreFaultsOf before after w (model.Offer r) faults = IsUntouched before after faults
AreFaultsOf before after w (model.Send i) faults = IsUntouched before after faults
AreFaultsOf before after w (model.Deliver k) faults =
    AreFaultsOfDelivery before after w.book (slice_get w.sent k) faults
AreFaultsOf before after w (model.Bring k) faults = IsUntouched before after faults
AreFaultsOf before after w model.Ask faults = IsUntouched before after faults
AreFaultsOf before after w (model.Foreign f) faults = ⊥

-- each event of a schedule meets such faults, and the counts follow each other
abbrev pub AreFaultsOfRuns : ℕ → ℕ → model.World → List (model.Event × Faults) → Type 0
AreFaultsOfRuns before after w [] = after ≡ before
AreFaultsOfRuns before after w (e ∷ es) =
    (between : ℕ) × AreFaultsOf before between w e.0 e.1
    × AreFaultsOfRuns between after (model.happens nothing_stands w e.0 e.1) es

-- If no call of the store failed, and no reply reports lack of memory, there was no fault.
abbrev pub UnreportedFaultsAreNone : Type 0
UnreportedFaultsAreNone = (w : model.World) (schedule : List (model.Event × Faults)) →
    AreFaultsOfRuns 0 0 w schedule →
    IsFalse (list_any reports_failure (model.world_after nothing_stands w schedule).replies) →
    schedule ≡ map (λ x. (x.0, good)) schedule
