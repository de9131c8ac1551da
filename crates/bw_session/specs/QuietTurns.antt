-- Turns in which nothing is to be done.
use Rattle.std.specs.Prelude.{◌≡◌, ℕ, Bool, false, List}
use Rattle.bw_model.specs.Wire.{Message, Says}
use Rattle.bw_model.specs.Book.{Book, log_of}
use Rattle.bw_model.specs.CountedTurn.{is_pending}
use Rattle.bw_model.specs.Turn.{Faults, turn, is_admissible}

-- Under a number that is admitted or too far, where nothing waits for its verdict, replies and book
-- depend on no fault: they are one function of book and message.
abbrev pub SettledTurnsMeetNoFaults : Type 0
SettledTurnsMeetNoFaults =
    (existed : List ℕ → Bool) (book : Book) (m : Message) (faults other : Faults) →
    is_admissible (log_of book m.name) m.number ≡ false → is_pending (log_of book m.name) ≡ false →
    turn existed book (Says m) faults ≡ turn existed book (Says m) other
