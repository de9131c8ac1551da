-- What an honest journal has of the names of a book.
use Rattle.std.specs.Prelude.{◌≡◌, ℕ, Bool, false, Option, Some, None, is_some, List}
use Rattle.bw_model.specs.Book.{Book, log_of}
use Rattle.bw_model.specs.Wire.{Frame, Says, Asks, Bye}
use Rattle.bw_journal.specs.JournalHeaders.{Header, header_bytes}
use Rattle.bw_journal.specs.Notes.{IsPrefixOf}
use Rattle.bw_session.specs.NameNotes.{IsNoted}
use Rattle.bw_session.specs.declared.session.Session.{Session}

-- Of each name that is known it has what its log says. A name may be asleep: its journal lies there,
-- unopened, and nothing is said of it. Of each other that isn't known it has no more than a prefix of
-- the header, and each header of a name that is awake says whether the name existed.
pub record NotesNames (asleep : List ℕ → Bool) (header : List ℕ → Header)
    (notes : List ℕ → Option (List ℕ)) (first : List ℕ → Option (List ℕ))
    (sessions : List ℕ → Option Session) (book : Book) : Type 0 where
  pub known : (name : List ℕ) (s : Session) → sessions name ≡ Some s →
      IsNoted (header name) name (log_of book name) s.progress.noted (notes name)
  pub unknown : (name : List ℕ) → sessions name ≡ None → asleep name ≡ false →
      IsPrefixOf (header_bytes name (header name)) (notes name)
  pub existed : (name : List ℕ) → asleep name ≡ false → (header name).existed ≡ is_some (first name)

-- no name is asleep
abbrev pub none_asleep : List ℕ → Bool
none_asleep name = false

-- The name of a frame is awake, if the frame may change what is known of it.
abbrev pub IsAwakeFor : (List ℕ → Bool) → Frame → Type 0
IsAwakeFor asleep (Says m) = asleep m.name ≡ false
IsAwakeFor asleep (Asks name n) = Unit {0}
IsAwakeFor asleep Bye = Unit {0}
