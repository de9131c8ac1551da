-- What a server keeps, in the definitions' words.
use Rattle.std.specs.Prelude.{◌≡◌, ℕ, Option, Some, IsTrue, List, length, option_map}
use Rattle.std.specs.Option.{option_map_or}
use Rattle.bw_model.specs.Book.{Book, log_of}
use Rattle.bw_model.specs.Holds.{Store, Kept, Holds}
use Rattle.bw_store.specs.declared.store.TakeStore.{Ghosts as StoreGhosts}
use Rattle.bw_session.specs.Drains.{kept_as}
use Rattle.bw_session.specs.Prefixes.{StandsAhead}
use Rattle.bw_session.specs.Tables.{Table, session_in}
use Rattle.bw_session.specs.KeptParts.{Part}
use Rattle.bw_session.specs.Sessions.{part_of}
use Rattle.bw_session.specs.ConsecutiveCalls.{new_part}
use Rattle.bw_session.specs.declared.session.Session.{Session}

-- what a session keeps of its name
abbrev pub kept_by : Session → Kept
kept_by s = kept_as s.progress.state.parts s.progress.ledger.outcomes s.window s.progress.growing

-- what a server keeps, by name
abbrev pub kept_in : {H : Type 0} → Table H → List ℕ → Option Kept
kept_in sessions name = option_map kept_by (session_in sessions name)

-- The sessions of a server hold the book over a store: each file that is ahead of its take has the
-- request that waits.
pub record HoldsIn (limit : ℕ) (store : Store) (sessions : List ℕ → Option Session) (book : Book) :
    Type 0 where
  pub holds : Holds limit store (λ n. option_map kept_by (sessions n)) book
  pub ahead : IsTrue store.honest → (name : List ℕ) (s : Session) → sessions name ≡ Some s →
      StandsAhead (store.first name) (log_of book name) s.progress.growing (store.contents name)

-- a store, and what was in it at the start
abbrev pub store_since : {X : Type 0} → StoreGhosts X → (List ℕ → Option (List ℕ)) → X → Store
store_since S first store = record {
  contents = S.contents store;
  first = first;
  honest = S.honest store;
}

-- how many numbers of a name have their verdicts
abbrev pub done_in : {H : Type 0} → Table H → List ℕ → ℕ
done_in sessions name =
    option_map_or (λ s. length s.progress.ledger.outcomes) (session_in sessions name) 0

-- what a server with this limit keeps and holds of a name
abbrev pub part_in : {H : Type 0} → Table H → ℕ → List ℕ → Part
part_in sessions limit name =
    option_map_or part_of (session_in sessions name) (new_part name limit)
