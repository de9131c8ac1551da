-- Servers over a folder as those of a world: which steps of it their turns, their stops and their starts are.
use Rattle.std.specs.Prelude.{ℕ, Bool, Option, is_some, IsTrue, List}
use Rattle.bw_model.specs.Book.{Book}
use Rattle.bw_model.specs.World.{World}
use Rattle.bw_store.specs.declared.store.TakeStore.{Ghosts as StoreGhosts}
use Rattle.bw_journal.specs.Stops.{cut_book}
use Rattle.bw_journal.specs.declared.journal.Journal.{Ghosts as JournalGhosts}
use Rattle.bw_exchange.specs.AnsweredFrames.{Answered, AnswersAll}
use Rattle.bw_session.specs.declared.server.Server.{Server}
use Rattle.bw_session.specs.SeenServers.{server_store, server_journal, server_limit}
use Rattle.bw_kept.specs.DiskNotes.{AreOnDisk, AreCommitted, Covers}
use Rattle.bw_kept.specs.KeptFolders.{HoldsKept}
use Rattle.bw_kept.specs.KeptTurns.{KeptTurn}
use Rattle.bw_kept.specs.LeftFolders.{LiesThere, KnowsNone}
use Rattle.bw_delivery.specs.StoppedWorlds.{Answers, Stops, Starts, after_world_step, MayComeEach}
use Rattle.bw_delivery.specs.StoppedWorlds.{IsNextStep}

-- whether a file existed under a name before the first server
abbrev pub existed_in : (List ℕ → Option (List ℕ)) → List ℕ → Bool
existed_in first name = is_some (first name)

module _ {X Y : Type 0} (S : StoreGhosts X) (J : JournalGhosts Y) where
  -- The server, with what lies outside its table, holds this book over honest store and journal, and of
  -- each done number the entry is committed.
  pub record ServesBook (first : List ℕ → Option (List ℕ)) (s : Server X Y S J) (book : Book) :
      Type 0 where
    pub held : HoldsKept S J first s book
    pub honest : IsTrue (S.honest (server_store s))
    pub honest_notes : IsTrue (J.honest (server_journal s))
    pub covered : Covers J (server_limit s) first (server_journal s) book

  -- A server that begins over what was left is the world's after its next step.
  abbrev pub StartsAreSteps : Type 0
  StartsAreSteps = (first : List ℕ → Option (List ℕ)) (w : World) (s : Server X Y S J) →
      KnowsNone S J s → IsTrue (S.honest (server_store s)) → IsTrue (J.honest (server_journal s)) →
      LiesThere (server_limit s) first (cut_book w.book) (J.notes (server_journal s))
      (S.contents (server_store s)) →
      ServesBook first s (after_world_step (existed_in first) w Starts).book

  module _ (Fails : List ℕ → Server X Y S J → Server X Y S J → Type 0)
      (Differs : List ℕ → Server X Y S J → Type 0) where
    -- Turns and the commit after them are a step of the world: the server holds the world's book then.
    pub record TurnsWorld (first : List ℕ → Option (List ℕ)) (w : World) (answered : List Answered)
        (s : Server X Y S J) : Type 0 where
      pub later : Book
      pub next : IsNextStep (existed_in first) w (Answers answered later)
      pub serves : ServesBook first s later

    -- So are all of which the commit kept all, whichever calls failed in the turns.
    abbrev pub TurnsAreOfWorlds : Type 0
    TurnsAreOfWorlds = (first : List ℕ → Option (List ℕ)) (w : World) (old new : Server X Y S J)
        (answered : List Answered) → ServesBook first old w.book → MayComeEach w answered →
        AnswersAll (KeptTurn S J Fails Differs) old answered new →
        AreCommitted J (server_journal new) → TurnsWorld first w answered new

    -- A server that stopped took a step of the world, and left in these journals and files what the next
    -- one begins with.
    pub record StopsInWorld (limit : ℕ) (first : List ℕ → Option (List ℕ)) (w : World)
        (answered : List Answered) (journals files : List ℕ → Option (List ℕ)) : Type 0 where
      pub later : Book
      pub left : Book
      pub next : IsNextStep (existed_in first) w (Stops answered later left)
      pub stands : LiesThere limit first (cut_book left) journals files

    -- So does each, within a turn too, whichever of its calls fail, while numbers wait, and whatever the
    -- disk has of the notes that aren't committed.
    abbrev pub StopsAreSteps : Type 0
    StopsAreSteps = (first : List ℕ → Option (List ℕ)) (w : World) (old new : Server X Y S J)
        (answered : List Answered) (journals : List ℕ → Option (List ℕ)) →
        ServesBook first old w.book → MayComeEach w answered →
        AnswersAll (KeptTurn S J Fails Differs) old answered new →
        AreOnDisk J (server_journal new) journals → StopsInWorld (server_limit new) first w answered
        journals (S.contents (server_store new))
