-- A worked row: two lives of servers over a folder, of which the first is killed while it notes a BLOCK.
use Rattle.std.specs.Prelude.{◌≡◌, ℕ, false, Option, Some, None, List, [], ◌∷◌, ◌++◌, length, map, take}
use Rattle.std.specs.Prelude.{if◌then◌else◌}
use Rattle.std.specs.Str.{bytes_eq}
use Rattle.bw_model.specs.Take.{Open, Block, Close, Stored}
use Rattle.bw_model.specs.Replies.{Judged, Noticed, DelayedStore}
use Rattle.bw_model.specs.Book.{Log, Book}
use Rattle.bw_model.specs.Exchange.{nothing_stands}
use Rattle.bw_model.specs.ExampleWords.{a1, mono, two_frames, small_file, example_limit, says}
use Rattle.bw_model.specs.ExamplesOfWorlds.{small_take}
use Rattle.bw_store.specs.declared.store.TakeStore.{Ghosts as StoreGhosts}
use Rattle.bw_journal.specs.declared.journal.Journal.{Ghosts as JournalGhosts}
use Rattle.bw_journal.specs.Entries.{sealed_entry}
use Rattle.bw_journal.specs.NotedJournals.{done_entry, journal_of}
use Rattle.bw_journal.specs.Stops.{cut_book}
use Rattle.bw_exchange.specs.AnsweredFrames.{Answered}
use Rattle.bw_session.specs.declared.server.Server.{Server}
use Rattle.bw_connections.specs.ConnectionTables.{all_answered}
use Rattle.bw_delivery.specs.ExamplesOfDeliveries.{worked_trace, worked_links}
use Rattle.bw_recovery.specs.LeftNames.{header_beside}
use Rattle.bw_kept.specs.FolderRuns.{IsFolderRun}
use Rattle.bw_kept.specs.LeftFolders.{LeavesDone}
use Rattle.bw_delivery.specs.Lives.{Folder, LiesIn, Life}
use Rattle.bw_delivery.specs.Senders.{CameOverLinks}

-- OPEN, a BLOCK of two frames and CLOSE: so many of them were admitted, and so many are done
abbrev pub log_with : ℕ → ℕ → Log
log_with admitted done = record { admitted = take admitted (map Some small_take); done = done }

abbrev pub book_with : ℕ → ℕ → Book
book_with admitted done = (a1, log_with admitted done) ∷ []

-- the journal with so many done numbers
abbrev pub journal_with : ℕ → List ℕ
journal_with done = journal_of (header_beside example_limit None) a1 (log_with done done)

-- the first bytes of the entry of the BLOCK
abbrev pub block_entry : ℕ → List ℕ
block_entry count =
    take count (sealed_entry (done_entry false (log_with 1 1).admitted a1 1 (Block two_frames)))

-- a folder in which there are only this journal and the file of two frames
abbrev pub folder_with : List ℕ → Folder
folder_with journal = record {
  journals = λ name. if bytes_eq a1 name then Some journal else None;
  files = λ name. if bytes_eq a1 name then Some small_file else None;
}

-- what the first server leaves: the entry of the BLOCK has twenty bytes
abbrev pub killed_folder : Folder
killed_folder = folder_with (journal_with 1 ++ block_entry 20)

-- nothing was there at first
abbrev pub nothing_first : List ℕ → Option (List ℕ)
nothing_first name = None

-- OPEN is stored; a call fails in the turn of the BLOCK, and all calls from there on
abbrev pub first_answers : List Answered
first_answers =
    record { frame = says 0 (Open mono []); replies = Judged a1 0 Stored ∷ [] }
    ∷ record { frame = says 1 (Block two_frames); replies = Noticed a1 1 DelayedStore 1 ∷ [] } ∷ []

-- the next server gets the BLOCK again, and CLOSE
abbrev pub second_answers : List Answered
second_answers =
    record { frame = says 1 (Block two_frames); replies = Judged a1 1 Stored ∷ [] }
    ∷ record { frame = says 2 (Close 2); replies = Judged a1 2 Stored ∷ [] } ∷ []

-- Of the first server's book OPEN lies there, though the file has the frames. The next one begins with
-- that, and leaves the closed take with its file.
abbrev pub KilledInATurnExample : Type 0
KilledInATurnExample =
    IsFolderRun nothing_stands 0 1 [] first_answers (book_with 2 1)
    × LeavesDone example_limit nothing_first (book_with 2 1) (λ name. length (journal_with 1))
    killed_folder.journals killed_folder.files
    × IsFolderRun nothing_stands 0 0 (cut_book (book_with 2 1)) second_answers (book_with 3 3)
    × LiesIn example_limit nothing_first (book_with 3 3) (folder_with (journal_with 3))

module _ {X Y : Type 0} (S : StoreGhosts X) (J : JournalGhosts Y)
    (Fails : List ℕ → Server X Y S J → Server X Y S J → Type 0)
    (Differs : List ℕ → Server X Y S J → Type 0) where
  -- `CameOverLinks` asks nothing of a life but its answers: with the worked trace, over the worked links, it
  -- holds of each.
  abbrev pub SentLifeExample : Type 0
  SentLifeExample = (life : Life S J Fails Differs) → life.kept ≡ all_answered worked_trace →
      life.unkept ≡ [] →
      CameOverLinks S J Fails Differs (record { name = a1; requests = small_take; had = [] })
      (record { life = life; trace = worked_trace; links = worked_links })
