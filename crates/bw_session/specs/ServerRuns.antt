-- Runs of turns, as a server's answers are one.
use Rattle.std.specs.Prelude.{◌≡◌, ℕ, IsTrue, Option, is_some, List, ◌+◌, ◌≤◌, ◌<◌, length, ◌*◌, sum_by}
use Rattle.std.specs.List.{AllByRecursion, list_any}
use Rattle.bw_model.specs.Counts.{last_count}
use Rattle.bw_model.specs.Book.{Book}
use Rattle.bw_store.specs.declared.store.TakeStore.{Ghosts as StoreGhosts}
use Rattle.bw_model.specs.CountedTurn.{is_delayed}
use Rattle.bw_journal.specs.declared.journal.Journal.{Ghosts as JournalGhosts}
use Rattle.bw_session.specs.Books.{failures_of, HoldsBook, NotesBook}
use Rattle.bw_session.specs.declared.server.Server.{Server}
use Rattle.bw_exchange.specs.AnsweredFrames.{Answered, AnswersAll, replies_of}
use Rattle.bw_exchange.specs.TurnRuns.{IsRun}
use Rattle.bw_session.specs.ServerTurns.{most_replies, ServerTurn}
use Rattle.bw_session.specs.SeenServers.{server_store, server_journal, server_limit}

-- how many numbers have their verdicts, of all names
abbrev pub all_done : Book → ℕ
all_done book = sum_by (λ entry. entry.1.done) book

module _ {X Y : Type 0} (S : StoreGhosts X) (J : JournalGhosts Y) where
  -- The frames are answered in a run from this book; the server holds the later one, and an honest
  -- journal that had what the book says has what the later one says.
  pub record RunsOn (first : List ℕ → Option (List ℕ)) (old new : Server X Y S J) (book : Book)
      (answered : List Answered) : Type 0 where
    pub later : Book
    pub went : IsRun (λ name. is_some (first name)) (failures_of S J old) (failures_of S J new)
        book answered later
    pub held : HoldsBook S J first new later
    -- the store was called at most four times for each number that was done, and four for each call
    -- that failed
    pub calls : failures_of S J new < last_count →
        S.calls (server_store new) + 4 * (all_done book + failures_of S J old)
        ≤ S.calls (server_store old) + 4 * (all_done later + failures_of S J new)
    pub noted : IsTrue (J.honest (server_journal old)) → NotesBook S J first old book →
        NotesBook S J first new later

  -- A server may answer these frames so. Over any store and journal its limit stays, these are as
  -- honest as they were, each frame has few replies, and none reports a failed call unless one was
  -- counted; over an honest store it is a run from every book that the server holds.
  pub record ServerRun (old : Server X Y S J) (answered : List Answered)
      (new : Server X Y S J) : Type 0 where
    pub limit : server_limit new ≡ server_limit old
    pub honest : S.honest (server_store new) ≡ S.honest (server_store old)
    pub honest_notes : J.honest (server_journal new) ≡ J.honest (server_journal old)
    pub few : AllByRecursion (λ a. length a.replies ≤ most_replies) answered
    -- the count of failures never falls, and rises by one at most with each frame
    pub no_less : failures_of S J old ≤ failures_of S J new
    pub most : failures_of S J new ≤ failures_of S J old + length answered
    pub delays : failures_of S J old < last_count →
        IsTrue (list_any is_delayed (replies_of answered)) → failures_of S J old < failures_of S J new
    pub runs : IsTrue (S.honest (server_store old)) → (first : List ℕ → Option (List ℕ))
        (book : Book) → HoldsBook S J first old book → RunsOn first old new book answered

  -- The answers of a server, one frame after another, are such a run.
  abbrev pub ServersAnswerInRuns : Type 0
  ServersAnswerInRuns = (old new : Server X Y S J) (answered : List Answered) →
      AnswersAll (ServerTurn S J) old answered new → ServerRun old answered new
