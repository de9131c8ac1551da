-- What a server is that is opened, and its first lines.
use Rattle.std.specs.Prelude.{◌≡◌, ◌⊎◌, ℕ, ◌++◌, Bool, true, false, Option, Some, None, Result, Ok, Err}
use Rattle.std.specs.Prelude.{IsTrue}
use Rattle.std.specs.Prelude.{List, [], codes, decimal}
use Rattle.std.specs.declared.net.socket_addr.SocketAddr.{SocketAddr}
use Rattle.bw_model.specs.Book.{Book, log_of}
use Rattle.bw_model.specs.CountedTurn.{is_pending}
use Rattle.bw_model.specs.Exchange.{take_in, content_in}
use Rattle.bw_store.specs.declared.store.TakeStore.{Ghosts as StoreGhosts}
use Rattle.bw_journal.specs.declared.journal.Journal.{Ghosts as JournalGhosts}
use Rattle.bw_session.specs.Books.{HoldsBook}
use Rattle.bw_session.specs.ServerTurns.{ServerTurn}
use Rattle.bw_session.specs.declared.server.Server.{Server}
use Rattle.bw_session.specs.SeenServers.{server_store, server_limit}
use Rattle.bw_exchange.specs.AnsweredFrames.{Answered, AnswersAll}
use Rattle.bw_session.specs.ServerRuns.{RunsOn}
use Rattle.bw_console.specs.Text.{as_line}
use Rattle.bw_ports.specs.declared.starts.StartRefusal.{StartRefusal}
use Rattle.bw_ports.specs.declared.starts.StartRefusal.TheVariants.{Memory}
use Rattle.bw_serve.specs.Beginnings.{Calls}
use Rattle.bw_serve.specs.Names.{KeepsNamesApart}
use Rattle.bw_serve.specs.ServerReports.{listening_line}
use Rattle.bw_serve.specs.declared.opening.OpenedServer.{OpenedServer}

-- the line of a server whose folder had this many takes
abbrev pub resumed_line : ℕ → List ℕ
resumed_line takes = as_line (codes "resumed " ++ decimal takes ++ codes " takes")

-- the first lines of a server, after which peers may come
abbrev pub opening_lines : Option ℕ → SocketAddr → List ℕ
opening_lines None address = listening_line address
opening_lines (Some takes) address = resumed_line takes ++ listening_line address

module _ {X Y : Type 0} (S : StoreGhosts X) (J : JournalGhosts Y) where
  -- These frames were answered in a run from a book that the server held. Each name that is closed
  -- after it, or of which nothing waits, has its take's file, or what was there first; and an honest
  -- journal that noted the book notes the one after the run.
  pub record LeavesRunFrom (first : List ℕ → Option (List ℕ)) (book : Book) (old new : Server X Y S J)
      (answered : List Answered) : Type 0 where
    pub run : RunsOn S J first old new book answered
    pub files : (name : List ℕ) → (is_pending (log_of run.later name) ≡ false)
        ⊎ ((take_in false run.later name).closed ≡ true) →
        S.contents (server_store new) name ≡ content_in first (server_limit old) run.later name

  -- so it is from each book that the server held, over an honest store
  abbrev pub LeavesRunsFrom : Server X Y S J → Server X Y S J → List Answered → Type 0
  LeavesRunsFrom old new answered = IsTrue (S.honest (server_store old)) →
      (first : List ℕ → Option (List ℕ)) (book : Book) → HoldsBook S J first old book →
      LeavesRunFrom first book old new answered

  -- it is so of all that any server answers
  abbrev pub HeldServersLeave : Type 0
  HeldServersLeave = (old new : Server X Y S J) (answered : List Answered) →
      AnswersAll (ServerTurn S J) old answered new → LeavesRunsFrom old new answered

  -- A server that is over this store, with this limit, and holds no name yet. Whatever it answers,
  -- an honest store has the files of that then, each name's from its own messages alone.
  pub record IsNewServer (limit : ℕ) (store : X) (server : Server X Y S J) : Type 0 where
    pub store_is : server_store server ≡ store
    pub limit_is : server_limit server ≡ limit
    pub empty : HoldsBook S J (S.contents store) server []
    pub apart : (answered : List Answered) (following : Server X Y S J) →
        AnswersAll (ServerTurn S J) server answered following → IsTrue (S.honest store) →
        KeepsNamesApart S J limit store (server_store following) answered
    pub runs : (answered : List Answered) (following : Server X Y S J) →
        AnswersAll (ServerTurn S J) server answered following → LeavesRunsFrom server following answered

  -- A new server over the store that was given. Or the store is refused, or memory for the server.
  abbrev pub OpensNew : {N : Type 0} → Calls N X StartRefusal → ℕ →
      Calls N (OpenedServer (Server X Y S J)) StartRefusal
  OpensNew stores limit n (Ok opened) n' =
      (store : X) × stores n (Ok store) n' × IsNewServer limit store opened.server
      × (opened.takes ≡ None)
  OpensNew stores limit n (Err refusal) n' = stores n (Err refusal) n'
      ⊎ ((refusal ≡ Memory) × (store : X) × stores n (Ok store) n')
