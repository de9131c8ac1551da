-- What is seen of a server.
use Rattle.std.specs.Prelude.{ℕ, Bool, List, Option}
use Rattle.std.specs.HashMap.{hash_map_len}
use Rattle.bw_model.specs.Take.{Format}
use Rattle.bw_model.specs.Holds.{Kept}
use Rattle.bw_store.specs.declared.store.TakeStore.{Ghosts as StoreGhosts}
use Rattle.bw_journal.specs.declared.journal.Journal.{Ghosts as JournalGhosts}
use Rattle.bw_session.specs.Tables.{session_in}
use Rattle.bw_session.specs.Servers.{kept_in}
use Rattle.bw_session.specs.KnownNames.{format_in, is_taken_in, is_known_in}
use Rattle.bw_session.specs.declared.session.Session.{Session}
use Rattle.bw_session.specs.declared.server.Server.{Server}

module _ {X Y : Type 0} {S : StoreGhosts X} {J : JournalGhosts Y} where
  -- its store
  abbrev pub server_store : Server X Y S J → X
  server_store s = s.stores.store

  -- its journal
  abbrev pub server_journal : Server X Y S J → Y
  server_journal s = s.stores.journal

  -- its limit
  abbrev pub server_limit : Server X Y S J → ℕ
  server_limit s = s.limit

  -- the session of a name that it knows
  abbrev pub session_kept : Server X Y S J → List ℕ → Option Session
  session_kept s name = session_in s.sessions name

  -- how many names it knows
  abbrev pub names_kept : Server X Y S J → ℕ
  names_kept s = hash_map_len s.sessions

  -- what it keeps of a name, in the definitions' words
  abbrev pub kept_now : Server X Y S J → List ℕ → Option Kept
  kept_now s name = kept_in s.sessions name

  -- the format that is kept of a name's take, none for an unknown name
  abbrev pub format_kept : Server X Y S J → List ℕ → Option Format
  format_kept s name = format_in s.sessions name

  -- whether it found that a file of the name existed before its own
  abbrev pub taken_kept : Server X Y S J → List ℕ → Bool
  taken_kept s name = is_taken_in s.sessions name

  -- whether it keeps anything of the name
  abbrev pub known_kept : Server X Y S J → List ℕ → Bool
  known_kept s name = is_known_in s.sessions name
