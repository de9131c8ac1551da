-- What is seen of a server whose table is a cache of its folder.
use Rattle.std.specs.Prelude.{◌≡◌, ℕ, Bool, List}
use Rattle.bw_store.specs.declared.store.TakeStore.{Ghosts as StoreGhosts}
use Rattle.bw_journal.specs.declared.journal.Journal.{Ghosts as JournalGhosts}
use Rattle.bw_recovery.specs.declared.finding.NameFault.{NameFault}
use Rattle.bw_session.specs.declared.server.Server.{Server}
use Rattle.bw_session.specs.TableChanges.{forgettable_kept}
use Rattle.bw_kept.specs.UseOrder.{with_use_if}
use Rattle.bw_kept.specs.declared.keeping.KeptServer.{KeptServer}

module _ {X Y : Type 0} {S : StoreGhosts X} {J : JournalGhosts Y} where
  -- the server of the names in the table
  abbrev pub table_server : KeptServer X Y S J → Server X Y S J
  table_server k = k.server

  -- the names whose uses are noted, the least recently used first
  abbrev pub names_used : KeptServer X Y S J → List (List ℕ)
  names_used k = k.uses.names.items

  -- the names with faults that are to be given, with these, the first one first
  abbrev pub names_left_out : KeptServer X Y S J → List (List ℕ × NameFault)
  names_left_out k = k.left_out.waiting.items

  -- whether a frame was answered since the last commit
  abbrev pub was_answered : KeptServer X Y S J → Bool
  was_answered k = k.answered

  -- the use of a name is noted, if it may leave the table now
  abbrev pub NotesUse : List ℕ → KeptServer X Y S J → KeptServer X Y S J → Type 0
  NotesUse name old new =
      names_used new ≡ with_use_if (forgettable_kept (table_server new) name) name (names_used old)
