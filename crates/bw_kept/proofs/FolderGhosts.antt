-- A store and a journal of a folder, as a server sees them.
use Rattle.std.specs.Prelude.{None}
use Rattle.bw_store.specs.declared.store.TakeStore.{Ghosts as StoreGhosts}
use Rattle.bw_disk.specs.declared.disk.Disk.{Ghosts}
use Rattle.bw_journal.specs.declared.journal.Journal.{Ghosts as JournalGhosts}
use Rattle.bw_folder.specs.TakeFolders.{takes_disk, takes_folder, takes_calls, takes_failures, take_in_folder}
use Rattle.bw_folder.specs.JournalFolders.{journals_disk, journals_folder, journals_failures}
use Rattle.bw_folder.specs.JournalFolders.{noted_in_folder, header_in_folder, committed_in}
use Rattle.bw_folder.specs.declared.folder.FolderStore.{FolderStore}
use Rattle.bw_folder.specs.declared.journal.FolderJournal.{FolderJournal}

abbrev pub folder_store : {D F : Type 0} (G : Ghosts D F) → StoreGhosts (FolderStore D F G)
folder_store G = record {
  contents = take_in_folder;
  failures = takes_failures;
  calls = takes_calls;
  asked = λ s. None;
  honest = λ s. G.honest (takes_disk s);
  folder = takes_folder;
}

abbrev pub folder_journal : {E H : Type 0} (K : Ghosts E H) → JournalGhosts (FolderJournal E H K)
folder_journal K = record {
  notes = noted_in_folder;
  header = header_in_folder;
  failures = journals_failures;
  honest = λ j. K.honest (journals_disk j);
  folder = journals_folder;
  committed = committed_in;
}
