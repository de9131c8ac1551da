-- What is seen of a store in a folder.
use Rattle.std.specs.Prelude.{◌≡◌, ◌&&◌, ℕ, Bool, true, false, not, List, Option, None, Some, is_some}
use Rattle.std.specs.Prelude.{string_bytes}
use Rattle.bw_disk.specs.declared.disk.Disk.{Ghosts}
use Rattle.bw_folder.specs.Folders.{take_content, open_names}
use Rattle.bw_folder.specs.declared.folder.FolderStore.{FolderStore}

-- the name of which a sync failed first, after one more of this name
abbrev pub marked_if : Bool → List ℕ → Option (List ℕ) → Option (List ℕ)
marked_if fails name (Some first) = Some first
marked_if true name None = Some name
marked_if false name None = None

module _ {D F : Type 0} {G : Ghosts D F} where
  -- its disk
  abbrev pub takes_disk : FolderStore D F G → D
  takes_disk s = s.disk

  -- the path of its folder
  abbrev pub takes_folder : FolderStore D F G → List ℕ
  takes_folder s = string_bytes s.folder

  -- the names of the takes whose files are open
  abbrev pub open_takes : FolderStore D F G → List (List ℕ)
  open_takes s = open_names s.takes.items

  -- how many calls it has got
  abbrev pub takes_calls : FolderStore D F G → ℕ
  takes_calls s = s.call_counter.calls

  -- and how many of them have failed
  abbrev pub takes_failures : FolderStore D F G → ℕ
  takes_failures s = s.call_counter.failures

  -- the content of a take's file
  abbrev pub take_in_folder : FolderStore D F G → List ℕ → Option (List ℕ)
  take_in_folder s name = take_content (G.contents s.disk) (string_bytes s.folder) name

  -- the content that it had when it was last synced
  abbrev pub synced_in_folder : FolderStore D F G → List ℕ → Option (List ℕ)
  synced_in_folder s name = take_content (G.synced s.disk) (string_bytes s.folder) name

  -- the name of which a sync failed first, if one has
  abbrev pub takes_failed_sync : FolderStore D F G → Option (List ℕ)
  takes_failed_sync s = s.failed_sync

  -- whether files are synced though a sync has failed
  abbrev pub takes_retry : FolderStore D F G → Bool
  takes_retry s = s.retries

  -- a sync has failed, and no file is synced any more
  abbrev pub have_stopped : FolderStore D F G → Bool
  have_stopped s = not s.retries && is_some s.failed_sync

  -- no sync failed meanwhile, and whether it retries is as before
  abbrev pub KeepsSyncs : FolderStore D F G → FolderStore D F G → Type 0
  KeepsSyncs old new =
      (takes_failed_sync new ≡ takes_failed_sync old) × (takes_retry new ≡ takes_retry old)
