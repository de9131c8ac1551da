-- The files of a name that isn't in a server's table are closed: the folder's book stays.
use Rattle.std.proofs.Common.{◌≡◌, ◌≢◌, ◌≤◌, ◌∙◌, ℕ, Bool, true, false, cond, not, List, [], ◌∷◌, Option, Some, None, refl, sym, ap}
use Rattle.std.specs.Prelude.{option_map, unwrap_or, is_some, IsTrue}
use Rattle.std.specs.List.{find}
use Rattle.std.specs.Str.{bytes_eq}
use Rattle.bw_model.specs.Book.{Book, log_of, is_known}
use Rattle.bw_model.specs.Wire.{is_name}
use Rattle.bw_model.proofs.BookLemmas.{same_name}
use Rattle.bw_disk.specs.declared.disk.Disk.{Ghosts}
use Rattle.bw_folder.specs.Folders.{take_path}
use Rattle.bw_folder.specs.Journals.{existence_of, journal_path, known_but}
use Rattle.bw_folder.specs.TakeFolders.{takes_disk, take_in_folder}
use Rattle.bw_folder.specs.JournalFolders.{journals_disk, journals_folder, journals_limit, noted_in_folder}
use Rattle.bw_folder.specs.JournalFolders.{header_in_folder, open_journals, has_pending, committed_in}
use Rattle.bw_folder.specs.PendingNotes.{length_of}
use Rattle.bw_folder.specs.declared.folder.FolderStore.{FolderStore}
use Rattle.bw_folder.specs.declared.journal.FolderJournal.{FolderJournal}
use Rattle.bw_session.specs.SeenServers.{session_kept}
use Rattle.bw_session.specs.Servers.{kept_by}
use Rattle.bw_session.specs.TableChanges.{ChangesUnder, NamesOutsideMayChange}
use Rattle.bw_session.specs.declared.session.Session.{Session}
use Rattle.bw_session.specs.declared.server.Server.{Server}
use Rattle.bw_kept.specs.FoundNames.{KeepsSessions}
use Rattle.bw_kept.specs.KeptFolders.{HoldsKept}
use Rattle.bw_kept.specs.Visits.{OnlyCloses}
use Rattle.bw_kept.proofs.FolderGhosts.{folder_store, folder_journal}
use Rattle.bw_kept.proofs.KeptChanges.{moved_asleep}
use Rattle.bw_kept.proofs.DiskForms.{no_less}
use Rattle.bw_kept.proofs.KeptForms.{never, outside_as}
use Rattle.bw_kept.proofs.SeenAlike.{SeesSame, same_disks, same_notes, same_take}

-- another name isn't this one
pub other_name : (name other : List ℕ) → other ≢ name → bytes_eq name other ≡ false
other_name name other apart = go (bytes_eq name other) refl
  where
    go : (b : Bool) → bytes_eq name other ≡ b → bytes_eq name other ≡ false
    go true e = absurd (apart (sym (same_name name other e)))
    go false e = e

-- without a name the others are found as before
found_but : (name other : List ℕ) (known : List (List ℕ × Bool)) → bytes_eq name other ≡ false →
    find (λ (it : List ℕ × Bool). bytes_eq it.0 other) (known_but name known)
    ≡ find (λ (it : List ℕ × Bool). bytes_eq it.0 other) known
found_but name other [] apart = refl
found_but name other (x ∷ known) apart = go (bytes_eq x.0 name) refl (found_but name other known apart)
  where
    rest : Option (List ℕ × Bool)
    rest = find (λ (it : List ℕ × Bool). bytes_eq it.0 other) known

    go : (b : Bool) → bytes_eq x.0 name ≡ b →
        find (λ (it : List ℕ × Bool). bytes_eq it.0 other) (known_but name known) ≡ rest →
        find (λ (it : List ℕ × Bool). bytes_eq it.0 other) (cond (not b) (x ∷ known_but name known) (known_but name known))
        ≡ cond (bytes_eq x.0 other) (Some x) rest
    go true e ih =
        ih ∙ sym (ap (λ (b : Bool). cond b (Some x) rest)
        (ap (λ (n : List ℕ). bytes_eq n other) (same_name x.0 name e) ∙ apart))
    go false e ih = ap (λ (o : Option (List ℕ × Bool)). cond (bytes_eq x.0 other) (Some x) o) ih

pub existence_else : (name other : List ℕ) (known : List (List ℕ × Bool)) → other ≢ name →
    existence_of (known_but name known) other ≡ existence_of known other
existence_else name other known apart =
    ap (option_map (λ (it : List ℕ × Bool). it.1)) (found_but name other known (other_name name other apart))

module _ {D E F H : Type 0} (G : Ghosts D F) (K : Ghosts E H) (name : List ℕ)
    (old new : Server (FolderStore D F G) (FolderJournal E H K) (folder_store G) (folder_journal K))
    (closes : OnlyCloses name old.stores.store old.stores.journal new.stores.store new.stores.journal)
    (sessions : KeepsSessions (session_kept old) (session_kept new)) (limit : new.limit ≡ old.limit) where
  seen : SeesSame old.stores.store old.stores.journal new.stores.store new.stores.journal
  seen = same_disks old.stores.store old.stores.journal new.stores.store new.stores.journal closes.takes
      closes.settings.folder closes.notes closes.settings.settings.2 closes.noted

  notes_stay : (n : List ℕ) → noted_in_folder new.stores.journal n ≡ noted_in_folder old.stores.journal n
  notes_stay n = same_notes old.stores.store old.stores.journal new.stores.store new.stores.journal seen n

  files_stay : (n : List ℕ) → take_in_folder new.stores.store n ≡ take_in_folder old.stores.store n
  files_stay n = same_take old.stores.store old.stores.journal new.stores.store new.stores.journal seen n

  headers_stay : (n : List ℕ) → n ≢ name → header_in_folder new.stores.journal n ≡ header_in_folder old.stores.journal n
  headers_stay n apart =
      ap (λ (l : ℕ). record {
        limit = l;
        existed = unwrap_or (existence_of (open_journals new.stores.journal) n)
            (is_some (K.contents (journals_disk new.stores.journal) (take_path (journals_folder new.stores.journal) n)));
      }) closes.settings.settings.0
      ∙ ap (λ (o : Option Bool). record {
        limit = journals_limit old.stores.journal;
        existed = unwrap_or o
            (is_some (K.contents (journals_disk new.stores.journal) (take_path (journals_folder new.stores.journal) n)));
      }) (ap (λ (known : List (List ℕ × Bool)). existence_of known n) closes.released
      ∙ existence_if (has_pending old.stores.journal name))
      ∙ ap (λ (o : Option (List ℕ)). record {
        limit = journals_limit old.stores.journal;
        existed = unwrap_or (existence_of (open_journals old.stores.journal) n) (is_some o);
      }) (ap (λ (f : List ℕ). K.contents (journals_disk new.stores.journal) (take_path f n)) closes.settings.settings.2
      ∙ ap (λ (d : E). K.contents d (take_path (journals_folder old.stores.journal) n)) closes.notes)
    where
      existence_if : (v : Bool) →
          existence_of (cond v (open_journals old.stores.journal) (known_but name (open_journals old.stores.journal))) n
          ≡ existence_of (open_journals old.stores.journal) n
      existence_if true = refl
      existence_if false = existence_else name n (open_journals old.stores.journal) apart

  pub committed_stay : (n : List ℕ) → committed_in old.stores.journal n ≤ committed_in new.stores.journal n
  committed_stay n =
      no_less (committed_in old.stores.journal n) (committed_in new.stores.journal n)
      (ap (λ (f : List ℕ). length_of (K.contents (journals_disk new.stores.journal) (journal_path f n)))
      closes.settings.settings.2
      ∙ ap (λ (d : E). length_of (K.contents d (journal_path (journals_folder old.stores.journal) n))) closes.notes)

  changes : ChangesUnder (folder_store G) (folder_journal K) name old new
  changes = record {
    limit = limit;
    sessions = sessions;
    contents = λ n apart. files_stay n;
    notes = λ n apart. notes_stay n;
    headers = headers_stay;
  }

  pub held_closed : (first : List ℕ → Option (List ℕ)) (book : Book) →
      HoldsKept (folder_store G) (folder_journal K) first old book → IsTrue (G.honest (takes_disk old.stores.store)) →
      IsTrue (K.honest (journals_disk old.stores.journal)) → IsTrue (is_name name) → session_kept old name ≡ None →
      NamesOutsideMayChange (folder_store G) (folder_journal K) →
      HoldsKept (folder_store G) (folder_journal K) first new book
  held_closed first book h honest honest_notes named gone may =
      moved_asleep (folder_store G) (folder_journal K) old new first book h honest honest_notes name true changes gone may
      closes.settings.settings.2 closes.settings.folder
      (closes.settings.settings.0 ∙ h.limits name ∙ sym limit) (λ e. never (sym e)) (λ e. never (sym e))
      (λ n apart. committed_stay n)
      (outside_as old.limit new.limit (first name) name (log_of book name) (log_of book name)
      (committed_in old.stores.journal name) (committed_in new.stores.journal name)
      (noted_in_folder old.stores.journal name) (noted_in_folder new.stores.journal name)
      (take_in_folder old.stores.store name) (take_in_folder new.stores.store name) limit refl (committed_stay name)
      (notes_stay name)
      (files_stay name) (h.outside name named unknown)) refl
    where
      unknown : is_known h.table name ≡ false
      unknown = h.held.holds.names name ∙ ap (λ (o : Option Session). is_some (option_map kept_by o)) gone
