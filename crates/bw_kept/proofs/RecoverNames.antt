-- A name that isn't in a server's table was recovered from its folder: what the server holds then.
use Rattle.std.proofs.Common.{◌≡◌, ◌∙◌, inl, inr, ℕ, ◌<◌, ◌≤◌, Bool, true, false, List, ◌++◌, Option, Some, None}
use Rattle.std.proofs.Common.{Result, Ok, Err, length, refl, sym, ap, subst, arith}
use Rattle.std.specs.Prelude.{IsTrue, IfOk, IfErr, OnErr, is_some, option_map}
use Rattle.std.proofs.lemmas.List.{append-nil}
use Rattle.bw_model.specs.Book.{Log, Book, log_of, is_known}
use Rattle.bw_model.specs.Wire.{is_name}
use Rattle.bw_disk.specs.declared.disk.Disk.{Ghosts}
use Rattle.bw_journal.specs.Replays.{Story}
use Rattle.bw_folder.specs.Folders.{take_path}
use Rattle.bw_folder.specs.Journals.{journal_path, existence_of, known_but}
use Rattle.bw_folder.specs.TakeFolders.{takes_disk, takes_folder, take_in_folder}
use Rattle.bw_folder.specs.JournalFolders.{journals_disk, journals_folder, journals_limit, noted_in_folder}
use Rattle.bw_folder.specs.JournalFolders.{header_in_folder, open_journals}
use Rattle.bw_folder.specs.FolderDisks.{AreOfOneFolder, ShowsAlike}
use Rattle.bw_folder.specs.declared.folder.FolderStore.{FolderStore}
use Rattle.bw_folder.specs.declared.journal.FolderJournal.{FolderJournal}
use Rattle.bw_session.specs.SeenServers.{session_kept}
use Rattle.bw_session.specs.Servers.{kept_by}
use Rattle.bw_session.specs.TableChanges.{ChangesUnder, NamesOutsideMayChange}
use Rattle.bw_session.specs.declared.session.Session.{Session}
use Rattle.bw_session.specs.declared.server.Server.{Server}
use Rattle.bw_kept.specs.FoundNames.{KeepsSessions, WasRecovered}
use Rattle.bw_kept.specs.KeptFolders.{HasNameFault, HasTooMany, HoldsKept, IsOutOfTable, LiesInFolder}
use Rattle.bw_kept.specs.KeptTurns.{DiskFails, DisksDiffer}
use Rattle.bw_kept.specs.Recoveries.{IfNew, KeepsInFolder, RecoversIn, OpensIn, opened_story, journal_opened}
use Rattle.bw_kept.specs.Visits.{ClosesFiles, IsReason, RecoversName}
use Rattle.bw_kept.specs.declared.delay.Delay.{Delay}
use Rattle.bw_kept.specs.declared.delay.Delay.TheVariants as delay
use Rattle.bw_kept.specs.declared.recovery.Recovered.{Recovered}
use Rattle.bw_kept.specs.declared.recovery.Recovered.TheVariants.{New, LeftOut, Kept}
use Rattle.bw_kept.proofs.FolderGhosts.{folder_store, folder_journal}
use Rattle.bw_folder.specs.Commits.{IsAllCommitted}
use Rattle.bw_folder.specs.JournalFolders.{committed_in, has_pending}
use Rattle.bw_folder.specs.PendingNotes.{length_of, noted_with, unwritten_of, waits}
use Rattle.bw_session.proofs.ServerForms.{apart_names}
use Rattle.bw_journal.specs.NotedJournals.{journal_of}
use Rattle.bw_recovery.specs.LeftNames.{header_beside}
use Rattle.bw_model.proofs.BookLemmas.{same_name}
use Rattle.std.specs.Str.{bytes_eq}
use Rattle.bw_kept.specs.DiskNotes.{IsCommittedName, StaysCommitted, StayCommitted}
use Rattle.bw_kept.proofs.LeftLengths.{left_long}
use Rattle.bw_kept.proofs.DiskForms.{committed_name, no_less}
use Rattle.bw_kept.proofs.KeptForms.{never, outside_now}
use Rattle.bw_kept.proofs.OpenLists.{none_known}
use Rattle.bw_kept.proofs.RecoverHeads.{file_else, notes_else, takes_beside, existence_opened, existence_beside}
use Rattle.bw_kept.proofs.RecoverHeads.{header_same, existed_known, existed_there}
use Rattle.bw_kept.proofs.RecoveredBooks.{log_admits, recovered_new, recovered_kept, recovered_out, recovered_not}

module _ {D E F H : Type 0} (G : Ghosts D F) (K : Ghosts E H) (name : List ℕ)
    (old new : Server (FolderStore D F G) (FolderJournal E H K) (folder_store G) (folder_journal K))
    (result : Result Recovered Delay)
    (r : RecoversName name old.stores.store old.stores.journal new.stores.store new.stores.journal result)
    (sessions : KeepsSessions (session_kept old) (session_kept new)) (limit : new.limit ≡ old.limit)
    (first : List ℕ → Option (List ℕ)) (book : Book)
    (h : HoldsKept (folder_store G) (folder_journal K) first old book)
    (honest : IsTrue (G.honest (takes_disk old.stores.store)))
    (honest_notes : IsTrue (K.honest (journals_disk old.stores.journal))) (named : IsTrue (is_name name))
    (quiet : IsAllCommitted old.stores.journal) (gone : session_kept old name ≡ None)
    (may : NamesOutsideMayChange (folder_store G) (folder_journal K)) where
  abbrev store : FolderStore D F G
  store = old.stores.store

  abbrev journal : FolderJournal E H K
  journal = old.stores.journal

  abbrev later : FolderStore D F G
  later = new.stores.store

  abbrev later_journal : FolderJournal E H K
  later_journal = new.stores.journal

  abbrev notes : Option (List ℕ)
  notes = noted_in_folder journal name

  abbrev file : Option (List ℕ)
  file = take_in_folder store name

  abbrev later_notes : Option (List ℕ)
  later_notes = noted_in_folder later_journal name

  abbrev later_file : Option (List ℕ)
  later_file = take_in_folder later name

  abbrev log : Log
  log = log_of book name

  abbrev folder : List ℕ
  folder = takes_folder store

  one : AreOfOneFolder store journal
  one = record { takes = honest; notes = honest_notes; folder = h.folder }

  own_limit : journals_limit journal ≡ old.limit
  own_limit = h.limits name

  kept : KeepsInFolder old.limit name store journal later later_journal
  kept = subst (λ (l : ℕ). KeepsInFolder l name store journal later later_journal) own_limit (r.kept one)

  recovered : IfOk result (RecoversIn old.limit name store journal later later_journal)
  recovered =
      subst (λ (l : ℕ). IfOk result (RecoversIn l name store journal later later_journal)) own_limit (r.recovered one)

  opened : IfOk result (OpensIn old.limit name store journal later later_journal)
  opened = subst (λ (l : ℕ). IfOk result (OpensIn l name store journal later later_journal)) own_limit
      (r.opened one quiet)

  -- which journal of the name is open
  Knows : Type 0
  Knows = (s : Option Story)
      × (open_journals later_journal ≡ known_but name (open_journals journal) ++ journal_opened name s)

  knows : Knows
  unfolding Knows
  knows = go result opened (r.closed one quiet)
    where
      go : (x : Result Recovered Delay) → IfOk x (OpensIn old.limit name store journal later later_journal) →
          OnErr x (ClosesFiles name store journal later later_journal) →
          (s : Option Story)
          × (open_journals later_journal ≡ known_but name (open_journals journal) ++ journal_opened name s)
      go (Ok x) o c = (opened_story old.limit name notes x, o.journals)
      go (Err d) o c = (None, c.journals ∙ sym (append-nil (known_but name (open_journals journal))))

  same_folder : journals_folder later_journal ≡ journals_folder journal
  same_folder = r.settings.settings.2

  at_folder : journals_folder later_journal ≡ folder
  at_folder = same_folder ∙ one.folder

  changes : ChangesUnder (folder_store G) (folder_journal K) name old new
  unfolding Knows
  changes = record {
    limit = limit;
    sessions = sessions;
    contents = λ n apart.
        ap (λ (f : List ℕ). G.contents (takes_disk later) (take_path f n)) r.settings.folder
        ∙ file_else folder name n (G.contents (takes_disk store)) (G.contents (takes_disk later)) kept.others.takes
        apart;
    notes = λ n apart. kept.noted n apart;
    headers = λ n apart.
        header_same journal later_journal n r.settings.settings.0
        (ap (λ (known : List (List ℕ × Bool)). existence_of known n) knows.1
        ∙ existence_beside name n (open_journals journal) knows.0 apart)
        (ap (λ (f : List ℕ). K.contents (journals_disk later_journal) (take_path f n)) at_folder
        ∙ takes_beside folder name n (K.contents (journals_disk journal)) (K.contents (journals_disk later_journal))
        kept.others.notes
        ∙ ap (λ (f : List ℕ). K.contents (journals_disk journal) (take_path f n)) (sym one.folder));
  }

  -- the journals of other names have as many bytes
  no_fewer : (n : List ℕ) → bytes_eq name n ≡ false → committed_in journal n ≤ committed_in later_journal n
  no_fewer n apart =
      no_less (committed_in journal n) (committed_in later_journal n)
      (ap (λ (f : List ℕ). length_of (K.contents (journals_disk later_journal) (journal_path f n))) at_folder
      ∙ ap length_of (notes_else folder name n (K.contents (journals_disk journal)) (K.contents (journals_disk later_journal))
      kept.others.notes (apart_names name n apart))
      ∙ ap (λ (f : List ℕ). length_of (K.contents (journals_disk journal) (journal_path f n))) (sym one.folder))

  -- and of this one all of them are noted
  all : IsCommittedName (folder_journal K) name later_journal
  all = committed_name K later_journal name (r.settings.pending name ∙ quiet name)

  unknown : is_known h.table name ≡ false
  unknown = h.held.holds.names name ∙ ap (λ (o : Option Session). is_some (option_map kept_by o)) gone

  out : IsOutOfTable old.limit (first name) name log notes file
  out = outside_now old.limit (first name) name log (committed_in journal name) notes file (h.outside name named unknown)

  -- what was left of it stays so, and so does a fault
  lies_after : LiesInFolder old.limit (first name) name log later_notes later_file
  lies_after = go out.lies
    where
      go : LiesInFolder old.limit (first name) name log notes file →
          LiesInFolder old.limit (first name) name log later_notes later_file
      go (inl left) = inl (kept.left h.small (first name) log (log_admits book name h.each) left)
      go (inr faulty) =
          let same = kept.faulty faulty.fault in
          inr (record {
            none = faulty.none;
            fault = subst (λ (o : Option (List ℕ)). HasNameFault old.limit name o later_file) (sym same.0)
                (subst (λ (o : Option (List ℕ)). HasNameFault old.limit name notes o) (sym same.1) faulty.fault);
          })

  head_limit : (header_in_folder later_journal name).limit ≡ new.limit
  head_limit = r.settings.settings.0 ∙ own_limit ∙ sym limit

  -- a journal that was opened says whether a file existed
  says : (x : Recovered) → OpensIn old.limit name store journal later later_journal x → (s : Story) →
      opened_story old.limit name notes x ≡ Some s → (header_in_folder later_journal name).existed ≡ s.parts.taken
  says x o s is =
      existed_known journal later_journal name s.parts.taken
      (ap (λ (known : List (List ℕ × Bool)). existence_of known name)
      (o.journals ∙ ap (λ (y : Option Story). known_but name (open_journals journal) ++ journal_opened name y) is)
      ∙ existence_opened name (open_journals journal) s.parts.taken)

  -- else the disks show alike whether there is one
  shows : OpensIn old.limit name store journal later later_journal New → ShowsAlike name later later_journal →
      opened_story old.limit name notes New ≡ None → (header_in_folder later_journal name).existed ≡ is_some later_file
  shows o alike none =
      existed_there journal later_journal name
      (ap (λ (known : List (List ℕ × Bool)). existence_of known name)
      (o.journals ∙ ap (λ (y : Option Story). known_but name (open_journals journal) ++ journal_opened name y) none
      ∙ append-nil (known_but name (open_journals journal)))
      ∙ none_known name (open_journals journal))
      ∙ ap (λ (f : List ℕ). is_some (K.contents (journals_disk later_journal) (take_path f name)))
      (at_folder ∙ sym r.settings.folder)
      ∙ sym alike

  not_recovered : HoldsKept (folder_store G) (folder_journal K) first new book
  not_recovered =
      recovered_not (folder_store G) (folder_journal K) old new first book h honest honest_notes name named changes
      gone may same_folder r.settings.folder head_limit no_fewer all lies_after

  pub was_recovered : WasRecovered (folder_store G) (folder_journal K) (DiskFails G K) (DisksDiffer G K) first old new
      book name result
  was_recovered = go result recovered opened (r.alike one) (r.why one quiet)
    where
      go : (x : Result Recovered Delay) → IfOk x (RecoversIn old.limit name store journal later later_journal) →
          IfOk x (OpensIn old.limit name store journal later later_journal) →
          IfOk x (λ y. IfNew y (ShowsAlike name later later_journal)) →
          IfErr x (IsReason name store journal later later_journal) →
          WasRecovered (folder_store G) (folder_journal K) (DiskFails G K) (DisksDiffer G K) first old new book name x
      go (Ok New) made o alike why =
          recovered_new (folder_store G) (folder_journal K) old new first book h honest honest_notes name named
          changes gone may same_folder r.settings.folder head_limit no_fewer all (says New o) (shows o alike) made
      go (Ok (LeftOut cause)) made o alike why =
          recovered_out (folder_store G) (folder_journal K) old new first book h honest honest_notes name named
          changes gone may same_folder r.settings.folder head_limit no_fewer all cause made
      go (Ok (Kept k)) made o alike why =
          recovered_kept (folder_store G) (folder_journal K) old new first book h honest honest_notes name named
          changes gone may same_folder r.settings.folder head_limit no_fewer all k (says (Kept k) o) made
      go (Err delay.CallFailed) made o alike why = (
        not_recovered,
        elim why [
          | inl takes ↦ inl takes
          | inr (inl counts) ↦ inr (inl (K.failures (journals_disk later_journal), counts, omega arith))
          | inr (inr crowded) ↦ inr (inr crowded)
        ],
      )
      go (Err delay.NoMemory) made o alike why = (not_recovered, tt)
      go (Err (delay.LeftOut cause)) made o alike why = absurd why
      go (Err delay.TooManyNumbers) made o alike why =
          (not_recovered, subst (λ (l : ℕ). HasTooMany l name later_notes later_file) (own_limit ∙ sym limit) why)
      go (Err delay.TwoFolders) made o alike why = (not_recovered, why)
      go (Err delay.NoPlace) made o alike why = absurd why

  -- of what was committed no entry is lost
  pub recovers_committed : StayCommitted (folder_journal K) old.limit first book journal later_journal
  recovers_committed n = go (bytes_eq name n) refl
    where
      fit : 0 < log.done → (bytes : List ℕ) × (later_notes ≡ Some bytes)
          × (length (journal_of (header_beside old.limit (first name)) name log) ≤ length bytes) →
          length (journal_of (header_beside old.limit (first name)) name log) ≤ committed_in later_journal name
      fit some (bytes, is, long) = let most = all bytes is in omega (arith, long, most)

      go : (v : Bool) → bytes_eq name n ≡ v →
          StaysCommitted (header_beside old.limit (first n)) n (log_of book n) (committed_in journal n)
          (committed_in later_journal n)
      go true same =
          subst (λ (x : List ℕ). StaysCommitted (header_beside old.limit (first x)) x (log_of book x)
          (committed_in journal x) (committed_in later_journal x)) (same_name name n same)
          (inr (λ some. fit some (left_long old.limit (first name) name log later_notes later_file some lies_after)))
      go false apart = inl (no_fewer n apart)
