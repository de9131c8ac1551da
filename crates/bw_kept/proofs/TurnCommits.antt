-- A commit after a turn is part of it.
use Rattle.std.proofs.Common.{◌≡◌, ◌≢◌, inl, inr, ℕ, ◌≤◌, Bool, true, false, List, Option, Result, Ok, refl, sym, ◌∙◌, ap, subst, arith}
use Rattle.std.specs.Prelude.{IsTrue, IsSome, is_some}
use Rattle.bw_model.specs.Book.{Book}
use Rattle.bw_model.specs.Counts.{Counts}
use Rattle.bw_model.specs.Replies.{Reply}
use Rattle.bw_model.specs.Wire.{Frame}
use Rattle.bw_disk.specs.declared.disk.Disk.{Ghosts as DiskGhosts}
use Rattle.bw_disk.specs.declared.reading.ReadFault.{ReadFault}
use Rattle.bw_disk.specs.ReadFaults.{is_disk_fault}
use Rattle.bw_folder.specs.Folders.{take_path}
use Rattle.bw_folder.specs.TakeFolders.{takes_disk, takes_folder, take_in_folder}
use Rattle.bw_folder.specs.JournalFolders.{journals_disk, journals_folder, noted_in_folder}
use Rattle.bw_folder.specs.declared.folder.FolderStore.{FolderStore}
use Rattle.bw_folder.specs.declared.journal.FolderJournal.{FolderJournal}
use Rattle.bw_session.specs.Books.{failures_of}
use Rattle.bw_session.specs.declared.server.Server.{Server}
use Rattle.bw_kept.specs.DiskNotes.{StayCommitted}
use Rattle.bw_kept.specs.FolderRuns.{HasNoPlace, ServesFrame, name_of_frame}
use Rattle.bw_kept.specs.KeptFolders.{HasThisFault, HasTooMany, HoldsKept}
use Rattle.bw_kept.specs.KeptTurns.{DiskFails, DisksDiffer, FolderTurn, FolderTurns, IsWhy, KeepsCounts, KeptTurn}
use Rattle.bw_kept.specs.KeptTurns.{OnlyCommits, PutsOff}
use Rattle.bw_exchange.specs.declared.turns.NotKept.{NotKept}
use Rattle.bw_session.specs.SeenServers.{server_journal}
use Rattle.bw_kept.specs.KeptCommits.{CommitsKept, TriesCommit, commit_after, failed_sync_of, has_pending_notes}
use Rattle.bw_kept.specs.KeptServers.{table_server, was_answered}
use Rattle.bw_kept.specs.declared.keeping.KeptServer.{KeptServer}
use Rattle.bw_kept.specs.Visits.{CommitsJournals}
use Rattle.bw_kept.proofs.DiskForms.{any_committed}
use Rattle.bw_kept.specs.declared.delay.Delay.{Delay}
use Rattle.bw_kept.specs.declared.delay.Delay.TheVariants as delay
use Rattle.bw_kept.proofs.CommitForms.{counts_more, counts_only, held_committed, none_waits, only_then}
use Rattle.bw_kept.proofs.FolderGhosts.{folder_store, folder_journal}
use Rattle.bw_kept.proofs.FoundForms.{counts_then, stay_after}
use Rattle.bw_kept.proofs.TurnForms.{no_place_same}

module _ {D E F H : Type 0} (G : DiskGhosts D F) (K : DiskGhosts E H) where
  abbrev AServer : Type 0
  AServer = Server (FolderStore D F G) (FolderJournal E H K) (folder_store G) (folder_journal K)

  -- honesty stays through a turn
  honest_after : (first old : AServer) (f : Frame) (replies : List Reply) →
      KeptTurn (folder_store G) (folder_journal K) (DiskFails G K) (DisksDiffer G K) first f replies old →
      K.honest (journals_disk old.stores.journal) ≡ K.honest (journals_disk first.stores.journal)
  honest_after first old f replies t = elim (t.answered) [
    | inl served ↦ t.closed.honest_notes ∙ served.honest_notes ∙ t.prepared.honest_notes
    | inr off ↦ t.closed.honest_notes ∙ ap (λ (s : AServer). K.honest (journals_disk s.stores.journal)) off.1
        ∙ t.prepared.honest_notes
  ]

  module _ (result : _) (old new : AServer)
      (only : OnlyCommits (folder_store G) (folder_journal K) old new)
      (c : CommitsJournals result old.stores.store old.stores.journal new.stores.store new.stores.journal) where
    -- why a frame was put off
    why_still : (name : List ℕ) (first : AServer) (table table' : Book) (d : Delay) →
        IsTrue (K.honest (journals_disk old.stores.journal)) →
        journals_folder old.stores.journal ≡ takes_folder old.stores.store →
        (HasNoPlace table → HasNoPlace table') →
        IsWhy (folder_store G) (folder_journal K) (DiskFails G K) (DisksDiffer G K) name first old table d →
        IsWhy (folder_store G) (folder_journal K) (DiskFails G K) (DisksDiffer G K) name first new table' d
    why_still name first table table' delay.CallFailed honest folder none why = elim why [
      | inl takes ↦ inl (subst (λ (s : FolderStore D F G). Counts (G.failures (takes_disk first.stores.store))
          (G.failures (takes_disk s)) true) (sym only.store) takes)
      | inr (inl (count, one, more)) ↦ inr (inl (
        count,
        one,
        (let later = counts_more _ _ _ c.failures in omega (arith, more, later)),
      ))
      | inr (inr crowded) ↦ inr (inr crowded)
    ]
    why_still name first table table' delay.NoMemory honest folder none why = tt
    why_still name first table table' (delay.LeftOut cause) honest folder none why =
        subst (λ (l : ℕ). HasThisFault l name (noted_in_folder new.stores.journal name) (take_in_folder new.stores.store name)
        cause) (sym only.limit)
        (subst (λ (s : FolderStore D F G). HasThisFault old.limit name (noted_in_folder new.stores.journal name)
        (take_in_folder s name) cause) (sym only.store)
        (subst (λ (o : Option (List ℕ)). HasThisFault old.limit name o (take_in_folder old.stores.store name) cause)
        (sym (only.notes honest name)) why))
    why_still name first table table' delay.TooManyNumbers honest folder none why =
        subst (λ (l : ℕ). HasTooMany l name (noted_in_folder new.stores.journal name) (take_in_folder new.stores.store name))
        (sym only.limit)
        (subst (λ (s : FolderStore D F G). HasTooMany old.limit name (noted_in_folder new.stores.journal name)
        (take_in_folder s name)) (sym only.store)
        (subst (λ (o : Option (List ℕ)). HasTooMany old.limit name o (take_in_folder old.stores.store name))
        (sym (only.notes honest name)) why))
    why_still name first table table' delay.TwoFolders honest folder none why =
        subst (λ (s : FolderStore D F G). is_some (G.contents (takes_disk s) (take_path (takes_folder s) name))
        ≢ is_some (K.contents (journals_disk new.stores.journal) (take_path (takes_folder s) name))) (sym only.store)
        (subst (λ (o : Option (List ℕ)). is_some (G.contents (takes_disk old.stores.store)
        (take_path (takes_folder old.stores.store) name)) ≢ is_some o) (sym there) why)
      where
        there : K.contents (journals_disk new.stores.journal) (take_path (takes_folder old.stores.store) name)
            ≡ K.contents (journals_disk old.stores.journal) (take_path (takes_folder old.stores.store) name)
        there =
            subst (λ (f : List ℕ). K.contents (journals_disk new.stores.journal) (take_path f name)
            ≡ K.contents (journals_disk old.stores.journal) (take_path f name)) folder (c.commits.kept.takes honest name)
    why_still name first table table' delay.NoPlace honest folder none why = (
      subst (λ (o : Option (List ℕ)). IsSome o) (sym (only.notes honest name)) why.0,
      none why.1,
    )

    pub turn_committed : (first : AServer) (f : Frame) (replies : List Reply) →
        KeptTurn (folder_store G) (folder_journal K) (DiskFails G K) (DisksDiffer G K) first f replies old →
        KeptTurn (folder_store G) (folder_journal K) (DiskFails G K) (DisksDiffer G K) first f replies new
    turn_committed first f replies t = record {
      named = t.named;
      ready = t.ready;
      prepared = t.prepared;
      served = t.served;
      answered = t.answered;
      closed = counts_then (folder_store G) (folder_journal K) t.served old new t.closed
          (counts_only (folder_store G) (folder_journal K) old new only);
      inside = λ some. let x = t.inside some in
          (x.0, only_then (folder_store G) (folder_journal K) t.served old new x.1 only);
      turned = turned;
    }
      where
        same : KeepsCounts (folder_store G) (folder_journal K) old new
        same = counts_only (folder_store G) (folder_journal K) old new only

        turned : FolderTurns (folder_store G) (folder_journal K) (DiskFails G K) (DisksDiffer G K) first new f replies
        turned honest honest_notes from book h =
            let x : FolderTurn (folder_store G) (folder_journal K) (DiskFails G K) (DisksDiffer G K) from first old book f
            replies = t.turned honest honest_notes from book h in
            let noted : IsTrue (K.honest (journals_disk old.stores.journal)) =
            honest_after first old f replies t ∙ honest_notes in
            let held : HoldsKept (folder_store G) (folder_journal K) from new x.later =
            held_committed (folder_store G) (folder_journal K) old new only noted from x.later x.held in
            let none : HasNoPlace x.held.table → HasNoPlace held.table =
            no_place_same (folder_store G) (folder_journal K) from old new x.later x.held held only.sessions in
            record {
              later = x.later;
              held = held;
              full = x.full;
              no_place = λ full. none (x.no_place full);
              turned = elim (x.turned) [
                | inl served ↦ inl (subst (λ (n : ℕ). ServesFrame x.full (λ name. is_some (from name))
                    (failures_of (folder_store G) (folder_journal K) first) n book f replies x.later) (sym same.failures) served)
                | inr off ↦ inr (record {
                  answered = off.answered;
                  left = off.left;
                  uncounted = same.failures ∙ off.uncounted;
                  outside = off.outside;
                  delay = off.delay;
                  why = why_still (name_of_frame f) first x.held.table held.table off.delay noted x.held.folder none off.why;
                })
              ];
              committed = stay_after (folder_store G) (folder_journal K) first.limit from book first.stores.journal
                  old.stores.journal new.stores.journal x.committed (only.committed noted);
            }

  -- a commit that may have been none
  pub turn_after : (before after : KeptServer (FolderStore D F G) (FolderJournal E H K) (folder_store G) (folder_journal K)) →
      OnlyCommits (folder_store G) (folder_journal K) (table_server before) (table_server after) →
      (was_answered before ≡ true → TriesCommit (table_server before) (table_server after)) →
      (was_answered before ≡ false → after ≡ before) → (first : AServer) (f : Frame) (replies : List Reply) →
      KeptTurn (folder_store G) (folder_journal K) (DiskFails G K) (DisksDiffer G K) first f replies (table_server before) →
      KeptTurn (folder_store G) (folder_journal K) (DiskFails G K) (DisksDiffer G K) first f replies (table_server after)
  turn_after before after only tried idle first f replies t = go (was_answered before) refl
    where
      go : (v : Bool) → was_answered before ≡ v →
          KeptTurn (folder_store G) (folder_journal K) (DiskFails G K) (DisksDiffer G K) first f replies (table_server after)
      go true is =
          let x = tried is in
          turn_committed x.0 (table_server before) (table_server after) only x.1 first f replies t
      go false is =
          subst (λ (k : KeptServer (FolderStore D F G) (FolderJournal E H K) (folder_store G) (folder_journal K)).
          KeptTurn (folder_store G) (folder_journal K) (DiskFails G K) (DisksDiffer G K) first f replies (table_server k))
          (sym (idle is)) t

  -- what it is to a kept server
  pub commits_kept : (before after : KeptServer (FolderStore D F G) (FolderJournal E H K) (folder_store G) (folder_journal K)) →
      OnlyCommits (folder_store G) (folder_journal K) (table_server before) (table_server after) →
      (was_answered before ≡ true → TriesCommit (table_server before) (table_server after)) →
      (was_answered before ≡ false → after ≡ before) → (result : Result (Unit {0}) NotKept) →
      result ≡ commit_after (failed_sync_of (table_server after)) (has_pending_notes (table_server after)) →
      CommitsKept before result after
  commits_kept before after only tried idle result is = record {
    result_is = is;
    all = λ ok. any_committed K (server_journal (table_server after))
        (none_waits (failed_sync_of (table_server after)) (has_pending_notes (table_server after)) (sym is ∙ ok));
    only = only;
    tried = tried;
    idle = idle;
  }
