-- What is known of a server that was just made over a folder.
use Rattle.std.proofs.Common.{◌≡◌, ◌∙◌, ◌≤◌, ℕ, List, [], Option, None, ap, subst, sym, arith}
use Rattle.std.specs.Prelude.{Result, Ok, Err, IfOk, IfErr}
use Rattle.std.specs.Option.{option_or}
use Rattle.bw_disk.specs.DiskSteps.{StaysWhole}
use Rattle.bw_disk.specs.declared.disk.Disk.{Ghosts as DiskGhosts}
use Rattle.bw_folder.specs.declared.folder.FolderStore.{FolderStore}
use Rattle.bw_folder.specs.declared.journal.FolderJournal.{FolderJournal}
use Rattle.bw_journal.specs.declared.journal.Journal.{Ghosts as JournalGhosts}
use Rattle.bw_kept.specs.DiskNotes.{AreCommitted}
use Rattle.bw_kept.specs.LeftFolders.{KnowsNone}
use Rattle.bw_machine.specs.KeptOpenings.{BeginsOver, HasDisks}
use Rattle.bw_ports.specs.declared.starts.StartRefusal.{StartRefusal}
use Rattle.bw_serve.specs.declared.opening.OpenedServer.{OpenedServer}
use Rattle.bw_session.specs.Books.{HoldsBook}
use Rattle.bw_session.specs.declared.server.Server.{Server}
use Rattle.bw_session.specs.SeenServers.{server_store, server_journal, server_limit}
use Rattle.bw_store.specs.declared.store.TakeStore.{Ghosts as StoreGhosts}

-- what holds of a value holds of what is seen of a result, if that is the value
pub of_same : {T E V : Type 0} (r : Result T E) (view : T → V) (x : V) (P : V → Type 0) → P x →
    IfOk r (λ t. view t ≡ x) → IfOk r (λ t. P (view t))
of_same (Ok t) view x P holds same = subst P (sym same) holds
of_same (Err e) view x P holds same = tt

-- what is opened with a server is opened with another one, if that is the same
pub opened_same : {T : Type 0} (server s : T) (takes : Option ℕ) → s ≡ server →
    (P : Result (OpenedServer T) StartRefusal → Type 0) → P (Ok (record { server = server; takes = takes })) →
    P (Ok (record { server = s; takes = takes }))
opened_same {T} server s takes same P h =
    subst (λ (k : T). P (Ok (record { server = k; takes = takes }))) (sym same) h

-- of two parts none had a failed sync
pub none_failed : (a b : Option (List ℕ)) → a ≡ None → b ≡ None → option_or a b ≡ None
none_failed a b x y = ap (λ (o : Option (List ℕ)). option_or o b) x ∙ y

module _ {X Y : Type 0} (S : StoreGhosts X) (J : JournalGhosts Y) where
  -- a server that was made over a store and a journal of one folder knows no name
  pub knows_none : (s : Server X Y S J) (store : X) (journal : Y) (limit : ℕ) → server_store s ≡ store →
      server_journal s ≡ journal → server_limit s ≡ limit → HoldsBook S J (S.contents store) s [] →
      limit ≤ 4294967294 → J.folder journal ≡ S.folder store →
      ((name : List ℕ) → (J.header journal name).limit ≡ limit) → AreCommitted J journal → KnowsNone S J s
  knows_none s store journal limit st jo li held most folder limits all = record {
    held = subst (λ x. HoldsBook S J (S.contents x) s []) (sym st) held;
    small = omega (arith, li, most);
    folder = ap J.folder jo ∙ folder ∙ sym (ap S.folder st);
    limits = λ name. ap (λ j. (J.header j name).limit) jo ∙ limits name ∙ sym li;
    committed = subst (AreCommitted J) (sym jo) all;
  }

module _ {D E F H : Type 0} {G : DiskGhosts D F} {K : DiskGhosts E H}
    {S : StoreGhosts (FolderStore D F G)} {J : JournalGhosts (FolderJournal E H K)} where
  -- so it begins over disks that have what these had
  pub begins_over : (takes : D) (notes notes' : E) (s : Server (FolderStore D F G) (FolderJournal E H K) S J) →
      KnowsNone S J s → HasDisks takes notes' s → StaysWhole K notes notes' → BeginsOver takes notes s
  begins_over takes notes notes' s none disks kept = record {
    none = none;
    takes_same = disks.takes_are;
    notes_kept = subst (StaysWhole K notes) (sym disks.notes_are) kept;
  }

  -- the disks that come back are those that it had
  pub disks_back : {T : Type 0} (r : Result T (D × E)) (takes : D) (notes : E)
      (s : Server (FolderStore D F G) (FolderJournal E H K) S J) → HasDisks takes notes s →
      IfErr r (λ e. HasDisks e.0 e.1 s) → IfErr r (λ e. (e.0 ≡ takes) × (e.1 ≡ notes))
  disks_back (Ok t) takes notes s disks back = tt
  disks_back (Err e) takes notes s disks back =
      (sym back.takes_are ∙ disks.takes_are, sym back.notes_are ∙ disks.notes_are)
