-- What a stop leaves of a machine, and what a start finds there.
use Rattle.std.proofs.Common.{◌≡◌, ◌∙◌, ℕ, Bool, cond, List, [], Option, None, Some, refl, sym, ap, subst, codes}
use Rattle.std.proofs.Math.Path.{fun_ext}
use Rattle.std.specs.Prelude.{◌==◌, ◌<◌, ◌^◌, IsTrue}
use Rattle.std.specs.List.{ends_with}
use Rattle.std.specs.Option.{option_or}
use Rattle.bw_model.specs.Book.{Book}
use Rattle.bw_folder.specs.Folders.{take_content}
use Rattle.bw_folder.specs.Journals.{journal_path, notes_at}
use Rattle.bw_folder.specs.JournalFolders.{journal_on_disk, noted_in_folder, unwritten_in}
use Rattle.bw_folder.specs.PendingNotes.{UnwrittenNotes, noted_with, unwritten_of}
use Rattle.bw_folder.specs.declared.journal.FolderJournal.{FolderJournal}
use Rattle.bw_disk.specs.declared.disk.Disk.{Ghosts as DiskGhosts}
use Rattle.bw_store.specs.declared.store.TakeStore.{Ghosts as StoreGhosts}
use Rattle.bw_journal.specs.declared.journal.Journal.{Ghosts as JournalGhosts}
use Rattle.bw_session.specs.Books.{HoldsBook}
use Rattle.bw_session.specs.declared.server.Server.{Server}
use Rattle.bw_kept.specs.DiskNotes.{AreCommitted}
use Rattle.bw_kept.specs.KeptFolders.{HoldsKept}
use Rattle.bw_kept.specs.LeftFolders.{CommittedBooksAreCovered, EmptyServersHold, LiesThere}
use Rattle.bw_delivery.specs.ServedWorlds.{ServesBook}
use Rattle.bw_delivery.proofs.Folders.{new_folders_are_empty}
use Rattle.bw_commands.specs.RehearsedWorlds.{no_contents}
use Rattle.bw_delivery.specs.Machines.{the_folder, shown_at}
use Rattle.bw_delivery.proofs.Endings.{journal_ends, journal_is_no_take}

-- what is at each path
abbrev Paths : Type 0
Paths = List ℕ → Option (List ℕ)

-- where nothing is, the empty book lies
pub nothing_left : (limit : ℕ) (notes takes : Paths) → ((path : List ℕ) → notes path ≡ None) →
    ((path : List ℕ) → takes path ≡ None) →
    LiesThere limit no_contents [] (notes_at notes the_folder) (take_content takes the_folder)
nothing_left limit notes takes n t =
    subst (λ (x : Paths). LiesThere limit no_contents [] (notes_at x the_folder) (take_content takes the_folder))
    (sym (fun_ext n))
    (subst (λ (x : Paths). LiesThere limit no_contents [] (λ name. None) (take_content x the_folder)) (sym (fun_ext t))
    (new_folders_are_empty limit (record { journals = λ name. None; files = no_contents }) (λ name. refl)))

-- the same lies there, by other words for limit, folders and disks
pub left_at : (limit before : ℕ) (book : Book) (at_notes at_takes : List ℕ) (notes later_notes takes later_takes : Paths) →
    before ≡ limit → at_notes ≡ the_folder → at_takes ≡ the_folder → later_notes ≡ notes → later_takes ≡ takes →
    LiesThere before no_contents book (notes_at notes at_notes) (take_content takes at_takes) →
    LiesThere limit no_contents book (notes_at later_notes the_folder) (take_content later_takes the_folder)
left_at limit before book at_notes at_takes notes later_notes takes later_takes l n t ns ts left =
    subst (λ (k : ℕ). LiesThere k no_contents book (notes_at later_notes the_folder) (take_content later_takes the_folder)) l
    (subst (λ (x : Paths). LiesThere before no_contents book (notes_at x the_folder) (take_content later_takes the_folder))
    (sym ns)
    (subst (λ (x : Paths). LiesThere before no_contents book (notes_at notes the_folder) (take_content x the_folder)) (sym ts)
    (subst (λ (d : List ℕ). LiesThere before no_contents book (notes_at notes d) (take_content takes the_folder)) n
    (subst (λ (d : List ℕ). LiesThere before no_contents book (notes_at notes at_notes) (take_content takes d)) t left))))

-- where nothing is pending, what the journals' disk has is what is noted
pub lies_noted : {E H : Type 0} {K : DiskGhosts E H} (j : FolderJournal E H K) (limit : ℕ) (book : Book) (files : Paths) →
    unwritten_in j ≡ [] → LiesThere limit no_contents book (journal_on_disk j) files →
    LiesThere limit no_contents book (noted_in_folder j) files
lies_noted j limit book files none lies =
    let noted : List (List ℕ × UnwrittenNotes) → Paths =
    λ all name. noted_with (unwritten_of all name) (journal_on_disk j name) in
    subst (λ (x : Paths). LiesThere limit no_contents book x files) (ap noted (sym none)) lies

or_none : (o : Option (List ℕ)) → option_or o None ≡ o
or_none None = refl
or_none (Some x) = refl

module _ (takes notes : Paths) where
  shown_journal : (name : List ℕ) →
      shown_at takes notes (journal_path the_folder name) ≡ notes (journal_path the_folder name)
  shown_journal name =
      let path = journal_path the_folder name in
      ap (λ (v : Bool). option_or (cond v (notes path) None) (cond (ends_with ◌==◌ path (codes ".wav")) (takes path) None))
      (journal_ends the_folder name)
      ∙ ap (λ (v : Bool). option_or (notes path) (cond v (takes path) None)) (journal_is_no_take the_folder name)
      ∙ or_none (notes path)

  -- what lies there by a disk that shows the journals
  pub shown : (limit : ℕ) (book : Book) (seen : Paths) → ((path : List ℕ) → seen path ≡ shown_at takes notes path) →
      LiesThere limit no_contents book (notes_at notes the_folder) (take_content takes the_folder) →
      LiesThere limit no_contents book (notes_at seen the_folder) (take_content takes the_folder)
  shown limit book seen is left =
      subst (λ (x : List ℕ → Option (List ℕ)). LiesThere limit no_contents book x (take_content takes the_folder))
      (sym (fun_ext (λ (name : List ℕ). is (journal_path the_folder name) ∙ shown_journal name))) left

-- the same by other words for folders and disks
pub lies_by : (limit : ℕ) (book : Book) (at_notes at_takes : List ℕ) (notes later_notes takes later_takes : Paths) →
    at_notes ≡ the_folder → at_takes ≡ the_folder → later_notes ≡ notes → later_takes ≡ takes →
    LiesThere limit no_contents book (notes_at notes the_folder) (take_content takes the_folder) →
    LiesThere limit no_contents book (notes_at later_notes at_notes) (take_content later_takes at_takes)
lies_by limit book at_notes at_takes notes later_notes takes later_takes n t ns ts lies =
    subst (λ (x : Paths). LiesThere limit no_contents book (notes_at x at_notes) (take_content later_takes at_takes)) (sym ns)
    (subst (λ (x : Paths). LiesThere limit no_contents book (notes_at notes at_notes) (take_content x at_takes)) (sym ts)
    (subst (λ (d : List ℕ). LiesThere limit no_contents book (notes_at notes d) (take_content takes at_takes)) (sym n)
    (subst (λ (d : List ℕ). LiesThere limit no_contents book (notes_at notes the_folder) (take_content takes d)) (sym t) lies)))

-- A server that knows no name begins with what lies in its folder.
module _ {X Y : Type 0} (S : StoreGhosts X) (J : JournalGhosts Y) where
  pub begun : EmptyServersHold S J → CommittedBooksAreCovered S J → (first : Paths) (limit : ℕ) (book : Book) (store : X)
      (journal : Y) (s : Server X Y S J) → s.stores.store ≡ store → s.stores.journal ≡ journal → s.limit ≡ limit →
      HoldsBook S J (S.contents store) s [] → limit < 2 ^ 32 → J.folder journal ≡ S.folder store →
      ((name : List ℕ) → (J.header journal name).limit ≡ limit) → IsTrue (S.honest store) → IsTrue (J.honest journal) →
      AreCommitted J journal → LiesThere limit first book (J.notes journal) (S.contents store) → ServesBook S J first s book
  begun hold covers first limit book store journal s is_store is_journal is_limit held small same limits honest honest_notes all
      lies =
      let mine : IsTrue (S.honest s.stores.store) = subst (λ (x : X). IsTrue (S.honest x)) (sym is_store) honest in
      let notes : IsTrue (J.honest s.stores.journal) =
      subst (λ (y : Y). IsTrue (J.honest y)) (sym is_journal) honest_notes in
      let committed : AreCommitted J s.stores.journal = subst (AreCommitted J) (sym is_journal) all in
      let kept : HoldsKept S J first s book =
      hold first s book
      (record {
        held = subst (λ (x : X). HoldsBook S J (S.contents x) s []) (sym is_store) held;
        small = subst (λ (n : ℕ). n < 2 ^ 32) (sym is_limit) small;
        folder = ap J.folder is_journal ∙ same ∙ ap S.folder (sym is_store);
        limits = λ name. ap (λ (y : Y). (J.header y name).limit) is_journal ∙ limits name ∙ sym is_limit;
        committed = committed;
      })
      (subst (λ (n : ℕ). LiesThere n first book (J.notes s.stores.journal) (S.contents s.stores.store)) (sym is_limit)
      (subst (λ (y : Y). LiesThere limit first book (J.notes y) (S.contents s.stores.store)) (sym is_journal)
      (subst (λ (x : X). LiesThere limit first book (J.notes journal) (S.contents x)) (sym is_store) lies))) in
      record {
        held = kept;
        honest = mine;
        honest_notes = notes;
        covered = covers first s book mine notes kept committed;
      }
