-- What a recovery of one name leaves of others: their files, journals and headers.
use Rattle.std.proofs.Common.{◌≡◌, ◌≢◌, ◌∙◌, inl, inr, ℕ, Bool, cond, List, [], ◌∷◌, ◌++◌, codes, Option, Some, None}
use Rattle.std.proofs.Common.{refl, sym, ap}
use Rattle.std.specs.Prelude.{option_map, unwrap_or, is_some}
use Rattle.std.specs.Option.{option_or}
use Rattle.std.specs.List.{find}
use Rattle.std.specs.Str.{bytes_eq}
use Rattle.std.proofs.lemmas.List.{append-nil}
use Rattle.std.proofs.lemmas.List.Folds.{find-append}
use Rattle.bw_model.proofs.BookLemmas.{name_refl}
use Rattle.bw_store.specs.Stores.{KeepsOthers}
use Rattle.bw_disk.specs.declared.disk.Disk.{Ghosts}
use Rattle.bw_journal.specs.Replays.{Story}
use Rattle.bw_recovery.specs.Changes.{ChangesTake}
use Rattle.bw_recovery.specs.Paths.{path_with, wave_path, notes_path}
use Rattle.bw_recovery.proofs.PathLemmas.{path_name}
use Rattle.bw_folder.specs.Folders.{take_path}
use Rattle.bw_folder.specs.Journals.{journal_path, existence_of, known_but}
use Rattle.bw_folder.specs.JournalFolders.{journals_disk, journals_folder, journals_limit, header_in_folder, open_journals}
use Rattle.bw_folder.specs.declared.journal.FolderJournal.{FolderJournal}
use Rattle.bw_folder.proofs.JournalPaths.{journal_path_injective, paths_apart}
use Rattle.bw_kept.specs.Recoveries.{journal_opened}
use Rattle.bw_kept.proofs.ClosedFiles.{existence_else, other_name}
use Rattle.bw_kept.proofs.OpenLists.{none_found}

-- the file of another name is as it was
pub file_else : (folder name other : List ℕ) (before after : List ℕ → Option (List ℕ)) →
    ChangesTake folder name before after → other ≢ name → after (take_path folder other) ≡ before (take_path folder other)
unfolding take_path path_with
file_else folder name other before after (inl k) apart =
    k (wave_path folder other) (λ e. apart (path_name folder (codes ".wav") other name e))
file_else folder name other before after (inr aside) apart =
    aside.others (wave_path folder other) (λ e. apart (path_name folder (codes ".wav") other name e))
    (λ e. aside.apart other (sym e))

-- and its journal
pub notes_else : (folder name other : List ℕ) (before after : List ℕ → Option (List ℕ)) →
    KeepsOthers before after (notes_path folder name) → other ≢ name →
    after (journal_path folder other) ≡ before (journal_path folder other)
unfolding journal_path path_with
notes_else folder name other before after k apart =
    k (journal_path folder other) (λ e. apart (journal_path_injective folder other name e))

-- and whatever the journals' disk has where takes are
pub takes_beside : (folder name other : List ℕ) (before after : List ℕ → Option (List ℕ)) →
    KeepsOthers before after (notes_path folder name) → after (take_path folder other) ≡ before (take_path folder other)
unfolding journal_path path_with
takes_beside folder name other before after k = k (take_path folder other) (paths_apart folder other name)

-- of a name whose journal is opened it is known whether a file existed
pub existence_opened : (name : List ℕ) (known : List (List ℕ × Bool)) (existed : Bool) →
    existence_of (known_but name known ++ (name, existed) ∷ []) name ≡ Some existed
existence_opened name known existed =
    ap (option_map (λ (it : List ℕ × Bool). it.1))
    (find-append (λ (it : List ℕ × Bool). bytes_eq it.0 name) (known_but name known) ((name, existed) ∷ [])
    ∙ ap (λ (o : Option (List ℕ × Bool)).
    option_or o (find (λ (it : List ℕ × Bool). bytes_eq it.0 name) ((name, existed) ∷ [])))
    (none_found name known)
    ∙ ap (λ (b : Bool). cond b (Some (name, existed)) None) (name_refl name))

-- of the others what was known is
pub existence_beside : (name other : List ℕ) (known : List (List ℕ × Bool)) (s : Option Story) → other ≢ name →
    existence_of (known_but name known ++ journal_opened name s) other ≡ existence_of known other
existence_beside name other known None apart =
    ap (λ (more : List (List ℕ × Bool)). existence_of more other) (append-nil (known_but name known))
    ∙ existence_else name other known apart
existence_beside name other known (Some s) apart =
    ap (option_map (λ (it : List ℕ × Bool). it.1))
    (find-append (λ (it : List ℕ × Bool). bytes_eq it.0 other) (known_but name known) ((name, s.parts.taken) ∷ [])
    ∙ ap (λ (b : Bool). option_or (find (λ (it : List ℕ × Bool). bytes_eq it.0 other) (known_but name known))
    (cond b (Some (name, s.parts.taken)) None)) (other_name name other apart)
    ∙ or_none (find (λ (it : List ℕ × Bool). bytes_eq it.0 other) (known_but name known)))
    ∙ existence_else name other known apart
  where
    or_none : (o : Option (List ℕ × Bool)) → option_or o None ≡ o
    or_none None = refl
    or_none (Some it) = refl

module _ {E H : Type 0} {K : Ghosts E H} (journal later : FolderJournal E H K) (name : List ℕ) where
  -- the header is the same, where all is that it is made of
  pub header_same : journals_limit later ≡ journals_limit journal →
      existence_of (open_journals later) name ≡ existence_of (open_journals journal) name →
      K.contents (journals_disk later) (take_path (journals_folder later) name)
      ≡ K.contents (journals_disk journal) (take_path (journals_folder journal) name) →
      header_in_folder later name ≡ header_in_folder journal name
  header_same l e t =
      ap (λ (x : ℕ). record {
        limit = x;
        existed = unwrap_or (existence_of (open_journals later) name)
            (is_some (K.contents (journals_disk later) (take_path (journals_folder later) name)));
      }) l
      ∙ ap (λ (o : Option Bool). record {
        limit = journals_limit journal;
        existed = unwrap_or o (is_some (K.contents (journals_disk later) (take_path (journals_folder later) name)));
      }) e
      ∙ ap (λ (o : Option (List ℕ)). record {
        limit = journals_limit journal;
        existed = unwrap_or (existence_of (open_journals journal) name) (is_some o);
      }) t

  -- it says what is known of a file, or whether one is there
  pub existed_known : (v : Bool) → existence_of (open_journals later) name ≡ Some v → (header_in_folder later name).existed ≡ v
  existed_known v e =
      ap (λ (o : Option Bool). unwrap_or o (is_some (K.contents (journals_disk later) (take_path (journals_folder later) name)))) e

  pub existed_there : existence_of (open_journals later) name ≡ None →
      (header_in_folder later name).existed
      ≡ is_some (K.contents (journals_disk later) (take_path (journals_folder later) name))
  existed_there e =
      ap (λ (o : Option Bool). unwrap_or o (is_some (K.contents (journals_disk later) (take_path (journals_folder later) name)))) e
