-- Stores and journals whose disks show the same in the same folder.
use Rattle.std.proofs.Common.{◌≡◌, ◌∙◌, ℕ, Bool, List, Option, Some, IsTrue, inl, refl, sym, ap, subst}
use Rattle.std.proofs.Math.Path.{fun_ext}
use Rattle.bw_store.specs.Stores.{KeepsOthers}
use Rattle.bw_disk.specs.Volumes.{KeepsEach}
use Rattle.bw_disk.specs.DiskSteps.{StaysWhole}
use Rattle.bw_recovery.proofs.NameStays.{same_left}
use Rattle.bw_disk.specs.declared.disk.Disk.{Ghosts}
use Rattle.bw_recovery.specs.Changes.{ChangesTake, IsCrowded}
use Rattle.bw_recovery.specs.CountedFaults.{CountsOneUnless}
use Rattle.bw_recovery.specs.Paths.{notes_path}
use Rattle.bw_recovery.specs.StaysLeft.{StaysLeft}
use Rattle.bw_recovery.specs.declared.finding.Finding.{Finding}
use Rattle.bw_folder.specs.Folders.{take_path}
use Rattle.bw_folder.specs.TakeFolders.{takes_disk, takes_folder, take_in_folder}
use Rattle.bw_folder.specs.JournalFolders.{journals_disk, journals_folder, noted_in_folder}
use Rattle.bw_folder.specs.FolderDisks.{AreOfOneFolder}
use Rattle.bw_kept.specs.RecoveredNames.{FindsName, FindsIn, RestoresName, RestoresIn, StaysLeftIn}
use Rattle.bw_kept.specs.RecoveredNames.{ChangesName, CountsUnlessCrowded}
use Rattle.bw_folder.specs.declared.folder.FolderStore.{FolderStore}
use Rattle.bw_folder.specs.declared.journal.FolderJournal.{FolderJournal}
use Rattle.bw_kept.specs.Recoveries.{Recovers, RecoversIn, opened_story, KeepsFaulty, KeepsFaultyIn, KeepsInFolder}
use Rattle.bw_kept.specs.RecoverySteps.{IsFoundThere}
use Rattle.bw_kept.specs.Recoveries.{HasTooManyIn}
use Rattle.bw_kept.specs.KeptFolders.{HasTooMany}
use Rattle.bw_kept.specs.declared.recovery.Recovered.{Recovered}

module _ {D E F H : Type 0} {G : Ghosts D F} {K : Ghosts E H} where
  pub record SeesSame (store : FolderStore D F G) (journal : FolderJournal E H K)
      (later_store : FolderStore D F G) (later_journal : FolderJournal E H K) : Type 0 where
    pub honest_takes : G.honest (takes_disk later_store) ≡ G.honest (takes_disk store)
    pub honest_notes : K.honest (journals_disk later_journal) ≡ K.honest (journals_disk journal)
    pub folder : takes_folder later_store ≡ takes_folder store
    pub other : journals_folder later_journal ≡ journals_folder journal
    pub takes : KeepsEach (G.contents (takes_disk store)) (G.contents (takes_disk later_store))
    pub notes : KeepsEach (K.contents (journals_disk journal)) (K.contents (journals_disk later_journal))
    pub noted : KeepsEach (noted_in_folder journal) (noted_in_folder later_journal)

  -- on the same disks
  pub same_disks : (store : FolderStore D F G) (journal : FolderJournal E H K) (store' : FolderStore D F G)
      (journal' : FolderJournal E H K) → takes_disk store' ≡ takes_disk store → takes_folder store' ≡ takes_folder store →
      journals_disk journal' ≡ journals_disk journal → journals_folder journal' ≡ journals_folder journal →
      KeepsEach (noted_in_folder journal) (noted_in_folder journal') → SeesSame store journal store' journal'
  same_disks store journal store' journal' t f n g noted = record {
    honest_takes = ap (λ (d : D). G.honest d) t;
    honest_notes = ap (λ (d : E). K.honest d) n;
    folder = f;
    other = g;
    takes = λ path. ap (λ (d : D). G.contents d path) t;
    notes = λ path. ap (λ (d : E). K.contents d path) n;
    noted = noted;
  }

  -- on honest disks that stay as they are
  pub whole_disks : (store : FolderStore D F G) (journal : FolderJournal E H K) (store' : FolderStore D F G)
      (journal' : FolderJournal E H K) → StaysWhole G (takes_disk store) (takes_disk store') →
      StaysWhole K (journals_disk journal) (journals_disk journal') → takes_folder store' ≡ takes_folder store →
      journals_folder journal' ≡ journals_folder journal →
      (IsTrue (K.honest (journals_disk journal)) → KeepsEach (noted_in_folder journal) (noted_in_folder journal')) →
      AreOfOneFolder store journal → SeesSame store journal store' journal'
  whole_disks store journal store' journal' t n f g noted one = record {
    honest_takes = t.honest;
    honest_notes = n.honest;
    folder = f;
    other = g;
    takes = t.contents one.takes;
    notes = n.contents one.notes;
    noted = noted one.notes;
  }

  -- whatever was changed there
  pub still_folder : (store : FolderStore D F G) (journal : FolderJournal E H K) (store' : FolderStore D F G)
      (journal' : FolderJournal E H K) → G.honest (takes_disk store') ≡ G.honest (takes_disk store) →
      K.honest (journals_disk journal') ≡ K.honest (journals_disk journal) →
      takes_folder store' ≡ takes_folder store → journals_folder journal' ≡ journals_folder journal →
      AreOfOneFolder store journal → AreOfOneFolder store' journal'
  still_folder store journal store' journal' t n f g one = record {
    takes = subst IsTrue (sym t) one.takes;
    notes = subst IsTrue (sym n) one.notes;
    folder = g ∙ one.folder ∙ sym f;
  }

  module _ (store : FolderStore D F G) (journal : FolderJournal E H K) (store' : FolderStore D F G)
      (journal' : FolderJournal E H K) (same : SeesSame store journal store' journal') where
    pub same_folder : AreOfOneFolder store journal → AreOfOneFolder store' journal'
    same_folder one = record {
      takes = subst IsTrue (sym same.honest_takes) one.takes;
      notes = subst IsTrue (sym same.honest_notes) one.notes;
      folder = same.other ∙ one.folder ∙ sym same.folder;
    }

    pub same_notes : (name : List ℕ) → noted_in_folder journal' name ≡ noted_in_folder journal name
    same_notes name = same.noted name

    pub same_take : (name : List ℕ) → take_in_folder store' name ≡ take_in_folder store name
    same_take name =
        ap (λ (f : List ℕ). G.contents (takes_disk store') (take_path f name)) same.folder
        ∙ same.takes (take_path (takes_folder store) name)

    pub finds_there : (limit : ℕ) (name : List ℕ) (found : Option Finding) → FindsIn limit name store journal found →
        FindsIn limit name store' journal' found
    finds_there limit name found h =
        subst (λ (o : Option (List ℕ)). FindsName limit name o (take_in_folder store' name) found)
        (sym (same_notes name))
        (subst (λ (o : Option (List ℕ)). FindsName limit name (noted_in_folder journal name) o found)
        (sym (same_take name)) h)

    pub story_here : (limit : ℕ) (name : List ℕ) (r : Recovered) →
        opened_story limit name (noted_in_folder journal' name) r
        ≡ opened_story limit name (noted_in_folder journal name) r
    story_here limit name r = ap (λ (o : Option (List ℕ)). opened_story limit name o r) (same_notes name)

    left_same : (limit : ℕ) (name : List ℕ) → StaysLeftIn limit name store journal store' journal'
    left_same limit name =
        same_left limit name (noted_in_folder journal name) (take_in_folder store name) (noted_in_folder journal' name)
        (take_in_folder store' name) (same_notes name) (same_take name)

    pub kept_same : (limit : ℕ) (name : List ℕ) → KeepsInFolder limit name store journal store' journal'
    kept_same limit name = record {
      left = left_same limit name;
      faulty = λ fault. (same_notes name, same_take name);
      others = record { takes = inl (λ other apart. same.takes other); notes = λ other apart. same.notes other };
      noted = λ other apart. same.noted other;
    }

    pub found_then : (limit : ℕ) (name : List ℕ) (finding : Finding) → AreOfOneFolder store journal →
        FindsIn limit name store journal (Some finding) → IsFoundThere limit name store' journal' finding
    found_then limit name finding one found =
        record { one = same_folder one; found = finds_there limit name (Some finding) found }

    pub many_here : (limit : ℕ) (name : List ℕ) → HasTooManyIn limit name store' journal' →
        HasTooManyIn limit name store journal
    many_here limit name h =
        subst (λ (o : Option (List ℕ)). HasTooMany limit name o (take_in_folder store name)) (same_notes name)
        (subst (λ (o : Option (List ℕ)). HasTooMany limit name (noted_in_folder journal' name) o) (same_take name) h)

    pub many_there : (limit : ℕ) (name : List ℕ) → HasTooManyIn limit name store journal →
        HasTooManyIn limit name store' journal'
    many_there limit name h =
        subst (λ (o : Option (List ℕ)). HasTooMany limit name o (take_in_folder store' name)) (sym (same_notes name))
        (subst (λ (o : Option (List ℕ)). HasTooMany limit name (noted_in_folder journal name) o) (sym (same_take name)) h)

    -- what came of the later ones came of the earlier ones
    module _ (store'' : FolderStore D F G) (journal'' : FolderJournal E H K) where
      pub recovers_here : (limit : ℕ) (name : List ℕ) (r : Recovered) →
          RecoversIn limit name store' journal' store'' journal'' r →
          RecoversIn limit name store journal store'' journal'' r
      recovers_here limit name r h =
          subst (λ (o : Option (List ℕ)). Recovers limit name o (take_in_folder store name) r
          (noted_in_folder journal'' name) (take_in_folder store'' name)) (same_notes name)
          (subst (λ (o : Option (List ℕ)). Recovers limit name (noted_in_folder journal' name) o r
          (noted_in_folder journal'' name) (take_in_folder store'' name)) (same_take name) h)

      left_here : (limit : ℕ) (name : List ℕ) → StaysLeftIn limit name store' journal' store'' journal'' →
          StaysLeftIn limit name store journal store'' journal''
      left_here limit name h =
          subst (λ (o : Option (List ℕ)). StaysLeft limit name o (take_in_folder store name)
          (noted_in_folder journal'' name) (take_in_folder store'' name)) (same_notes name)
          (subst (λ (o : Option (List ℕ)). StaysLeft limit name (noted_in_folder journal' name) o
          (noted_in_folder journal'' name) (take_in_folder store'' name)) (same_take name) h)

      faulty_here : (limit : ℕ) (name : List ℕ) → KeepsFaultyIn limit name store' journal' store'' journal'' →
          KeepsFaultyIn limit name store journal store'' journal''
      faulty_here limit name h =
          subst (λ (o : Option (List ℕ)). KeepsFaulty limit name o (take_in_folder store name)
          (noted_in_folder journal'' name) (take_in_folder store'' name)) (same_notes name)
          (subst (λ (o : Option (List ℕ)). KeepsFaulty limit name (noted_in_folder journal' name) o
          (noted_in_folder journal'' name) (take_in_folder store'' name)) (same_take name) h)

      changes_here : (name : List ℕ) → ChangesName name store' journal' store'' journal'' →
          ChangesName name store journal store'' journal''
      changes_here name h = record {
        takes = subst (λ (f : List ℕ). ChangesTake f name (G.contents (takes_disk store)) (G.contents (takes_disk store'')))
            same.folder
            (subst (λ (t : List ℕ → Option (List ℕ)). ChangesTake (takes_folder store') name t (G.contents (takes_disk store'')))
            (fun_ext same.takes) h.takes);
        notes = subst (λ (f : List ℕ). KeepsOthers (K.contents (journals_disk journal))
            (K.contents (journals_disk journal'')) (notes_path f name)) same.folder
            (subst (λ (n : List ℕ → Option (List ℕ)). KeepsOthers n (K.contents (journals_disk journal''))
            (notes_path (takes_folder store') name)) (fun_ext same.notes) h.notes);
      }

      pub kept_here : (limit : ℕ) (name : List ℕ) → KeepsInFolder limit name store' journal' store'' journal'' →
          KeepsInFolder limit name store journal store'' journal''
      kept_here limit name k = record {
        left = left_here limit name k.left;
        faulty = faulty_here limit name k.faulty;
        others = changes_here name k.others;
        noted = λ other apart. k.noted other apart ∙ same.noted other;
      }

      pub counts_here : (name : List ℕ) (happens : Bool) →
          G.failures (takes_disk store') ≡ G.failures (takes_disk store) →
          K.failures (journals_disk journal') ≡ K.failures (journals_disk journal) →
          CountsUnlessCrowded name store' journal' store'' journal'' happens →
          CountsUnlessCrowded name store journal store'' journal'' happens
      counts_here name happens t n h =
          subst (λ (x : ℕ). CountsOneUnless (IsCrowded (takes_folder store) name (G.contents (takes_disk store))) x
          (G.failures (takes_disk store'')) (K.failures (journals_disk journal)) (K.failures (journals_disk journal'')) happens) t
          (subst (λ (x : ℕ). CountsOneUnless (IsCrowded (takes_folder store) name (G.contents (takes_disk store)))
          (G.failures (takes_disk store')) (G.failures (takes_disk store'')) x (K.failures (journals_disk journal'')) happens) n
          (subst (λ (f : List ℕ). CountsOneUnless (IsCrowded f name (G.contents (takes_disk store)))
          (G.failures (takes_disk store')) (G.failures (takes_disk store'')) (K.failures (journals_disk journal'))
          (K.failures (journals_disk journal'')) happens) same.folder
          (subst (λ (c : List ℕ → Option (List ℕ)). CountsOneUnless (IsCrowded (takes_folder store') name c)
          (G.failures (takes_disk store')) (G.failures (takes_disk store'')) (K.failures (journals_disk journal'))
          (K.failures (journals_disk journal'')) happens) (fun_ext same.takes) h)))

    -- what earlier ones became the later ones are
    module _ (first : FolderStore D F G) (first_journal : FolderJournal E H K) where
      pub restores_there : (limit : ℕ) (name : List ℕ) → RestoresIn limit name first first_journal store journal →
          RestoresIn limit name first first_journal store' journal'
      restores_there limit name h =
          subst (λ (o : Option (List ℕ)). RestoresName limit name (noted_in_folder first_journal name)
          (take_in_folder first name) o (take_in_folder store' name)) (sym (same_notes name))
          (subst (λ (o : Option (List ℕ)). RestoresName limit name (noted_in_folder first_journal name)
          (take_in_folder first name) (noted_in_folder journal name) o) (sym (same_take name)) h)

      left_there : (limit : ℕ) (name : List ℕ) → StaysLeftIn limit name first first_journal store journal →
          StaysLeftIn limit name first first_journal store' journal'
      left_there limit name h =
          subst (λ (o : Option (List ℕ)). StaysLeft limit name (noted_in_folder first_journal name)
          (take_in_folder first name) o (take_in_folder store' name)) (sym (same_notes name))
          (subst (λ (o : Option (List ℕ)). StaysLeft limit name (noted_in_folder first_journal name)
          (take_in_folder first name) (noted_in_folder journal name) o) (sym (same_take name)) h)

      faulty_there : (limit : ℕ) (name : List ℕ) → KeepsFaultyIn limit name first first_journal store journal →
          KeepsFaultyIn limit name first first_journal store' journal'
      faulty_there limit name h fault = (same_notes name ∙ (h fault).0, same_take name ∙ (h fault).1)

      changes_there : (name : List ℕ) → ChangesName name first first_journal store journal →
          ChangesName name first first_journal store' journal'
      changes_there name h = record {
        takes = subst (λ (t : List ℕ → Option (List ℕ)). ChangesTake (takes_folder first) name
            (G.contents (takes_disk first)) t) (sym (fun_ext same.takes)) h.takes;
        notes = subst (λ (n : List ℕ → Option (List ℕ)). KeepsOthers (K.contents (journals_disk first_journal)) n
            (notes_path (takes_folder first) name)) (sym (fun_ext same.notes)) h.notes;
      }

      pub kept_there : (limit : ℕ) (name : List ℕ) → KeepsInFolder limit name first first_journal store journal →
          KeepsInFolder limit name first first_journal store' journal'
      kept_there limit name k = record {
        left = left_there limit name k.left;
        faulty = faulty_there limit name k.faulty;
        others = changes_there name k.others;
        noted = λ other apart. same.noted other ∙ k.noted other apart;
      }

  -- nothing was done
  pub kept_none : (limit : ℕ) (name : List ℕ) (store : FolderStore D F G) (journal : FolderJournal E H K) →
      KeepsInFolder limit name store journal store journal
  kept_none limit name store journal = record {
    left = same_left limit name (noted_in_folder journal name) (take_in_folder store name) (noted_in_folder journal name)
        (take_in_folder store name) refl refl;
    faulty = λ fault. (refl, refl);
    others = record { takes = inl (λ other apart. refl); notes = λ other apart. refl };
    noted = λ other apart. refl;
  }

  -- nothing more failed
  pub counts_there : (store : FolderStore D F G) (journal : FolderJournal E H K) (store' : FolderStore D F G)
      (journal' : FolderJournal E H K) (first : FolderStore D F G) (first_journal : FolderJournal E H K) (name : List ℕ)
      (happens : Bool) → G.failures (takes_disk store') ≡ G.failures (takes_disk store) →
      K.failures (journals_disk journal') ≡ K.failures (journals_disk journal) →
      CountsUnlessCrowded name first first_journal store journal happens →
      CountsUnlessCrowded name first first_journal store' journal' happens
  counts_there store journal store' journal' first first_journal name happens t n h =
      subst (λ (x : ℕ). CountsOneUnless (IsCrowded (takes_folder first) name (G.contents (takes_disk first)))
      (G.failures (takes_disk first)) x (K.failures (journals_disk first_journal)) (K.failures (journals_disk journal')) happens)
      (sym t)
      (subst (λ (x : ℕ). CountsOneUnless (IsCrowded (takes_folder first) name (G.contents (takes_disk first)))
      (G.failures (takes_disk first)) (G.failures (takes_disk store)) (K.failures (journals_disk first_journal)) x happens)
      (sym n) h)
