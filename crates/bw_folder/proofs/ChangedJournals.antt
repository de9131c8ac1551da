-- The journal of a name, and what an open journal that takes its place changes.
use Rattle.std.proofs.Common.{◌≡◌, ◌∙◌, ◌<◌, ◌++◌, ◌∷◌, [], ℕ, List, Bool, true, false, cond, Option, Some, None, length, get_or, set}
use Rattle.std.proofs.Common.{refl, sym, ap, subst, inl, inr, ◌⊎◌, IsTrue}
use Rattle.std.specs.Prelude.{Result, Ok, Err, OnOk, OnErr, IfNone, is_some}
use Rattle.std.specs.List.{All, position}
use Rattle.std.specs.Str.{bytes_eq}
use Rattle.std.proofs.Math.Seq.{map-set_same}
use Rattle.std.proofs.lemmas.List.{map-append}
use Rattle.std.proofs.lemmas.List.Elements.{All-set}
use Rattle.std.proofs.lemmas.List.Quantifiers.{position-Some}
use Rattle.bw_model.proofs.BookLemmas.{same_name, name_refl}
use Rattle.bw_store.specs.Stores.{KeepsOthers}
use Rattle.bw_journal.specs.Notes.{Notes, NotesInPart}
use Rattle.bw_disk.specs.DiskSteps.{StaysWhole, ChangesAt}
use Rattle.bw_disk.specs.Volumes.{KeepsEach}
use Rattle.bw_disk.specs.declared.disk.Disk.{Ghosts}
use Rattle.bw_folder.specs.declared.journal.OpenJournal.{OpenJournal}
use Rattle.bw_folder.specs.Journals.{journal_path, notes_at, existences}
use Rattle.bw_folder.specs.PendingNotes.{UnwrittenNotes, no_pending, unwritten_at, pendings, unwritten_of, waits, KeepsPending}
use Rattle.bw_folder.specs.PendingNotes.{noted_with, noted_at, HoldsPending, NotesAt}
use Rattle.bw_folder.proofs.Appended.{unnoted}
use Rattle.bw_folder.proofs.JournalNames.{file_at}
use Rattle.bw_folder.proofs.PendingLaws.{holds_changed, noted_others, noted_idle, far, not_same}
use Rattle.bw_folder.proofs.PendingForms.{pending_there, pending_set, pending_pushed}
use Rattle.bw_folder.proofs.NoteKeeping.{plain_idle}

-- this is the first open journal of a name, at this place
pub record IsPlaceOf {F : Type 0} (name : List ℕ) (js : List (OpenJournal F)) (place : ℕ) (here : OpenJournal F) : Type 0 where
  pub within : place < length js
  pub is : here ≡ get_or js place here
  pub named : here.name ≡ name
  pub first : position (λ (x : OpenJournal F). bytes_eq x.name name) js ≡ Some place
  pub pending : unwritten_of (pendings js) name ≡ unwritten_at here

pub place_of : {F : Type 0} (name : List ℕ) (js : List (OpenJournal F)) (place : ℕ) (here : OpenJournal F) →
    here ≡ get_or js place here → position (λ (x : OpenJournal F). bytes_eq x.name name) js ≡ Some place →
    IsPlaceOf name js place here
place_of {F} name js place here is first =
    let at = position-Some (λ (x : OpenJournal F). bytes_eq x.name name) js place here first in
    record {
      within = at.0;
      is = is;
      named = ap (λ (x : OpenJournal F). x.name) is ∙ same_name _ _ at.1;
      first = first;
      pending = pending_there js name place here first ∙ ap unwritten_at (sym is);
    }

-- its file is at the journal's path
pub path_there : {D F : Type 0} (G : Ghosts D F) (folder name : List ℕ) (js : List (OpenJournal F)) (place : ℕ)
    (here : OpenJournal F) → IsPlaceOf name js place here →
    All (λ (x : OpenJournal F). G.path_of x.file ≡ journal_path folder x.name) js →
    G.path_of here.file ≡ journal_path folder name
path_there G folder name js place here pl all = file_at G folder name js place here all pl.within pl.is pl.named

module _ {F : Type 0} (js : List (OpenJournal F)) (place : ℕ) (here later : OpenJournal F)
    (is : here ≡ get_or js place here) (named : later.name ≡ here.name) where
  pub known_set : later.existed ≡ here.existed → existences (set js place later) ≡ existences js
  known_set existed =
      map-set_same (λ (j : OpenJournal F). (j.name, j.existed)) js place later here
      (ap (λ (n : List ℕ). (n, later.existed)) named
      ∙ ap (λ (b : Bool). (here.name, b)) existed
      ∙ ap (λ (j : OpenJournal F). (j.name, j.existed)) is)

  pub pendings_set : unwritten_at later ≡ unwritten_at here → pendings (set js place later) ≡ pendings js
  pendings_set same =
      map-set_same (λ (j : OpenJournal F). (j.name, unwritten_at j)) js place later here
      (ap (λ (n : List ℕ). (n, unwritten_at later)) named
      ∙ ap (λ (p : UnwrittenNotes). (here.name, p)) same
      ∙ ap (λ (j : OpenJournal F). (j.name, unwritten_at j)) is)

-- files stay at their journals' paths
pub paths_set : {D F : Type 0} (G : Ghosts D F) (folder : List ℕ) (js : List (OpenJournal F)) (place : ℕ)
    (here later : OpenJournal F) → place < length js → here ≡ get_or js place here → later.name ≡ here.name →
    G.path_of later.file ≡ G.path_of here.file →
    All (λ (x : OpenJournal F). G.path_of x.file ≡ journal_path folder x.name) js →
    All (λ (x : OpenJournal F). G.path_of x.file ≡ journal_path folder x.name) (set js place later)
paths_set {D} {F} G folder js place here later within is named same all =
    All-set (λ (x : OpenJournal F). G.path_of x.file ≡ journal_path folder x.name) js place later
    (same
    ∙ file_at G folder here.name js place here all within is refl
    ∙ ap (λ (n : List ℕ). journal_path folder n) (sym named))
    all

-- the same is pending of each name
pub keeps_pending : (all all' : List (List ℕ × UnwrittenNotes)) → all' ≡ all → KeepsPending all all'
keeps_pending all all' same n = ap (λ (x : List (List ℕ × UnwrittenNotes)). unwritten_of x n) same

pub pending_opened : {F : Type 0} (js : List (OpenJournal F)) (j : OpenJournal F) → unwritten_at j ≡ no_pending →
    KeepsPending (pendings js) (pendings (js ++ j ∷ []))
pending_opened {F} js j none n =
    ap (λ (x : List (List ℕ × UnwrittenNotes)). unwritten_of x n)
    (map-append (λ (j : OpenJournal F). (j.name, unwritten_at j)) js (j ∷ []))
    ∙ pending_pushed (pendings js) j.name (unwritten_at j) none n

-- a name that has no open journal
pub absent_of : {P : Type 0} (r : Option ℕ) → is_some r ≡ false → IfNone r P → P
absent_of None e p = p
absent_of (Some i) e p = absurd (cc)

-- a mark of a failed sync
pub marked_or : {T E : Type 0} (r : Result T E) (x y z : Option (List ℕ)) → OnOk r (y ≡ x) → OnErr r (y ≡ z) →
    (y ≡ x) ⊎ (y ≡ z)
marked_or (Ok a) x y z kept marked = inl kept
marked_or (Err e) x y z kept marked = inr marked

-- A journal is opened or made.
pub changes_after : {D F : Type 0} (G : Ghosts D F) (path : List ℕ) (old mid new : D) → StaysWhole G old mid →
    ChangesAt G path mid new → ChangesAt G path old new
changes_after G path old mid new stays changes =
    let still : IsTrue (G.honest old) → IsTrue (G.honest mid) = λ h. subst IsTrue (sym stays.honest) h in
    record {
      honest = changes.honest ∙ stays.honest;
      others = λ h p apart. changes.others (still h) p apart ∙ stays.contents h p;
      synced = λ h p. changes.synced (still h) p ∙ stays.synced h p;
    }

-- or that failed: each journal has what it had
pub unchanged_notes : (folder name : List ℕ) (before after : List ℕ → Option (List ℕ)) →
    KeepsOthers before after (journal_path folder name) →
    after (journal_path folder name) ≡ before (journal_path folder name) → (n : List ℕ) →
    notes_at after folder n ≡ notes_at before folder n
unchanged_notes folder name before after others same n = go (bytes_eq name n) refl
  where
    go : (b : Bool) → bytes_eq name n ≡ b → notes_at after folder n ≡ notes_at before folder n
    go true e =
        subst (λ (k : List ℕ). after (journal_path folder k) ≡ before (journal_path folder k)) (same_name name n e) same
    go false e = others (journal_path folder n) (far folder name n e)

-- Notes that are kept for a commit, and change no file.
module _ {T E F : Type 0} (r : Result T E) (offset : ℕ) (bytes : List ℕ) (js : List (OpenJournal F)) (folder name : List ℕ)
    (place : ℕ) (here later : OpenJournal F) (before after : List ℕ → Option (List ℕ)) (pl : IsPlaceOf name js place here)
    (named : later.name ≡ here.name) (same : KeepsEach before after) where
  abbrev all : List (List ℕ × UnwrittenNotes)
  all = pendings js

  abbrev all' : List (List ℕ × UnwrittenNotes)
  all' = pendings (set js place later)

  abbrev path : List ℕ
  path = journal_path folder name

  replaced : (n : List ℕ) → unwritten_of all' n ≡ cond (bytes_eq name n) (unwritten_at later) (unwritten_of all n)
  replaced = pending_set js name place later pl.first (named ∙ pl.named)

  pub now_pending : unwritten_of all' name ≡ unwritten_at later
  now_pending = replaced name ∙ ap (λ (b : Bool). cond b (unwritten_at later) (unwritten_of all name)) (name_refl name)

  others : KeepsOthers before after path
  others p apart = same p

  pub kept_pending : (sync : Bool) → IsTrue sync →
      ((n : List ℕ) → HoldsPending sync (unwritten_of all n) (notes_at before folder n)) →
      (HoldsPending true (unwritten_at here) (before path) → HoldsPending true (unwritten_at later) (before path)) →
      (n : List ℕ) → HoldsPending sync (unwritten_of all' n) (notes_at after folder n)
  kept_pending sync on holds keeps =
      let was : HoldsPending true (unwritten_at here) (before path) =
      subst (λ (p : UnwrittenNotes). HoldsPending true p (before path)) pl.pending
      (subst (λ (s : Bool). HoldsPending s (unwritten_of all name) (before path)) on (holds name)) in
      holds_changed sync all all' folder name (unwritten_at later) before after replaced others
      (subst (λ (o : Option (List ℕ)). HoldsPending sync (unwritten_at later) o) (sym (same path))
      (subst (λ (s : Bool). HoldsPending s (unwritten_at later) (before path)) (sym on) (keeps was)))
      holds

  pub kept_notes : OnOk r (Notes offset bytes (noted_with (unwritten_at here) (before path))
      (noted_with (unwritten_at later) (before path))) →
      OnErr r (unwritten_at later ≡ unwritten_at here) →
      NotesAt offset bytes r name (noted_at all before folder) (noted_at all' after folder)
  kept_notes noted failed = record {
    noted = subst (λ (o : Option (List ℕ)). OnOk r (Notes offset bytes (noted_at all before folder name) o)) (sym later_is)
        (subst (λ (o : Option (List ℕ)). OnOk r (Notes offset bytes o (noted_with (unwritten_at later) (before path)))) here_is noted);
    failed = go r failed;
    others = noted_others all all' folder name (unwritten_at later) before after replaced others;
  }
    where
      here_is : noted_with (unwritten_at here) (before path) ≡ noted_at all before folder name
      here_is = ap (λ (p : UnwrittenNotes). noted_with p (before path)) (sym pl.pending)

      later_is : noted_at all' after folder name ≡ noted_with (unwritten_at later) (before path)
      later_is =
          ap (λ (p : UnwrittenNotes). noted_with p (after path)) now_pending ∙ ap (noted_with (unwritten_at later)) (same path)

      go : {T E : Type 0} (r : Result T E) → OnErr r (unwritten_at later ≡ unwritten_at here) →
          OnErr r (NotesInPart offset bytes (noted_at all before folder name) (noted_at all' after folder name))
      go (Ok x) failed = tt
      go (Err e) failed =
          unnoted offset bytes _ _ (later_is ∙ ap (λ (p : UnwrittenNotes). noted_with p (before path)) failed ∙ here_is)

-- Without syncs what is noted is what the files have.
pub plain_notes : {T E : Type 0} (r : Result T E) (sync : Bool) (offset : ℕ) (bytes : List ℕ)
    (all all' : List (List ℕ × UnwrittenNotes)) (folder name : List ℕ) (before after : List ℕ → Option (List ℕ)) →
    sync ≡ false → all' ≡ all → ((n : List ℕ) → HoldsPending sync (unwritten_of all n) (notes_at before folder n)) →
    OnOk r (Notes offset bytes (notes_at before folder name) (notes_at after folder name)) →
    OnErr r (NotesInPart offset bytes (notes_at before folder name) (notes_at after folder name)) →
    KeepsOthers before after (journal_path folder name) →
    NotesAt offset bytes r name (noted_at all before folder) (noted_at all' after folder)
plain_notes r sync offset bytes all all' folder name before after off same holds noted failed others = record {
  noted = subst (λ (o : Option (List ℕ)). OnOk r (Notes offset bytes (noted_at all before folder name) o)) (sym (later name))
      (subst (λ (o : Option (List ℕ)). OnOk r (Notes offset bytes o (notes_at after folder name))) (sym (earlier name)) noted);
  failed = subst (λ (o : Option (List ℕ)). OnErr r (NotesInPart offset bytes (noted_at all before folder name) o)) (sym (later name))
      (subst (λ (o : Option (List ℕ)). OnErr r (NotesInPart offset bytes o (notes_at after folder name))) (sym (earlier name)) failed);
  others = λ n apart. later n ∙ others (journal_path folder n) (far folder name n (not_same name n apart)) ∙ sym (earlier n);
}
  where
    idle : (n : List ℕ) → waits (unwritten_of all n).bytes ≡ false
    idle n = plain_idle sync off (unwritten_of all n) (notes_at before folder n) (holds n)

    earlier : (n : List ℕ) → noted_at all before folder n ≡ notes_at before folder n
    earlier n = noted_idle (unwritten_of all n) (notes_at before folder n) (idle n)

    later : (n : List ℕ) → noted_at all' after folder n ≡ notes_at after folder n
    later n =
        noted_idle (unwritten_of all' n) (notes_at after folder n)
        (ap (λ (p : UnwrittenNotes). waits p.bytes) (keeps_pending all all' same n) ∙ idle n)
