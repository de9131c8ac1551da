-- Commits in a row, and what a commit of a name leaves.
use Rattle.std.proofs.Common.{◌≡◌, ◌∙◌, ◌≤◌, ◌<◌, ℕ, suc, ◌∷◌, length, get_or, List, [], Bool, true, false, cond, Option, Some, None, refl}
use Rattle.std.proofs.Common.{sym, ap, subst}
use Rattle.std.proofs.Common.{arith, inl, inr, ◌⊎◌, IsTrue}
use Rattle.std.specs.Prelude.{Result, Ok, Err, OnOk, OnErr, IsSome}
use Rattle.std.specs.Str.{bytes_eq}
use Rattle.std.specs.List.{position}
use Rattle.std.specs.Prelude.{slice_get, option_map, is_some, nat_lt}
use Rattle.std.proofs.lemmas.Bool.{ltb-true, ltb-false}
use Rattle.std.proofs.lemmas.List.{length-map}
use Rattle.std.proofs.lemmas.List.Quantifiers.{position-Some}
use Rattle.std.proofs.lemmas.Option.{slice_get-map, slice_get-get_or, slice_get_within}
use Rattle.bw_model.proofs.BookLemmas.{same_name}
use Rattle.bw_model.proofs.Elements.{some_inj}
use Rattle.bw_store.specs.Stores.{Written, KeepsOthers}
use Rattle.bw_disk.specs.Volumes.{WrittenInPart, KeepsEach}
use Rattle.bw_disk.specs.declared.disk.Disk.{Ghosts}
use Rattle.bw_folder.specs.Folders.{take_path}
use Rattle.bw_folder.specs.Journals.{journal_path, notes_at, existences}
use Rattle.bw_folder.specs.SyncOrders.{IsSyncedAt, SyncsInOrder}
use Rattle.bw_folder.specs.PendingNotes.{UnwrittenNotes, waits, noted_with, noted_at, unwritten_of, pendings}
use Rattle.bw_folder.specs.JournalFolders.{journals_disk, journals_folder, failed_sync_in, has_pending, writes_pending}
use Rattle.bw_folder.specs.JournalFolders.{journal_on_disk, unwritten_in, open_journals}
use Rattle.bw_folder.specs.Commits.{CommitsNotes, CommitsName, KeepsNoted, IsSyncedIn, IsAllCommitted}
use Rattle.bw_folder.specs.declared.journal.FolderJournal.{FolderJournal}
use Rattle.bw_folder.specs.declared.journal.OpenJournal.{OpenJournal}
use Rattle.bw_folder.proofs.PendingForms.{pending_none}
use Rattle.bw_folder.proofs.JournalPaths.{paths_apart}
use Rattle.bw_folder.proofs.SyncLaws.{on_success}
use Rattle.bw_folder.proofs.PendingLaws.{IsPending, Pends, noted_idle, committed_all, committed_part, noted_part, far}

both_ways : (b : Bool) → IsTrue b → b ≡ false → ⊥
both_ways b is not = let no : true ≡ false = sym is ∙ not in cc

no_fewer : (a b c : ℕ) → a ≤ b → b ≤ c → a ≤ c
no_fewer a b c more most = omega (arith, more, most)

on_any : {T E P : Type 0} (r : Result T E) → P → OnOk r P
on_any (Ok x) p = p
on_any (Err e) p = tt

on_ok_then : {T E : Type 0} {X : Type 0} (r : Result T E) (x y z : X) → y ≡ x → OnOk r (z ≡ y) → OnOk r (z ≡ x)
on_ok_then (Ok a) x y z one two = two ∙ one
on_ok_then (Err e) x y z one two = tt

module _ {D F : Type 0} {G : Ghosts D F} where
  -- nothing was done
  pub commits_none : {T E : Type 0} (answer : Result T E) (j : FolderJournal D F G) → CommitsNotes answer j j
  commits_none answer j = record {
    kept = record {
      settings = (refl, refl, refl);
      journals = refl;
      failures = refl;
      honest = refl;
      noted = λ h n. refl;
      headers = λ h n. refl;
      committed = λ h n. omega arith;
      takes = λ h n. refl;
    };
    fewer = λ n e. e;
    names = λ h n. record {
      first = λ w. inl refl;
      still = λ w. refl;
      synced = λ w e. absurd (both_ways (has_pending j n) w e);
      take = λ w e t. absurd (both_ways (has_pending j n) w e);
      stays = λ e s. s;
      take_stays = λ s. s;
    };
    unmarked = on_any answer refl;
    marked = inl refl;
    first = λ s. refl;
    stopped = λ s. refl;
  }

  -- a success, whatever it returns
  pub commits_ok : {T E : Type 0} (r : Result T E) (x : T) (a b : FolderJournal D F G) → r ≡ Ok x → CommitsNotes r a b →
      CommitsNotes {T = Unit {0}} {E = Unit {0}} (Ok tt) a b
  commits_ok r x a b is it = record {
    kept = it.kept;
    fewer = it.fewer;
    names = it.names;
    unmarked = on_success r x is it.unmarked;
    marked = it.marked;
    first = it.first;
    stopped = it.stopped;
  }

  -- what is noted stays so
  kept_then : (a b c : FolderJournal D F G) → KeepsNoted a b → KeepsNoted b c → KeepsNoted a c
  kept_then a b c one two =
      let still : IsTrue (G.honest (journals_disk a)) → IsTrue (G.honest (journals_disk b)) =
      λ h. subst IsTrue (sym one.honest) h in
      record {
        settings = (two.settings.0 ∙ one.settings.0, two.settings.1 ∙ one.settings.1, two.settings.2 ∙ one.settings.2);
        journals = two.journals ∙ one.journals;
        failures = two.failures ∙ one.failures;
        honest = two.honest ∙ one.honest;
        noted = λ h n. two.noted (still h) n ∙ one.noted h n;
        headers = λ h n. two.headers (still h) n ∙ one.headers h n;
        committed = λ h n. no_fewer _ _ _ (one.committed h n) (two.committed (still h) n);
        takes = λ h n.
            subst (λ (f : List ℕ). G.contents (journals_disk c) (take_path f n) ≡ G.contents (journals_disk b) (take_path f n))
            one.settings.2 (two.takes (still h) n)
            ∙ one.takes h n;
      }

  module _ (a b c : FolderJournal D F G) (n : List ℕ) (one : KeepsNoted a b) (two : KeepsNoted b c)
      (honest : IsTrue (G.honest (journals_disk b))) (first : CommitsName n a b) (second : CommitsName n b c)
      (fewer_one : has_pending a n ≡ false → has_pending b n ≡ false)
      (fewer_two : has_pending b n ≡ false → has_pending c n ≡ false) where
    folder_b : journals_folder b ≡ journals_folder a
    folder_b = one.settings.2

    -- nothing is pending after the first: the journal stays
    idle : has_pending b n ≡ false → journal_on_disk c n ≡ journal_on_disk b n
    idle e =
        sym (noted_idle (unwritten_of (unwritten_in c) n) (journal_on_disk c n) (fewer_two e))
        ∙ two.noted honest n
        ∙ noted_idle (unwritten_of (unwritten_in b) n) (journal_on_disk b n) e

    -- what the second wrote is at the same paths
    at_take : IsSyncedIn c (take_path (journals_folder b) n) → IsSyncedIn c (take_path (journals_folder a) n)
    at_take is = subst (λ (f : List ℕ). IsSyncedIn c (take_path f n)) folder_b is

    at_journal : IsSyncedIn c (journal_path (journals_folder b) n) → IsSyncedIn c (journal_path (journals_folder a) n)
    at_journal is = subst (λ (f : List ℕ). IsSyncedIn c (journal_path f n)) folder_b is

    still_take : IsSyncedIn b (take_path (journals_folder a) n) → IsSyncedIn c (take_path (journals_folder a) n)
    still_take is =
        at_take (second.take_stays (subst (λ (f : List ℕ). IsSyncedIn b (take_path f n)) (sym folder_b) is))

    still_journal : has_pending b n ≡ false → IsSyncedIn b (journal_path (journals_folder a) n) →
        IsSyncedIn c (journal_path (journals_folder a) n)
    still_journal e is =
        at_journal (second.stays e (subst (λ (f : List ℕ). IsSyncedIn b (journal_path f n)) (sym folder_b) is))

    pub name_then : CommitsName n a c
    name_then = record {
      first = λ w. go_first (has_pending b n) refl w (first.first w);
      still = λ w. go_still (has_pending b n) refl w;
      synced = λ w e. go_synced (has_pending b n) refl w e;
      take = λ w e t. go_take (has_pending b n) refl w e t;
      stays = λ e is. still_journal (fewer_one e) (first.stays e is);
      take_stays = λ is. still_take (first.take_stays is);
    }
      where
        go_first : (p : Bool) → has_pending b n ≡ p → IsTrue (writes_pending a n) →
            (journal_on_disk b n ≡ journal_on_disk a n) ⊎ IsSyncedIn b (take_path (journals_folder a) n) →
            (journal_on_disk c n ≡ journal_on_disk a n) ⊎ IsSyncedIn c (take_path (journals_folder a) n)
        go_first p e w (inr is) = inr (still_take is)
        go_first false e w (inl same) = inl (idle e ∙ same)
        go_first true e w (inl same) = more (second.first (first.still e ∙ w))
          where
            more : (journal_on_disk c n ≡ journal_on_disk b n) ⊎ IsSyncedIn c (take_path (journals_folder b) n) →
                (journal_on_disk c n ≡ journal_on_disk a n) ⊎ IsSyncedIn c (take_path (journals_folder a) n)
            more (inl later) = inl (later ∙ same)
            more (inr is) = inr (at_take is)

        go_still : (p : Bool) → has_pending b n ≡ p → IsTrue (has_pending c n) → writes_pending c n ≡ writes_pending a n
        go_still true e w = second.still w ∙ first.still e
        go_still false e w = absurd (both_ways (has_pending c n) w (fewer_two e))

        go_synced : (p : Bool) → has_pending b n ≡ p → IsTrue (has_pending a n) → has_pending c n ≡ false →
            IsSyncedIn c (journal_path (journals_folder a) n)
        go_synced true p w e = at_journal (second.synced p e)
        go_synced false p w e = still_journal p (first.synced w p)

        go_take : (p : Bool) → has_pending b n ≡ p → IsTrue (has_pending a n) → has_pending c n ≡ false →
            IsTrue (writes_pending a n) → IsSyncedIn c (take_path (journals_folder a) n)
        go_take true p w e t = at_take (second.take p e (first.still p ∙ t))
        go_take false p w e t = still_take (first.take w p t)

  -- a commit after one that succeeded
  pub commits_then : {T U E V : Type 0} (x : U) (answer : Result T E) (a b c : FolderJournal D F G) →
      CommitsNotes {T = U} {E = V} (Ok x) a b → CommitsNotes answer b c → CommitsNotes answer a c
  commits_then x answer a b c one two =
      let still : IsTrue (G.honest (journals_disk a)) → IsTrue (G.honest (journals_disk b)) =
      λ h. subst IsTrue (sym one.kept.honest) h in
      record {
        kept = kept_then a b c one.kept two.kept;
        fewer = λ n e. two.fewer n (one.fewer n e);
        names = λ h n. name_then a b c n one.kept two.kept (still h) (one.names h n) (two.names (still h) n)
            (one.fewer n) (two.fewer n);
        unmarked = on_ok_then answer (failed_sync_in a) (failed_sync_in b) (failed_sync_in c) one.unmarked two.unmarked;
        marked = marks two.marked;
        first = λ s. two.first (subst IsSome (sym (one.first s)) s) ∙ one.first s;
        stopped = λ s. two.stopped (subst IsSome (sym (one.first s)) s) ∙ one.stopped s;
      }
    where
      waited : (n : List ℕ) (p : Bool) → has_pending a n ≡ p → IsTrue (has_pending b n) → IsTrue (has_pending a n)
      waited n true e w = e
      waited n false e w = absurd (both_ways (has_pending b n) w (one.fewer n e))

      marks : (failed_sync_in c ≡ failed_sync_in b)
          ⊎ ((n : List ℕ) × IsTrue (has_pending b n) × (failed_sync_in c ≡ Some n)) →
          (failed_sync_in c ≡ failed_sync_in a)
          ⊎ ((n : List ℕ) × IsTrue (has_pending a n) × (failed_sync_in c ≡ Some n))
      marks (inl same) = inl (same ∙ one.unmarked)
      marks (inr (n, w, e)) = inr (n, waited n (has_pending a n) refl w, e)

-- A commit of one name, by what is pending before and after it.
module _ (sync : Bool) (all all' : List (List ℕ × UnwrittenNotes)) (folder name : List ℕ) (q : UnwrittenNotes)
    (before after : List ℕ → Option (List ℕ))
    (is : (n : List ℕ) → unwritten_of all' n ≡ cond (bytes_eq name n) q (unwritten_of all n))
    (others : KeepsOthers before after (journal_path folder name))
    (it : IsPending sync (unwritten_of all name) (notes_at before folder name)) where
  abbrev p : UnwrittenNotes
  p = unwritten_of all name

  -- of that name
  pub own : {T E : Type 0} (r : Result T E) → OnOk r (q.bytes ≡ []) → OnErr r (q ≡ p) →
      OnOk r (Written (notes_at before folder name) p.place p.bytes (notes_at after folder name)) →
      OnErr r (WrittenInPart (notes_at before folder name) p.place p.bytes (notes_at after folder name)) →
      Pends sync q (notes_at after folder name)
      × (noted_with q (notes_at after folder name) ≡ noted_with p (notes_at before folder name))
  own (Ok x) none kept w part = (
    inl none,
    noted_idle q (notes_at after folder name) (ap waits none)
        ∙ committed_all sync p (notes_at before folder name) (notes_at after folder name) it w,
  )
  own (Err e) none kept w part = (
    inr (subst (λ (x : UnwrittenNotes). IsPending sync x (notes_at after folder name)) (sym kept)
        (committed_part sync p (notes_at before folder name) (notes_at after folder name) it part)),
    ap (λ (x : UnwrittenNotes). noted_with x (notes_at after folder name)) kept
        ∙ noted_part sync p (notes_at before folder name) (notes_at after folder name) it part,
  )

  -- of each name the same is noted
  pub noted_all : noted_with q (notes_at after folder name) ≡ noted_with p (notes_at before folder name) →
      (n : List ℕ) → noted_at all' after folder n ≡ noted_at all before folder n
  noted_all same n = go (bytes_eq name n) refl
    where
      go : (b : Bool) → bytes_eq name n ≡ b → noted_at all' after folder n ≡ noted_at all before folder n
      go true e =
          ap (λ (x : UnwrittenNotes). noted_with x (notes_at after folder n)) (is n ∙ ap (λ (b : Bool). cond b q (unwritten_of all n)) e)
          ∙ subst (λ (k : List ℕ). noted_with q (notes_at after folder k) ≡ noted_at all before folder k) (same_name name n e) same
      go false e =
          ap (λ (x : UnwrittenNotes). noted_with x (notes_at after folder n)) (is n ∙ ap (λ (b : Bool). cond b q (unwritten_of all n)) e)
          ∙ ap (noted_with (unwritten_of all n)) (others (journal_path folder n) (far folder name n e))

-- nothing more becomes pending
pub fewer_of : (all all' : List (List ℕ × UnwrittenNotes)) (name : List ℕ) (q : UnwrittenNotes) →
    ((n : List ℕ) → unwritten_of all' n ≡ cond (bytes_eq name n) q (unwritten_of all n)) →
    IsTrue (waits (unwritten_of all name).bytes) → (n : List ℕ) → waits (unwritten_of all n).bytes ≡ false →
    waits (unwritten_of all' n).bytes ≡ false
fewer_of all all' name q is waiting n idle = go (bytes_eq name n) refl
  where
    go : (b : Bool) → bytes_eq name n ≡ b → waits (unwritten_of all' n).bytes ≡ false
    go true e =
        absurd (both_ways (waits (unwritten_of all n).bytes)
        (ap (λ (k : List ℕ). waits (unwritten_of all k).bytes) (sym (same_name name n e)) ∙ waiting) idle)
    go false e =
        ap (λ (p : UnwrittenNotes). waits p.bytes) (is n ∙ ap (λ (b : Bool). cond b q (unwritten_of all n)) e) ∙ idle

-- A loop over all names.

-- nothing is pending of any name if nothing is of each that is open
pub all_idle : {F : Type 0} (js : List (OpenJournal F)) →
    ((k : ℕ) (e : List ℕ × Bool) → slice_get (existences js) k ≡ Some e → waits (unwritten_of (pendings js) e.0).bytes ≡ false) →
    (n : List ℕ) → waits (unwritten_of (pendings js) n).bytes ≡ false
all_idle [] idle n = refl
all_idle {F} (x ∷ xs) idle n = go (position has (x ∷ xs)) refl
  where
    has : OpenJournal F → Bool
    has j = bytes_eq j.name n

    go : (r : Option ℕ) → position has (x ∷ xs) ≡ r → waits (unwritten_of (pendings (x ∷ xs)) n).bytes ≡ false
    go None e = ap (λ (p : UnwrittenNotes). waits p.bytes) (pending_none (x ∷ xs) n (ap is_some e))
    go (Some i) e =
        let at = position-Some has (x ∷ xs) i x e in
        let j : OpenJournal F = get_or (x ∷ xs) i x in
        let there : slice_get (existences (x ∷ xs)) i ≡ Some (j.name, j.existed) =
        slice_get-map (λ (j : OpenJournal F). (j.name, j.existed)) (x ∷ xs) i
        ∙ ap (option_map (λ (j : OpenJournal F). (j.name, j.existed))) (slice_get-get_or (x ∷ xs) i x at.0) in
        ap (λ (k : List ℕ). waits (unwritten_of (pendings (x ∷ xs)) k).bytes) (sym (same_name j.name n at.1))
        ∙ idle i (j.name, j.existed) there

module _ {D F : Type 0} {G : Ghosts D F} where
  -- the first of the open journals are committed
  pub record IsCommittedTo (count : ℕ) (old new : FolderJournal D F G) : Type 0 where
    pub commits : CommitsNotes {T = Unit {0}} {E = Unit {0}} (Ok tt) old new
    pub idle : (k : ℕ) (e : List ℕ × Bool) → k < count → slice_get (open_journals new) k ≡ Some e →
        has_pending new e.0 ≡ false

  -- none yet
  pub committed_none : (j : FolderJournal D F G) → IsCommittedTo 0 j j
  committed_none j = record {
    commits = commits_none (Ok tt) j;
    idle = λ k e less. absurd (omega (arith, less));
  }

  -- one more
  pub committed_next : (count : ℕ) (old mid new : FolderJournal D F G) (it : List ℕ × Bool) →
      slice_get (open_journals mid) count ≡ Some it → IsCommittedTo count old mid →
      CommitsNotes {T = Unit {0}} {E = Unit {0}} (Ok tt) mid new → has_pending new it.0 ≡ false → IsCommittedTo (suc count) old new
  committed_next count old mid new it here so_far one done = record {
    commits = commits_then tt (Ok tt) old mid new so_far.commits one;
    idle = λ k e less at. go k e (nat_lt k count) refl less
        (ap (λ (known : List (List ℕ × Bool)). slice_get known k) (sym one.kept.journals) ∙ at);
  }
    where
      go : (k : ℕ) (e : List ℕ × Bool) (b : Bool) → nat_lt k count ≡ b → k < suc count →
          slice_get (open_journals mid) k ≡ Some e → has_pending new e.0 ≡ false
      go k e true is less at = one.fewer e.0 (so_far.idle k e (ltb-true k count is) at)
      go k e false is less at =
          let same : k ≡ count = (let no = ltb-false k count is in omega (arith, no, less)) in
          let eq : it ≡ e = some_inj (sym here ∙ ap (slice_get (open_journals mid)) (sym same) ∙ at) in
          ap (λ (x : List ℕ × Bool). has_pending new x.0) (sym eq) ∙ done

  -- all
  pub committed_whole : (count : ℕ) (old new : FolderJournal D F G) → IsCommittedTo count old new →
      length old.journals.items ≤ count → IsAllCommitted new
  committed_whole count old new it long = all_idle new.journals.items (λ k e at.
      let within : k < length (open_journals new) = slice_get_within (open_journals new) k e at in
      let same : length (open_journals new) ≡ length old.journals.items =
      ap length it.commits.kept.journals ∙ length-map old.journals.items (λ (j : OpenJournal F). (j.name, j.existed)) in
      it.idle k e (omega (arith, within, same, long)) at)

-- The same of one name, on a disk that is synced in order.
module _ {T E D F : Type 0} (G : Ghosts D F) (r : Result T E) (all all' : List (List ℕ × UnwrittenNotes)) (folder name : List ℕ)
    (q : UnwrittenNotes) (old new : D)
    (is : (n : List ℕ) → unwritten_of all' n ≡ cond (bytes_eq name n) q (unwritten_of all n))
    (others : KeepsOthers (G.contents old) (G.contents new) (journal_path folder name))
    (waiting : IsTrue (waits (unwritten_of all name).bytes))
    (none : OnOk r (q.bytes ≡ [])) (kept : OnErr r (q ≡ unwritten_of all name))
    (syncs : SyncsInOrder G (unwritten_of all name).writes r (take_path folder name) (journal_path folder name) old new) where
  abbrev synced : List ℕ → Type 0
  synced path = IsSyncedAt (G.contents new) (G.synced new) path

  abbrev was_synced : List ℕ → Type 0
  was_synced path = IsSyncedAt (G.contents old) (G.synced old) path

  -- what is said of each name
  pub record OfName (n : List ℕ) (after : UnwrittenNotes) : Type 0 where
    pub first : IsTrue (unwritten_of all n).writes →
        (notes_at (G.contents new) folder n ≡ notes_at (G.contents old) folder n) ⊎ synced (take_path folder n)
    pub still : IsTrue (waits after.bytes) → after.writes ≡ (unwritten_of all n).writes
    pub written : IsTrue (waits (unwritten_of all n).bytes) → waits after.bytes ≡ false → synced (journal_path folder n)
    pub take : IsTrue (waits (unwritten_of all n).bytes) → waits after.bytes ≡ false →
        IsTrue (unwritten_of all n).writes → synced (take_path folder n)
    pub stays : waits (unwritten_of all n).bytes ≡ false → was_synced (journal_path folder n) → synced (journal_path folder n)
    pub take_stays : was_synced (take_path folder n) → synced (take_path folder n)

  take_same : (n : List ℕ) → G.contents new (take_path folder n) ≡ G.contents old (take_path folder n)
  take_same n = others (take_path folder n) (paths_apart folder n name)

  on_own : OfName name q
  on_own = record {
    first = λ w. change (syncs.first w);
    still = λ w. go_still r none kept w;
    written = λ w e. go_synced r none kept syncs.journal e;
    take = λ w e t. go_synced r none kept (syncs.take t) e;
    stays = λ e s. absurd (both_ways (waits (unwritten_of all name).bytes) waiting e);
    take_stays = λ s. syncs.stays (take_path folder name) (take_same name) s;
  }
    where
      change : KeepsEach (G.contents old) (G.contents new) ⊎ synced (take_path folder name) →
          (notes_at (G.contents new) folder name ≡ notes_at (G.contents old) folder name) ⊎ synced (take_path folder name)
      change (inl same) = inl (same (journal_path folder name))
      change (inr s) = inr s

      go_still : (r : Result T E) → OnOk r (q.bytes ≡ []) → OnErr r (q ≡ unwritten_of all name) → IsTrue (waits q.bytes) →
          q.writes ≡ (unwritten_of all name).writes
      go_still (Ok x) none kept w = absurd (both_ways (waits q.bytes) w (ap waits none))
      go_still (Err e) none kept w = ap (λ (x : UnwrittenNotes). x.writes) kept

      go_synced : {P : Type 0} (r : Result T E) → OnOk r (q.bytes ≡ []) → OnErr r (q ≡ unwritten_of all name) → OnOk r P →
          waits q.bytes ≡ false → P
      go_synced (Ok x) none kept p e = p
      go_synced (Err f) none kept p e =
          absurd (both_ways (waits q.bytes) (ap (λ (x : UnwrittenNotes). waits x.bytes) kept ∙ waiting) e)

  on_other : (n : List ℕ) → bytes_eq name n ≡ false → OfName n (unwritten_of all n)
  on_other n apart =
      let same : notes_at (G.contents new) folder n ≡ notes_at (G.contents old) folder n =
      others (journal_path folder n) (far folder name n apart) in
      record {
        first = λ w. inl same;
        still = λ w. refl;
        written = λ w e. absurd (both_ways (waits (unwritten_of all n).bytes) w e);
        take = λ w e t. absurd (both_ways (waits (unwritten_of all n).bytes) w e);
        stays = λ e s. syncs.stays (journal_path folder n) same s;
        take_stays = λ s. syncs.stays (take_path folder n) (take_same n) s;
      }

  pub of_each : (n : List ℕ) → OfName n (unwritten_of all' n)
  of_each n = go (bytes_eq name n) refl
    where
      go : (b : Bool) → bytes_eq name n ≡ b → OfName n (unwritten_of all' n)
      go true e = subst (OfName n) (sym (is n ∙ ap (λ (b : Bool). cond b q (unwritten_of all n)) e))
          (subst (λ (k : List ℕ). OfName k q) (same_name name n e) on_own)
      go false e = subst (OfName n) (sym (is n ∙ ap (λ (b : Bool). cond b q (unwritten_of all n)) e)) (on_other n e)
