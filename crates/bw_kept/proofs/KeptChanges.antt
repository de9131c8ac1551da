-- A name leaves a server's table, or comes into it, or changes outside it: the folder's book stays.
use Rattle.std.proofs.Common.{◌≡◌, inl, inr, ℕ, ◌<◌, ◌≤◌, ◌^◌, Bool, true, false, cond, not, ◌||◌, ◌&&◌, List, ◌∷◌}
use Rattle.std.proofs.Common.{Option, Some, None, is_some, refl, sym, ◌∙◌, ap, subst}
use Rattle.std.specs.Prelude.{IsTrue, option_map}
use Rattle.std.specs.Str.{bytes_eq}
use Rattle.bw_model.specs.Wire.{is_name}
use Rattle.bw_model.specs.Book.{Log, Book, log_of, is_known}
use Rattle.bw_model.proofs.BookLemmas.{name_refl, same_name}
use Rattle.bw_store.specs.declared.store.TakeStore.{Ghosts as StoreGhosts}
use Rattle.bw_journal.specs.JournalHeaders.{Header}
use Rattle.bw_journal.specs.NotedJournals.{journal_of}
use Rattle.bw_journal.specs.Stops.{without}
use Rattle.bw_journal.specs.declared.journal.Journal.{Ghosts as JournalGhosts}
use Rattle.bw_journal.proofs.CutLaws.{log-without_other, known-without_same, known-without_other}
use Rattle.bw_session.specs.Books.{count_waiting}
use Rattle.bw_session.specs.TableChanges.{with_first}
use Rattle.bw_session.specs.SeenServers.{session_kept}
use Rattle.bw_session.specs.WriteOrders.{file_due}
use Rattle.bw_session.specs.declared.kept_take.KeptTake.{KeptTake}
use Rattle.bw_session.specs.Servers.{kept_by}
use Rattle.bw_session.specs.declared.session.Session.{Session}
use Rattle.bw_session.specs.declared.server.Server.{Server}
use Rattle.bw_session.proofs.ServerForms.{apart_names}
use Rattle.bw_session.specs.TableChanges.{with_asleep, ForgetsBook, ForgetsNow, InsertsBook, InsertsNow, IsOfLog}
use Rattle.bw_session.specs.TableChanges.{ChangesUnder, IsUnbegun, KeepsBook, NamesOutsideMayChange}
use Rattle.bw_kept.specs.KeptFolders.{HoldsBeside, HoldsKept, HoldsReady, IsInTable, StaysOutOfTable}
use Rattle.bw_kept.specs.DiskNotes.{IsCommittedName}
use Rattle.bw_kept.proofs.DiskForms.{no_less, on_disk_all}
use Rattle.bw_kept.proofs.KeptForms.{never, notes_less, outside_as, outside_whole, beside_less}
use Rattle.bw_kept.proofs.ChangeForms.{and_false, asleep_else, asleep_there, done_known, first_else, first_there, known_log, known_not}
use Rattle.bw_kept.proofs.ChangeForms.{whole_left}

module _ {X Y : Type 0} (S : StoreGhosts X) (J : JournalGhosts Y) (old new : Server X Y S J)
    (first : List ℕ → Option (List ℕ)) (book : Book) (h : HoldsKept S J first old book)
    (honest : IsTrue (S.honest old.stores.store)) (honest_notes : IsTrue (J.honest old.stores.journal)) where
  abbrev asleep : List ℕ → Bool
  asleep n = not (is_known h.table n || false)

  -- what lies outside the table afterwards
  abbrev IsOut : List ℕ → Type 0
  IsOut n = StaysOutOfTable new.limit (first n) n (log_of book n) (J.committed new.stores.journal n)
      (J.notes new.stores.journal n) (S.contents new.stores.store n)

  awake_known : (n : List ℕ) → is_known h.table n ≡ true → asleep n ≡ false
  awake_known n e = ap not (ap (λ (b : Bool). b || false) e)

  -- a name leaves the table
  pub forgotten : (name : List ℕ) → ForgetsNow S J name old new → IsCommittedName J name old.stores.journal →
      HoldsKept S J first new book
  forgotten name f committed = record {
    table = without name h.table;
    now = with_first h.now name content;
    held = b.held;
    noted = notes_less S J (with_asleep asleep name true) (λ n. not (is_known (without name h.table) n || false))
        (with_first h.now name content) new (without name h.table) (λ n e. awake_then n (known_not _ e)) b.noted;
    ordered = b.ordered h.ordered;
    small = subst (λ (v : ℕ). v < 2 ^ 32) (sym f.others.limit) h.small;
    folder = ap J.folder f.journal ∙ h.folder ∙ sym (ap S.folder f.others.store);
    limits = λ n. ap (λ (y : Y). (J.header y n).limit) f.journal ∙ h.limits n ∙ sym f.others.limit;
    each = h.each;
    inside = λ n e. inside n e (bytes_eq name n) refl;
    outside = λ n named e. outside n named e (bytes_eq name n) refl;
    ready = λ n unknown is. never is;
  }
    where
      content : Option (List ℕ)
      content = S.contents old.stores.store name

      b : ForgetsBook S J asleep h.now name old new h.table
      b = f.forgets honest honest_notes asleep h.now h.table h.held h.noted

      known : is_known h.table name ≡ true
      known = done_known h.table name b.some_done

      there : IsInTable (is_known book name) (log_of book name) (log_of h.table name) (first name) (h.now name)
      there = h.inside name known

      log : log_of h.table name ≡ log_of book name
      log = sym there.same_log

      -- what is known then isn't the name, and was known
      other_then : (n : List ℕ) → is_known (without name h.table) n ≡ true → bytes_eq name n ≡ false
      other_then n e = go (bytes_eq name n) refl
        where
          go : (v : Bool) → bytes_eq name n ≡ v → bytes_eq name n ≡ false
          go true same = never (sym (known-without_same h.table name n same) ∙ e)
          go false apart = apart

      awake_then : (n : List ℕ) → is_known (without name h.table) n ≡ true → with_asleep asleep name true n ≡ false
      awake_then n e =
          let apart = other_then n e in
          asleep_else asleep name true n apart
          ∙ awake_known n (sym (known-without_other h.table name n apart) ∙ e)

      inside : (n : List ℕ) → is_known (without name h.table) n ≡ true → (v : Bool) → bytes_eq name n ≡ v →
          IsInTable (is_known book n) (log_of book n) (log_of (without name h.table) n) (first n)
          (with_first h.now name content n)
      inside n e true same = never (sym (known-without_same h.table name n same) ∙ e)
      inside n e false apart =
          let other = h.inside n (sym (known-without_other h.table name n apart) ∙ e) in
          record {
            known_there = other.known_there;
            same_log = other.same_log ∙ sym (log-without_other h.table name n apart);
            same_first = first_else h.now name content n apart ∙ other.same_first;
          }

      -- the name itself
      here : IsOut name
      here =
          outside_as old.limit new.limit (first name) name (log_of book name) (log_of book name)
          (J.committed old.stores.journal name) (J.committed new.stores.journal name)
          (J.notes old.stores.journal name) (J.notes new.stores.journal name) content (S.contents new.stores.store name)
          f.others.limit refl
          (no_less (J.committed old.stores.journal name) (J.committed new.stores.journal name)
          (ap (λ (y : Y). J.committed y name) f.journal))
          (ap (λ (y : Y). J.notes y name) f.journal) (ap (λ (x : X). S.contents x name) f.others.store)
          (outside_whole old.limit (first name) name (log_of book name) (J.committed old.stores.journal name)
          (J.notes old.stores.journal name) content
          (λ found on. on_disk_all (J.committed old.stores.journal name) (J.notes old.stores.journal name) found committed on)
          (record {
            quiet = ap count_waiting there.same_log ∙ b.quiet;
            lies = inl (whole_left old.limit (first name) name (log_of book name) (J.header old.stores.journal name)
                (J.notes old.stores.journal name) content
                (h.each.logs name there.known_there).fits (h.limits name)
                (h.noted.existed name (awake_known name known) ∙ ap is_some there.same_first)
                (b.journal ∙ ap (λ (l : Log). Some (journal_of (J.header old.stores.journal name) name l)) log)
                (b.file ∙ ap (λ (l : Log). file_due (h.now name) l old.limit) log
                ∙ ap (λ (o : Option (List ℕ)). file_due o (log_of book name) old.limit) there.same_first));
          }))

      outside : (n : List ℕ) → IsTrue (is_name n) → is_known (without name h.table) n ≡ false → (v : Bool) →
          bytes_eq name n ≡ v → IsOut n
      outside n named e true same = subst IsOut (same_name name n same) here
      outside n named e false apart =
          outside_as old.limit new.limit (first n) n (log_of book n) (log_of book n)
          (J.committed old.stores.journal n) (J.committed new.stores.journal n)
          (J.notes old.stores.journal n) (J.notes new.stores.journal n) (S.contents old.stores.store n)
          (S.contents new.stores.store n) f.others.limit refl (no_less (J.committed old.stores.journal n)
          (J.committed new.stores.journal n) (ap (λ (y : Y). J.committed y n) f.journal))
          (ap (λ (y : Y). J.notes y n) f.journal) (ap (λ (x : X). S.contents x n) f.others.store)
          (h.outside n named (sym (known-without_other h.table name n apart) ∙ e))

  -- a name comes into the table
  pub inserted : (take : KeptTake) → InsertsNow S J take old new →
      IsOfLog old.limit (first take.name) (log_of book take.name) (J.header old.stores.journal take.name) take
      (J.notes old.stores.journal take.name) (S.contents old.stores.store take.name) →
      HoldsKept S J first new book
  inserted take i o = record {
    table = table;
    now = now;
    held = b.held;
    noted = notes_less S J (with_asleep asleep name false) (λ n. not (is_known table n || false)) now new table
        (λ n e. awake_then n (known_not _ e)) b.noted;
    ordered = b.ordered h.ordered;
    small = subst (λ (v : ℕ). v < 2 ^ 32) (sym i.others.limit) h.small;
    folder = ap J.folder i.journal ∙ h.folder ∙ sym (ap S.folder i.others.store);
    limits = λ n. ap (λ (y : Y). (J.header y n).limit) i.journal ∙ h.limits n ∙ sym i.others.limit;
    each = h.each;
    inside = λ n e. inside n e (bytes_eq name n) refl;
    outside = λ n named e. outside n named e (bytes_eq name n) refl;
    ready = λ n unknown is. never is;
  }
    where
      name : List ℕ
      name = take.name

      log : Log
      log = log_of book name

      table : Book
      table = (name, log) ∷ h.table

      now : List ℕ → Option (List ℕ)
      now = with_first h.now name (first name)

      b : InsertsBook S J asleep h.now (first name) name log old new h.table
      b = i.inserts honest honest_notes asleep h.now h.table (first name) log h.held h.noted o

      known_else : (n : List ℕ) → bytes_eq name n ≡ false → is_known table n ≡ is_known h.table n
      known_else n apart = ap (λ (v : Bool). v || is_known h.table n) apart

      awake_then : (n : List ℕ) → is_known table n ≡ true → with_asleep asleep name false n ≡ false
      awake_then n e = go (bytes_eq name n) refl
        where
          go : (v : Bool) → bytes_eq name n ≡ v → with_asleep asleep name false n ≡ false
          go true same = asleep_there asleep name false n same
          go false apart =
              asleep_else asleep name false n apart ∙ awake_known n (sym (known_else n apart) ∙ e)

      inside : (n : List ℕ) → is_known table n ≡ true → (v : Bool) → bytes_eq name n ≡ v →
          IsInTable (is_known book n) (log_of book n) (log_of table n) (first n) (now n)
      inside n e true same =
          subst (λ (x : List ℕ). IsInTable (is_known book x) (log_of book x) (log_of table x) (first x) (now x))
          (same_name name n same)
          (record {
            known_there = known_log book name o.is_log;
            same_log = sym (ap (λ (v : Bool). cond v log (log_of h.table name)) (name_refl name));
            same_first = first_there h.now name (first name);
          })
      inside n e false apart =
          let other = h.inside n (sym (known_else n apart) ∙ e) in
          record {
            known_there = other.known_there;
            same_log = other.same_log ∙ sym (ap (λ (v : Bool). cond v log (log_of h.table n)) apart);
            same_first = first_else h.now name (first name) n apart ∙ other.same_first;
          }

      outside : (n : List ℕ) → IsTrue (is_name n) → is_known table n ≡ false → (v : Bool) → bytes_eq name n ≡ v →
          IsOut n
      outside n named e true same = never (sym e ∙ ap (λ (v : Bool). v || is_known h.table n) same)
      outside n named e false apart =
          outside_as old.limit new.limit (first n) n (log_of book n) (log_of book n)
          (J.committed old.stores.journal n) (J.committed new.stores.journal n)
          (J.notes old.stores.journal n) (J.notes new.stores.journal n) (S.contents old.stores.store n)
          (S.contents new.stores.store n) i.others.limit refl (no_less (J.committed old.stores.journal n)
          (J.committed new.stores.journal n) (ap (λ (y : Y). J.committed y n) i.journal))
          (ap (λ (y : Y). J.notes y n) i.journal)
          (ap (λ (x : X). S.contents x n) i.others.store) (h.outside n named (sym (known_else n apart) ∙ e))

  -- What lies under a name outside the table changes: it is asleep afterwards, or awake.
  module _ (name : List ℕ) (value : Bool) (moves : ChangesUnder S J name old new) (gone : session_kept old name ≡ None)
      (may : NamesOutsideMayChange S J) (folder : J.folder new.stores.journal ≡ J.folder old.stores.journal)
      (store_folder : S.folder new.stores.store ≡ S.folder old.stores.store)
      (limit : (J.header new.stores.journal name).limit ≡ new.limit)
      (unbegun : value ≡ false → IsUnbegun S J name new)
      (ready : value ≡ false → (is_known book name ≡ false) × (S.contents new.stores.store name ≡ first name))
      (no_fewer : (n : List ℕ) → bytes_eq name n ≡ false → J.committed old.stores.journal n ≤ J.committed new.stores.journal n)
      (out : IsOut name) where
    abbrev pub content : Option (List ℕ)
    content = S.contents new.stores.store name

    abbrev pub now' : List ℕ → Option (List ℕ)
    now' = with_first h.now name content

    abbrev pub awake' : List ℕ → Bool
    awake' n = bytes_eq name n && not value

    b' : KeepsBook S J (with_asleep asleep name value) now' new h.table
    b' = may old new name value moves gone honest asleep h.now h.table h.held h.noted h.ordered unbegun

    unknown : is_known h.table name ≡ false
    unknown = h.held.holds.names name ∙ ap (λ (o : Option Session). is_some (option_map kept_by o)) gone

    others_stay : (n : List ℕ) → bytes_eq name n ≡ false → IsTrue (is_name n) → is_known h.table n ≡ false →
        IsOut n
    others_stay n apart named e =
        outside_as old.limit new.limit (first n) n (log_of book n) (log_of book n)
        (J.committed old.stores.journal n) (J.committed new.stores.journal n)
        (J.notes old.stores.journal n) (J.notes new.stores.journal n) (S.contents old.stores.store n)
        (S.contents new.stores.store n) moves.limit refl (no_fewer n apart) (moves.notes n (apart_names name n apart))
        (moves.contents n (apart_names name n apart)) (h.outside n named e)

    pub moved : HoldsBeside S J awake' first new book
    moved = record {
      table = h.table;
      now = now';
      held = b'.held;
      noted = notes_less S J (with_asleep asleep name value) (λ n. not (is_known h.table n || awake' n)) now' new h.table
          (λ n e. awake_then n e (bytes_eq name n) refl) b'.noted;
      ordered = b'.ordered;
      small = subst (λ (v : ℕ). v < 2 ^ 32) (sym moves.limit) h.small;
      folder = folder ∙ h.folder ∙ sym store_folder;
      limits = λ n. limits n (bytes_eq name n) refl;
      each = h.each;
      inside = λ n e. inside n e (bytes_eq name n) refl;
      outside = λ n named e. outside n named e (bytes_eq name n) refl;
      ready = λ n e is. ready_then n is (bytes_eq name n) refl;
    }
      where
        awake_then : (n : List ℕ) → not (is_known h.table n || awake' n) ≡ false → (v : Bool) → bytes_eq name n ≡ v →
            with_asleep asleep name value n ≡ false
        awake_then n e true same = asleep_there asleep name value n same ∙ by_value value refl
          where
            here : is_known h.table n ≡ false
            here = ap (is_known h.table) (sym (same_name name n same)) ∙ unknown

            by_value : (w : Bool) → value ≡ w → value ≡ false
            by_value false is = is
            by_value true is =
                never (sym e ∙ ap not (ap (λ (k : Bool). k || awake' n) here
                ∙ ap (λ (k : Bool). false || (bytes_eq name n && not k)) is ∙ and_false (bytes_eq name n)))
        awake_then n e false apart =
            asleep_else asleep name value n apart
            ∙ ap not (ap (λ (k : Bool). is_known h.table n || k) (sym (ap (λ (k : Bool). k && not value) apart))) ∙ e

        limits : (n : List ℕ) (v : Bool) → bytes_eq name n ≡ v → (J.header new.stores.journal n).limit ≡ new.limit
        limits n true same =
            subst (λ (x : List ℕ). (J.header new.stores.journal x).limit ≡ new.limit) (same_name name n same) limit
        limits n false apart =
            ap (λ (x : Header). x.limit) (moves.headers n (apart_names name n apart)) ∙ h.limits n ∙ sym moves.limit

        inside : (n : List ℕ) → is_known h.table n ≡ true → (v : Bool) → bytes_eq name n ≡ v →
            IsInTable (is_known book n) (log_of book n) (log_of h.table n) (first n) (now' n)
        inside n e true same =
            never (sym (ap (is_known h.table) (sym (same_name name n same)) ∙ unknown) ∙ e)
        inside n e false apart =
            let other = h.inside n e in
            record {
              known_there = other.known_there;
              same_log = other.same_log;
              same_first = first_else h.now name content n apart ∙ other.same_first;
            }

        outside : (n : List ℕ) → IsTrue (is_name n) → is_known h.table n ≡ false → (v : Bool) → bytes_eq name n ≡ v →
            IsOut n
        outside n named e true same = subst IsOut (same_name name n same) out
        outside n named e false apart = others_stay n apart named e

        ready_then : (n : List ℕ) → awake' n ≡ true → (v : Bool) → bytes_eq name n ≡ v →
            (is_known book n ≡ false) × (now' n ≡ first n)
        ready_then n is true same =
            let r = ready (by_value value refl (sym (ap (λ (k : Bool). k && not value) same) ∙ is)) in
            subst (λ (x : List ℕ). (is_known book x ≡ false) × (now' x ≡ first x)) (same_name name n same)
            (r.0, first_there h.now name content ∙ r.1)
          where
            by_value : (w : Bool) → value ≡ w → not value ≡ true → value ≡ false
            by_value false e x = e
            by_value true e x = never (ap not (sym e) ∙ x)
        ready_then n is false apart = never (sym (ap (λ (k : Bool). k && not value) apart) ∙ is)

    -- asleep afterwards
    pub moved_asleep : value ≡ true → HoldsKept S J first new book
    moved_asleep is =
        beside_less S J first new book awake' (λ n. false) moved (λ n e. never e)

    -- awake afterwards
    pub moved_awake : value ≡ false → HoldsReady S J name first new book
    moved_awake is =
        beside_less S J first new book awake' (λ n. bytes_eq name n) moved
        (λ n e. inr (ap (λ (k : Bool). k && not value) e ∙ ap not is))
