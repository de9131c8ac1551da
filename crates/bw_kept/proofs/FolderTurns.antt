-- A frame is served over a folder.
use Rattle.std.proofs.Common.{◌≡◌, ℕ, ◌<◌, ◌^◌, Bool, true, false, ◌&&◌, ◌||◌, not, List, Option, Some, None}
use Rattle.std.proofs.Common.{refl, sym, ◌∙◌, ap, subst, ◌⊎◌, inl, inr}
use Rattle.std.specs.Prelude.{IsTrue, is_some, option_map, nat_lt, ◌==◌}
use Rattle.std.specs.Option.{option_map_or}
use Rattle.std.specs.Str.{bytes_eq}
use Rattle.bw_model.specs.Counts.{Counts}
use Rattle.bw_model.specs.Wire.{Message, Frame, Says, Asks, Bye, is_name}
use Rattle.bw_model.specs.Replies.{Reply}
use Rattle.bw_model.specs.Book.{Log, Book, log_of, is_known, with_log}
use Rattle.bw_model.specs.BookRules.{IsLog}
use Rattle.bw_model.specs.Turn.{Faults, with_change, is_full}
use Rattle.bw_model.specs.CountedTurn.{is_pending, stops_short}
use Rattle.bw_model.proofs.BookLemmas.{name_refl, same_name, unknown_log, log-with_log_same, log-with_log_other}
use Rattle.bw_model.proofs.BookLemmas.{known-with_log_same, known-with_log_other}
use Rattle.bw_store.specs.declared.store.TakeStore.{Ghosts as StoreGhosts}
use Rattle.bw_journal.specs.JournalHeaders.{Header}
use Rattle.bw_journal.specs.declared.journal.Journal.{Ghosts as JournalGhosts}
use Rattle.bw_session.specs.Books.{failures_of, HoldsBook, OrdersBook, count_waiting}
use Rattle.bw_session.specs.Servers.{kept_by, store_since}
use Rattle.bw_session.specs.ServerTurns.{ServerTurn, TurnsOn, AsksStoreFor}
use Rattle.bw_session.specs.Tables.{session_in}
use Rattle.bw_session.specs.declared.session.Session.{Session}
use Rattle.bw_session.specs.declared.server.Server.{Server}
use Rattle.bw_session.specs.Books.{NotesAwake}
use Rattle.bw_session.specs.TableChanges.{is_forgettable, forgettable_kept}
use Rattle.bw_kept.specs.KeptTurns.{HasPlace, NoneMayLeave}
use Rattle.bw_kept.specs.FolderRuns.{name_of_frame, turn_where, stops_where, ServesFrame, HasNoPlace, ends_with_request, may_leave}
use Rattle.bw_kept.specs.KeptFolders.{HoldsKept, HoldsReady, IsInTable, StaysOutOfTable}
use Rattle.bw_session.proofs.TableForms.{forgettable_reported}
use Rattle.bw_kept.proofs.LogEnds.{change_ends}
use Rattle.bw_session.proofs.ServerForms.{apart_names}
use Rattle.bw_kept.proofs.KeptForms.{never, outside_as, unknown_lies, notes_less}
use Rattle.bw_kept.proofs.WhereTurns.{full_changes, later_where, replies_where, room_same, same_turn, stops_same, where_ends}

-- A name of which a folder's book says what a table's book does.
record SaysTheSame (book table : Book) (first now : List ℕ → Option (List ℕ)) (name : List ℕ) : Type 0 where
  known : is_known book name ≡ is_known table name
  log : log_of book name ≡ log_of table name
  same : now name ≡ first name

no_session : (o : Option Session) → is_some (option_map kept_by o) ≡ false → o ≡ None
no_session None e = refl
no_session (Some s) e = never (sym e)

-- What a frame's turn asks of other names: their notes, headers and files stay, and so do the folders.
record KeepsOthersOf {X Y : Type 0} (S : StoreGhosts X) (J : JournalGhosts Y) (name : List ℕ)
    (old new : Server X Y S J) : Type 0 where
  notes : (n : List ℕ) → bytes_eq name n ≡ false → J.notes new.stores.journal n ≡ J.notes old.stores.journal n
  files : (n : List ℕ) → bytes_eq name n ≡ false → S.contents new.stores.store n ≡ S.contents old.stores.store n
  headers : (n : List ℕ) → J.header new.stores.journal n ≡ J.header old.stores.journal n
  folder : J.folder new.stores.journal ≡ J.folder old.stores.journal
  store_folder : S.folder new.stores.store ≡ S.folder old.stores.store

others_of : {X Y : Type 0} (S : StoreGhosts X) (J : JournalGhosts Y) (old new : Server X Y S J) (f : Frame)
    (failed : Bool) → IsTrue (S.honest old.stores.store) → IsTrue (J.honest old.stores.journal) →
    AsksStoreFor S J f failed old new → KeepsOthersOf S J (name_of_frame f) old new
others_of S J old new (Says m) failed honest honest_notes asks = record {
  notes = λ n b. asks.both.other_notes honest_notes n (apart_names m.name n b);
  files = λ n b. asks.both.others honest n (apart_names m.name n b);
  headers = λ n. asks.both.headers honest_notes n;
  folder = asks.both.places.of_journal;
  store_folder = asks.both.places.of_store;
}
others_of S J old new (Asks name n) failed honest honest_notes asks = record {
  notes = λ n b. ap (λ (s : Server _ _ S J). J.notes s.stores.journal n) asks;
  files = λ n b. ap (λ (s : Server _ _ S J). S.contents s.stores.store n) asks;
  headers = λ n. ap (λ (s : Server _ _ S J). J.header s.stores.journal n) asks;
  folder = ap (λ (s : Server _ _ S J). J.folder s.stores.journal) asks;
  store_folder = ap (λ (s : Server _ _ S J). S.folder s.stores.store) asks;
}
others_of S J old new Bye failed honest honest_notes asks = absurd asks

either : (a b : Bool) → b ≡ true → a || b ≡ true
either true b e = refl
either false b e = e

known_not : (a : Bool) → not (a || false) ≡ false → a ≡ true
known_not true e = refl
known_not false e = never (sym e)

some_session : (o : Option Session) → is_some (option_map kept_by o) ≡ true → (s : Session) × (o ≡ Some s)
some_session None e = never e
some_session (Some s) e = (s, refl)

-- A server of which no name may be forgotten, and whose table is full, has no place.
pub no_place_of : {X Y : Type 0} (S : StoreGhosts X) (J : JournalGhosts Y) (now : List ℕ → Option (List ℕ))
    (s : Server X Y S J) (table : Book) → HoldsBook S J now s table → NoneMayLeave S J s → is_full table ≡ true →
    HasNoPlace table
no_place_of S J now s table held none full = record { full = full; none = λ n known. rests n known }
  where
    rests : (n : List ℕ) → is_known table n ≡ true → may_leave (log_of table n) ≡ false
    rests n known =
        let found = some_session (session_in s.sessions n) (sym (held.holds.names n) ∙ known) in
        let reported : is_forgettable found.0 ≡ may_leave (log_of table n) =
        forgettable_reported s.limit (store_since S now s.stores.store) (session_in s.sessions) table held.holds n found.0
        found.1
        ∙ ap (λ (b : Bool). b && (count_waiting (log_of table n) == 0) && nat_lt 0 (log_of table n).done) known in
        sym reported ∙ sym (ap (λ (o : Option Session). option_map_or is_forgettable o false) found.1) ∙ none n

-- A frame is served over a folder, by a server in whose table the name is, or to which it is awake.
module _ {X Y : Type 0} (S : StoreGhosts X) (J : JournalGhosts Y) (ready new : Server X Y S J) (f : Frame)
    (replies : List Reply) (t : ServerTurn S J ready f replies new) (first : List ℕ → Option (List ℕ)) (book : Book)
    (h : HoldsReady S J (name_of_frame f) first ready book) (honest : IsTrue (S.honest ready.stores.store))
    (honest_notes : IsTrue (J.honest ready.stores.journal)) where
  abbrev name : List ℕ
  name = name_of_frame f

  abbrev existed : List ℕ → Bool
  existed n = is_some (first n)

  abbrev existed' : List ℕ → Bool
  existed' n = is_some (h.now n)

  -- of these names nothing is known of the journal
  abbrev pub asleep : List ℕ → Bool
  asleep n = not (is_known h.table n || bytes_eq name n)

  abbrev pub on : TurnsOn S J h.now ready new h.table f replies
  on = t.turned honest h.now h.table h.held

  unknown_in : is_known h.table name ≡ false → session_in ready.sessions name ≡ None
  unknown_in e = no_session (session_in ready.sessions name) (sym (h.held.holds.names name) ∙ e)

  -- the frame is served: the later book, which the server holds, and whether a further name fits
  pub record Served : Type 0 where
    pub later : Book
    pub held : HoldsKept S J first new later
    pub full : Bool
    pub no_place : IsTrue full → HasNoPlace held.table
    pub turned : ServesFrame full existed (failures_of S J ready) (failures_of S J new) book f replies later

  says : SaysTheSame book h.table first h.now name
  says = go (is_known h.table name) refl
    where
      go : (b : Bool) → is_known h.table name ≡ b → SaysTheSame book h.table first h.now name
      go true e =
          let there = h.inside name e in
          record { known = there.known_there ∙ sym e; log = there.same_log; same = there.same_first }
      go false e =
          let none = h.ready name e (name_refl name) in
          record {
            known = none.0 ∙ sym e;
            log = unknown_log book name none.0 ∙ sym (unknown_log h.table name e);
            same = none.1;
          }

  -- of each other name notes and files stay
  others : KeepsOthersOf S J name ready new
  others = others_of S J ready new f t.failed honest honest_notes t.asks

  module _ (noted : NotesAwake S J asleep h.now new on.later) (ordered : OrdersBook S J h.now new) where
    -- both books change alike
    module _ (o : Option Log) (changed : with_change h.table name o ≡ on.later) where
      inside : (p : Option Log) → p ≡ o → (n : List ℕ) → is_known (with_change h.table name p) n ≡ true →
          IsInTable (is_known (with_change book name p) n) (log_of (with_change book name p) n)
          (log_of (with_change h.table name p) n) (first n) (h.now n)
      inside None same n e = h.inside n e
      inside (Some l) same n e = go (bytes_eq name n) refl
        where
          go : (b : Bool) → bytes_eq name n ≡ b →
              IsInTable (is_known (with_log book name l) n) (log_of (with_log book name l) n)
              (log_of (with_log h.table name l) n) (first n) (h.now n)
          go true b =
              subst (λ (x : List ℕ). IsInTable (is_known (with_log book name l) x) (log_of (with_log book name l) x)
              (log_of (with_log h.table name l) x) (first x) (h.now x)) (same_name name n b)
              (record {
                known_there = known-with_log_same book name l;
                same_log = log-with_log_same book name l ∙ sym (log-with_log_same h.table name l);
                same_first = says.same;
              })
          go false b =
              let there = h.inside n (sym (known-with_log_other h.table name n l b) ∙ e) in
              record {
                known_there = known-with_log_other book name n l b ∙ there.known_there;
                same_log = log-with_log_other book name n l b ∙ there.same_log
                    ∙ sym (log-with_log_other h.table name n l b);
                same_first = there.same_first;
              }

      abbrev IsOut : Option Log → List ℕ → Type 0
      IsOut p n = StaysOutOfTable new.limit (first n) n (log_of (with_change book name p) n)
          (J.committed new.stores.journal n) (J.notes new.stores.journal n) (S.contents new.stores.store n)

      -- another name
      other_out : (n : List ℕ) (log : Log) → bytes_eq name n ≡ false → log ≡ log_of book n →
          StaysOutOfTable ready.limit (first n) n (log_of book n) (J.committed ready.stores.journal n)
          (J.notes ready.stores.journal n) (S.contents ready.stores.store n) →
          StaysOutOfTable new.limit (first n) n log (J.committed new.stores.journal n) (J.notes new.stores.journal n)
          (S.contents new.stores.store n)
      other_out n log b e out =
          outside_as ready.limit new.limit (first n) n (log_of book n) log (J.committed ready.stores.journal n)
          (J.committed new.stores.journal n) (J.notes ready.stores.journal n) (J.notes new.stores.journal n)
          (S.contents ready.stores.store n) (S.contents new.stores.store n) t.limit e (t.committed honest_notes n)
          (others.notes n b) (others.files n b) out

      -- the name itself, which is still unknown
      still_unknown : is_known (with_change h.table name None) name ≡ false → None ≡ o → IsOut None name
      still_unknown e same =
          let none : is_known on.later name ≡ false =
          ap (λ (b : Book). is_known b name) (sym changed) ∙ ap (λ (p : Option Log). is_known (with_change h.table name p) name)
          (sym same) ∙ e in
          let awake : asleep name ≡ false = ap not (either (is_known h.table name) (bytes_eq name name) (name_refl name)) in
          let limit = ap (λ (x : Header). x.limit) (others.headers name) ∙ h.limits name ∙ sym t.limit in
          let gone : session_in new.sessions name ≡ None =
          no_session (session_in new.sessions name) (sym (on.held.holds.names name) ∙ none) in
          let file : S.contents new.stores.store name ≡ h.now name =
          on.held.holds.others (t.honest ∙ honest) name (inr none) in
          subst (λ (l : Log). StaysOutOfTable new.limit (first name) name l (J.committed new.stores.journal name)
          (J.notes new.stores.journal name) (S.contents new.stores.store name))
          (sym (unknown_log book name (says.known ∙ e)))
          (unknown_lies new.limit (first name) name (J.header new.stores.journal name)
          (J.committed new.stores.journal name) (J.notes new.stores.journal name)
          (S.contents new.stores.store name) (subst (λ (v : ℕ). v < 2 ^ 32) (sym t.limit) h.small) limit
          (noted.existed name awake ∙ ap is_some says.same) (noted.unknown name gone awake) (file ∙ says.same))

      outside : (p : Option Log) → p ≡ o → (n : List ℕ) → IsTrue (is_name n) →
          is_known (with_change h.table name p) n ≡ false → IsOut p n
      outside None same n named e = go (bytes_eq name n) refl
        where
          go : (b : Bool) → bytes_eq name n ≡ b → IsOut None n
          go true b =
              let is = same_name name n b in
              subst (λ (x : List ℕ). IsOut None x) is
              (still_unknown (ap (is_known (with_change h.table name None)) is ∙ e) same)
          go false b = other_out n (log_of book n) b refl (h.outside n named e)
      outside (Some l) same n named e = go (bytes_eq name n) refl
        where
          go : (b : Bool) → bytes_eq name n ≡ b → IsOut (Some l) n
          go true b =
              never (sym e ∙ ap (is_known (with_log h.table name l)) (sym (same_name name n b))
              ∙ known-with_log_same h.table name l)
          go false b =
              other_out n (log_of (with_log book name l) n) b (log-with_log_other book name n l b)
              (h.outside n named (sym (known-with_log_other h.table name n l b) ∙ e))

      -- what is known afterwards was known, or is the frame's name
      known_then : (p : Option Log) → p ≡ o → (n : List ℕ) → is_known (with_change h.table name p) n ≡ true →
          asleep n ≡ false
      known_then None same n e = ap not (ap (λ (b : Bool). b || bytes_eq name n) e)
      known_then (Some l) same n e = go (bytes_eq name n) refl
        where
          go : (b : Bool) → bytes_eq name n ≡ b → asleep n ≡ false
          go true b = ap not (either (is_known h.table n) (bytes_eq name n) b)
          go false b =
              ap not (ap (λ (v : Bool). v || bytes_eq name n) (sym (known-with_log_other h.table name n l b) ∙ e))

    -- each log of the folder's book is one
    logs : (o : Option Log) (changed : with_change h.table name o ≡ on.later) → (n : List ℕ) →
        is_known (with_change book name o) n ≡ true → IsLog (log_of (with_change book name o) n)
    logs None changed n e = h.each.logs n e
    logs (Some l) changed n e = go (bytes_eq name n) refl
      where
        go : (b : Bool) → bytes_eq name n ≡ b → IsLog (log_of (with_log book name l) n)
        go true b =
            let is = same_name name n b in
            let there : is_known on.later name ≡ true =
            ap (λ (x : Book). is_known x name) (sym changed) ∙ known-with_log_same h.table name l in
            let log_is : log_of on.later name ≡ log_of (with_log book name l) n =
            ap (λ (x : Book). log_of x name) (sym changed) ∙ log-with_log_same h.table name l
            ∙ sym (log-with_log_same book name l) ∙ ap (log_of (with_log book name l)) is in
            subst IsLog log_is (on.held.holds.is_book.logs name there)
        go false b =
            subst IsLog (sym (log-with_log_other book name n l b))
            (h.each.logs n (sym (known-with_log_other book name n l b) ∙ e))

    -- the server holds the later book of the folder
    later_held : (o : Option Log) (changed : with_change h.table name o ≡ on.later) →
        ((n : List ℕ) → IsTrue (ends_with_request (log_of (with_change book name o) n))) →
        HoldsKept S J first new (with_change book name o)
    later_held o changed ends = record {
      table = on.later;
      now = h.now;
      held = on.held;
      noted = notes_less S J asleep (λ n. not (is_known on.later n || false)) h.now new on.later
          (λ n e. known_then o changed o refl n
          (ap (λ (b : Book). is_known b n) changed ∙ known_not (is_known on.later n) e)) noted;
      ordered = ordered;
      small = subst (λ (v : ℕ). v < 2 ^ 32) (sym t.limit) h.small;
      folder = others.folder ∙ h.folder ∙ sym others.store_folder;
      limits = λ n. ap (λ (x : Header). x.limit) (others.headers n) ∙ h.limits n ∙ sym t.limit;
      each = record { logs = logs o changed; ends = ends };
      inside = λ n.
          subst (λ (b : Book). is_known b n ≡ true → IsInTable (is_known (with_change book name o) n)
          (log_of (with_change book name o) n) (log_of b n) (first n) (h.now n)) changed
          (inside o changed o refl n);
      outside = λ n named.
          subst (λ (b : Book). is_known b n ≡ false → StaysOutOfTable new.limit (first n) n
          (log_of (with_change book name o) n) (J.committed new.stores.journal n) (J.notes new.stores.journal n)
          (S.contents new.stores.store n)) changed
          (outside o changed o refl n named);
      ready = λ n unknown is. never is;
    }

    -- the folder's turn, where it is said whether a further name fits
    served_where : (full : Bool) →
        ((m : Message) → f ≡ Says m → (full ≡ is_full h.table) ⊎ (is_known h.table m.name ≡ true)) →
        (IsTrue full → HasNoPlace on.later) → Served
    unfolding later_held
    served_where full fits no_place =
        let faults : Faults = on.turned.faults in
        let same : turn_where full existed book f faults ≡ turn_where (is_full h.table) existed' h.table f faults =
        same_turn existed existed' book h.table full f faults says.known says.log (ap is_some says.same) fits in
        let o : Option Log = (turn_where full existed book f faults).1 in
        let changed : with_change h.table name o ≡ on.later =
        ap (λ (x : List Reply × Option Log). with_change h.table name x.1) same
        ∙ later_where existed' h.table f faults ∙ on.turned.left in
        let stops : stops_where full existed book f faults ≡ stops_short existed' h.table f faults =
        ap (λ (x : List Reply × Option Log). option_map_or is_pending x.1 false) same
        ∙ stops_same existed' h.table f faults in
        record {
          later = with_change book name o;
          held = later_held o changed
              (change_ends book name o h.each.ends (where_ends full existed book f faults (h.each.ends name)));
          full = full;
          no_place = no_place;
          turned = record {
            faults = faults;
            answered = ap (λ (x : List Reply × Option Log). x.0) same ∙ replies_where existed' h.table f faults
                ∙ on.turned.answered;
            left = refl;
            room = λ refused. room_same book h.table f replies says.log (on.turned.room refused);
            count = subst (λ (b : Bool). Counts (failures_of S J ready) (failures_of S J new) b) (sym stops)
                on.turned.count;
            stop = λ whole. on.turned.stop (sym stops ∙ whole);
          };
        }

    -- none of a full table's names may leave it
    has_no_place : ((n : List ℕ) → forgettable_kept ready n ≡ false) → is_known h.table name ≡ false →
        is_full h.table ≡ true → HasNoPlace on.later
    has_no_place none unknown full =
        let same : h.table ≡ on.later =
        ap (λ (o : Option Log). with_change h.table name o)
        (sym (full_changes (is_full h.table) existed' h.table f on.turned.faults unknown full))
        ∙ later_where existed' h.table f on.turned.faults ∙ on.turned.left in
        subst HasNoPlace same (no_place_of S J h.now ready h.table h.held none full)

    -- an ask, or a message for which there is a place if one can be made
    pub folder_served : ((m : Message) → f ≡ Says m → session_in ready.sessions name ≡ None →
        HasPlace S J true ready ⊎ NoneMayLeave S J ready) → Served
    folder_served place = by_frame f refl
      where
        by_frame : (g : Frame) → f ≡ g → Served
        by_frame Bye e = served_where false (λ m says_m. never_says m (sym e ∙ says_m)) never
          where
            never_says : (m : Message) → Bye ≡ Says m → (false ≡ is_full h.table) ⊎ (is_known h.table m.name ≡ true)
            never_says m x = cc
        by_frame (Asks n k) e = served_where false (λ m says_m. never_says m (sym e ∙ says_m)) never
          where
            never_says : (m : Message) → Asks n k ≡ Says m → (false ≡ is_full h.table) ⊎ (is_known h.table m.name ≡ true)
            never_says m x = cc
        by_frame (Says m) e = by_name (is_known h.table name) refl
          where
            name_is : (x : Message) → f ≡ Says x → name ≡ x.name
            name_is x s = ap name_of_frame s

            by_name : (b : Bool) → is_known h.table name ≡ b → Served
            by_name true known =
                served_where false (λ x s. inr (ap (is_known h.table) (sym (name_is x s)) ∙ known)) never
            by_name false unknown =
                served_where (is_full h.table) (λ x s. inl refl)
                (λ full. elim (place m e (unknown_in unknown)) [
                  | inl room ↦ never (sym (room h.now h.table h.held) ∙ full)
                  | inr none ↦ has_no_place none unknown full
                ])
