-- A server's folder after one of its names was recovered.
use Rattle.std.proofs.Common.{◌≡◌, inl, ℕ, zero, suc, ◌<◌, ◌≤◌, ◌^◌, Bool, true, false, List, [], ◌∷◌, length, take}
use Rattle.std.proofs.Common.{Option, Some, None, is_some, option_map, refl, sym, ◌∙◌, ap, subst, arith}
use Rattle.std.specs.Prelude.{IsTrue}
use Rattle.std.specs.List.{list_any}
use Rattle.std.specs.Str.{bytes_eq}
use Rattle.bw_model.specs.Take.{Request}
use Rattle.bw_model.specs.Wire.{is_name}
use Rattle.bw_model.specs.Book.{Log, Book, log_of, is_known}
use Rattle.bw_model.proofs.BookLemmas.{unknown_log}
use Rattle.bw_store.specs.declared.store.TakeStore.{Ghosts as StoreGhosts}
use Rattle.bw_journal.specs.JournalHeaders.{Header}
use Rattle.bw_journal.specs.NotedJournals.{AdmitsDone, journal_of}
use Rattle.bw_journal.specs.Replays.{Story}
use Rattle.bw_journal.specs.Stops.{cut_log}
use Rattle.bw_journal.specs.declared.journal.Journal.{Ghosts as JournalGhosts}
use Rattle.bw_session.specs.Books.{count_waiting}
use Rattle.bw_session.specs.SeenServers.{session_kept}
use Rattle.bw_session.specs.Servers.{kept_by}
use Rattle.bw_session.specs.declared.kept_take.KeptTake.{KeptTake}
use Rattle.bw_session.specs.declared.session.Session.{Session}
use Rattle.bw_session.specs.declared.server.Server.{Server}
use Rattle.bw_session.proofs.ResumeForms.{all_fit}
use Rattle.bw_recovery.specs.declared.finding.NameFault.{NameFault}
use Rattle.bw_session.specs.TableChanges.{ChangesUnder, IsOfLog, NamesOutsideMayChange}
use Rattle.bw_kept.specs.DiskNotes.{IsCommittedName}
use Rattle.bw_kept.specs.Recoveries.{Recovers, opened_story}
use Rattle.bw_kept.specs.KeptFolders.{AreLogs, HasThisFault, HoldsKept, HoldsReady, IsOutOfTable, StaysOutOfTable, LiesInFolder}
use Rattle.bw_kept.specs.declared.recovery.Recovered.TheVariants.{New, LeftOut, Kept}
use Rattle.bw_kept.proofs.ChangeForms.{whole_left}
use Rattle.bw_kept.proofs.KeptChanges.{moved_asleep, moved_awake}
use Rattle.bw_kept.proofs.DiskForms.{on_disk_all}
use Rattle.bw_kept.proofs.KeptForms.{never, outside_now, outside_whole, unknown_lies}
use Rattle.bw_kept.proofs.LogEnds.{cut_whole}
use Rattle.bw_kept.proofs.RecoverForms.{IsNewThere, kept_there, left_out_there, new_there}

take_most : {A : Type 0} (n : ℕ) (xs : List A) → length (take n xs) ≤ n
take_most zero xs = omega arith
take_most (suc n) [] = omega arith
take_most (suc n) (x ∷ xs) = let more = take_most n xs in omega (arith, more)

-- of a log of which nothing waits each number is done
all_done : (book : Book) (name : List ℕ) → AreLogs book → count_waiting (log_of book name) ≡ 0 →
    length (log_of book name).admitted ≤ (log_of book name).done
all_done book name each quiet =
    let whole : cut_log (log_of book name) ≡ log_of book name = cut_whole (log_of book name) (each.ends name) quiet in
    let size : length (take (log_of book name).done (log_of book name).admitted) ≡ length (log_of book name).admitted =
    ap (λ (l : Log). length l.admitted) whole in
    let most = take_most (log_of book name).done (log_of book name).admitted in
    omega (arith, size, most)

-- so a name of which nothing is done isn't known
none_known : (book : Book) (name : List ℕ) → AreLogs book → count_waiting (log_of book name) ≡ 0 →
    (log_of book name).done ≡ 0 → is_known book name ≡ false
none_known book name each quiet none = go (is_known book name) refl
  where
    nothing : (xs : List (Option Request)) → length xs ≤ 0 → list_any is_some xs ≡ true → false ≡ true
    nothing [] few some = some
    nothing (x ∷ xs) few some = absurd (omega (arith, few))

    go : (v : Bool) → is_known book name ≡ v → is_known book name ≡ false
    go false e = e
    go true e =
        let all = all_done book name each quiet in
        never (nothing (log_of book name).admitted (omega (arith, all, none)) (each.logs name e).some)

-- each log of a folder's book admits its done numbers
pub log_admits : (book : Book) (name : List ℕ) → AreLogs book → AdmitsDone (log_of book name)
log_admits book name each = go (is_known book name) refl
  where
    go : (v : Bool) → is_known book name ≡ v → AdmitsDone (log_of book name)
    go true e =
        let l = each.logs name e in
        let all = all_fit (log_of book name).admitted (log_of book name).done l.all_done l.fits in
        record { long = all.0; each = all.1 }
    go false e = subst AdmitsDone (sym (unknown_log book name e)) (record { long = refl; each = refl })

module _ {X Y : Type 0} (S : StoreGhosts X) (J : JournalGhosts Y) (old new : Server X Y S J)
    (first : List ℕ → Option (List ℕ)) (book : Book) (h : HoldsKept S J first old book)
    (honest : IsTrue (S.honest old.stores.store)) (honest_notes : IsTrue (J.honest old.stores.journal))
    (name : List ℕ) (named : IsTrue (is_name name)) (moves : ChangesUnder S J name old new)
    (gone : session_kept old name ≡ None) (may : NamesOutsideMayChange S J)
    (folder : J.folder new.stores.journal ≡ J.folder old.stores.journal)
    (store_folder : S.folder new.stores.store ≡ S.folder old.stores.store)
    (limit : (J.header new.stores.journal name).limit ≡ new.limit)
    (no_fewer : (n : List ℕ) → bytes_eq name n ≡ false → J.committed old.stores.journal n ≤ J.committed new.stores.journal n)
    (all : IsCommittedName J name new.stores.journal) where
  abbrev log : Log
  log = log_of book name

  abbrev journal : Option (List ℕ)
  journal = J.notes old.stores.journal name

  abbrev later_journal : Option (List ℕ)
  later_journal = J.notes new.stores.journal name

  abbrev file : Option (List ℕ)
  file = S.contents old.stores.store name

  abbrev later_file : Option (List ℕ)
  later_file = S.contents new.stores.store name

  abbrev head : Header
  head = J.header new.stores.journal name

  abbrev Opened : Option Story → Type 0
  Opened o = (s : Story) → o ≡ Some s → head.existed ≡ s.parts.taken

  unknown : is_known h.table name ≡ false
  unknown = h.held.holds.names name ∙ ap (λ (o : Option Session). is_some (option_map kept_by o)) gone

  out : IsOutOfTable old.limit (first name) name log journal file
  out = outside_now old.limit (first name) name log (J.committed old.stores.journal name) journal file
      (h.outside name named unknown)

  head_limit : head.limit ≡ old.limit
  head_limit = limit ∙ moves.limit

  small : new.limit < 2 ^ 32
  small = subst (λ (v : ℕ). v < 2 ^ 32) (sym moves.limit) h.small

  -- it lies there whatever the disk has of its journal, since all of that is committed
  stays_out : (log' : Log) → IsOutOfTable new.limit (first name) name log' later_journal later_file →
      StaysOutOfTable new.limit (first name) name log' (J.committed new.stores.journal name) later_journal later_file
  stays_out log' o =
      outside_whole new.limit (first name) name log' (J.committed new.stores.journal name) later_journal later_file
      (λ found on. on_disk_all (J.committed new.stores.journal name) later_journal found all on) o

  -- it lies there asleep
  asleep_then : LiesInFolder old.limit (first name) name log later_journal later_file → HoldsKept S J first new book
  asleep_then lies =
      moved_asleep S J old new first book h honest honest_notes name true moves gone may folder store_folder limit
      (λ e. never (sym e)) (λ e. never (sym e)) no_fewer
      (stays_out log (subst (λ (v : ℕ). IsOutOfTable v (first name) name log later_journal later_file) (sym moves.limit)
      (record { quiet = out.quiet; lies = lies }))) refl

  pub recovered_new : Opened (opened_story old.limit name journal New) →
      (opened_story old.limit name journal New ≡ None → head.existed ≡ is_some later_file) →
      Recovers old.limit name journal file New later_journal later_file → HoldsReady S J name first new book
  recovered_new opened alike made =
      let n : IsNewThere (first name) name log head later_journal later_file =
      new_there old.limit (first name) name log file h.small (log_admits book name h.each) head head_limit journal
      later_journal later_file out.lies opened alike made in
      let none : is_known book name ≡ false = none_known book name h.each out.quiet n.none in
      moved_awake S J old new first book h honest honest_notes name false moves gone may folder store_folder limit
      (λ e. record { unbegun = n.prefix; existed = n.existed ∙ sym (ap is_some n.file_is) })
      (λ e. (none, n.file_is)) no_fewer
      (subst (λ (l : Log). StaysOutOfTable new.limit (first name) name l (J.committed new.stores.journal name) later_journal
      later_file) (sym (unknown_log book name none))
      (unknown_lies new.limit (first name) name head (J.committed new.stores.journal name) later_journal later_file small
      limit n.existed n.prefix n.file_is)) refl

  pub recovered_kept : (k : KeptTake) → Opened (opened_story old.limit name journal (Kept k)) →
      Recovers old.limit name journal file (Kept k) later_journal later_file →
      HoldsKept S J first new book × IsOfLog new.limit (first name) log head k later_journal later_file
  recovered_kept k opened made =
      let both = kept_there old.limit (first name) name log file h.small (log_admits book name h.each) head head_limit journal
      later_journal later_file k out.lies (λ some. h.each.logs name (known_by some))
      (all_done book name h.each out.quiet) opened made in
      let o = both.1 in (
        asleep_then (inl (whole_left old.limit (first name) name log head later_journal later_file o.is_log.fits head_limit
            o.existed (o.notes_are ∙ ap (λ (n : List ℕ). Some (journal_of head n log)) both.0) o.file_is)),
        subst (λ (v : ℕ). IsOfLog v (first name) log head k later_journal later_file) (sym moves.limit) o,
      )
    where
      known_by : 0 < log.done → is_known book name ≡ true
      known_by some = go (is_known book name) refl
        where
          go : (v : Bool) → is_known book name ≡ v → is_known book name ≡ true
          go true e = e
          go false e =
              let none = ap (λ (l : Log). l.done) (unknown_log book name e) in absurd (omega (arith, some, none))

  pub recovered_out : (cause : NameFault) →
      Recovers old.limit name journal file (LeftOut cause) later_journal later_file →
      HoldsKept S J first new book × HasThisFault new.limit name later_journal later_file cause
  recovered_out cause made =
      let both = left_out_there old.limit (first name) name log file h.small (log_admits book name h.each) head head_limit
      journal later_journal later_file cause out.lies made in (
        asleep_then both.1,
        subst (λ (v : ℕ). HasThisFault v name later_journal later_file cause) (sym moves.limit) both.0,
      )

  -- after an error
  pub recovered_not : LiesInFolder old.limit (first name) name log later_journal later_file → HoldsKept S J first new book
  recovered_not lies = asleep_then lies

  -- what lay there before
  pub lay_there : LiesInFolder old.limit (first name) name log journal file
  lay_there = out.lies
