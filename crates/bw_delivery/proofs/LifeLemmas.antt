-- Servers that follow one another over a folder.
use Rattle.std.proofs.Common.{◌≡◌, inl, inr, ℕ, zero, suc, ◌≤◌, Bool, List, [], ◌∷◌, Option, is_some, length}
use Rattle.std.proofs.Common.{refl, sym, ◌∙◌, ap, subst, arith}
use Rattle.std.specs.Prelude.{IsTrue}
use Rattle.std.specs.List.{Contains}
use Rattle.std.proofs.lemmas.List.Elements.{Contains-append_cases}
use Rattle.bw_model.specs.Take.{Verdict}
use Rattle.bw_model.specs.Replies.{Judged}
use Rattle.bw_model.specs.Book.{Book, log_of}
use Rattle.bw_store.specs.declared.store.TakeStore.{Ghosts as StoreGhosts}
use Rattle.bw_recovery.specs.LeftNames.{header_beside}
use Rattle.bw_journal.specs.JournalHeaders.{Header}
use Rattle.bw_journal.specs.NotedJournals.{AdmitsDone, journal_of, up_to}
use Rattle.bw_journal.specs.Stops.{cut_book}
use Rattle.bw_journal.specs.declared.journal.Journal.{Ghosts as JournalGhosts}
use Rattle.bw_exchange.specs.AnsweredFrames.{Answered, AnswersAll, replies_of}
use Rattle.bw_session.specs.Books.{failures_of}
use Rattle.bw_session.specs.declared.server.Server.{Server}
use Rattle.bw_kept.specs.FolderRuns.{IsFolderRun}
use Rattle.bw_kept.specs.KeptFolders.{HoldsKept, IsOutOfTable}
use Rattle.bw_kept.specs.KeptTurns.{FolderTurn, KeptTurn}
use Rattle.bw_kept.specs.DiskNotes.{Covers}
use Rattle.bw_kept.specs.LeftFolders.{CommittedBooksAreCovered, LeavesDone, LeavesFirst, LiesThere}
use Rattle.bw_kept.specs.LeftFolders.{KeptServersLeaveDone, EmptyServersHold}
use Rattle.bw_delivery.specs.Lives.{Folder, LiesIn, KeepsDoneNumbers, IsVerdictOf, WasGiven, Life, IsLife, LivesLeaveBooks}
use Rattle.bw_delivery.specs.Lives.{LivesKeepVerdicts, VerdictsOutliveServers}
use Rattle.bw_delivery.proofs.DoneJournals.{book_admits, covered_on, journal_first}
use Rattle.bw_delivery.proofs.ClosedFiles.{closed_lies, closed_stays}
use Rattle.bw_delivery.proofs.DoneNumbers.{keeps_itself, keeps_on, keeps_first, done_stays, keeps_in_cut}
use Rattle.bw_delivery.proofs.FrameSteps.{IsFolderTurn, frame_step}

-- Server and store stay so through a turn.
pub record StaysHonest {X Y : Type 0} (S : StoreGhosts X) (J : JournalGhosts Y) (old new : Server X Y S J) : Type 0 where
  pub limit : new.limit ≡ old.limit
  pub honest : S.honest new.stores.store ≡ S.honest old.stores.store
  pub honest_notes : J.honest new.stores.journal ≡ J.honest old.stores.journal

module _ {X Y : Type 0} (S : StoreGhosts X) (J : JournalGhosts Y)
    (Fails : List ℕ → Server X Y S J → Server X Y S J → Type 0) (Differs : List ℕ → Server X Y S J → Type 0) where
  pub turn_stays : (old new : Server X Y S J) (a : Answered) → KeptTurn S J Fails Differs old a.frame a.replies new →
      StaysHonest S J old new
  turn_stays old new a t =
      let mid : StaysHonest S J old t.served = elim (t.answered) [
        | inl served ↦ record {
          limit = served.limit ∙ t.prepared.limit;
          honest = served.honest ∙ t.prepared.honest;
          honest_notes = served.honest_notes ∙ t.prepared.honest_notes;
        }
        | inr off ↦ subst (StaysHonest S J old) (sym off.1) (record {
          limit = t.prepared.limit;
          honest = t.prepared.honest;
          honest_notes = t.prepared.honest_notes;
        })
      ] in
      record {
        limit = t.closed.limit ∙ mid.limit;
        honest = t.closed.honest ∙ mid.honest;
        honest_notes = t.closed.honest_notes ∙ mid.honest_notes;
      }

  -- turns from a book of a folder
  pub record TurnsKept (first : List ℕ → Option (List ℕ)) (old new : Server X Y S J) (book : Book)
      (answered : List Answered) : Type 0 where
    pub later : Book
    pub held : HoldsKept S J first new later
    pub stays : StaysHonest S J old new
    pub went : IsFolderRun (λ name. is_some (first name)) (failures_of S J old) (failures_of S J new) book answered later
    pub kept : (name : List ℕ) → KeepsDoneNumbers (is_some (first name)) (log_of book name) (log_of later name)
    pub given : (name : List ℕ) (n : ℕ) (v : Verdict) → WasGiven answered name n v →
        IsVerdictOf (is_some (first name)) (log_of later name) n v
    -- what is covered of an earlier book stays so
    pub covered : (least : Book) → ((name : List ℕ) → AdmitsDone (log_of least name)) →
        ((name : List ℕ) → KeepsDoneNumbers (is_some (first name)) (log_of least name) (log_of book name)) →
        Covers J old.limit first old.stores.journal least → Covers J old.limit first new.stores.journal least

  pub turns_kept : (first : List ℕ → Option (List ℕ)) (old new : Server X Y S J) (answered : List Answered)
      (book : Book) → HoldsKept S J first old book → IsTrue (S.honest old.stores.store) →
      IsTrue (J.honest old.stores.journal) → AnswersAll (KeptTurn S J Fails Differs) old answered new →
      TurnsKept first old new book answered
  turns_kept first old new [] book held honest honest_notes same = record {
    later = book;
    held = subst (λ (s : Server X Y S J). HoldsKept S J first s book) (sym same) held;
    stays = record {
      limit = ap (λ (s : Server X Y S J). s.limit) same;
      honest = ap (λ (s : Server X Y S J). S.honest s.stores.store) same;
      honest_notes = ap (λ (s : Server X Y S J). J.honest s.stores.journal) same;
    };
    went = (ap (failures_of S J) same, refl);
    kept = λ name. keeps_itself (is_some (first name)) (log_of book name);
    given = λ name n v given. absurd (let below = given.1 in omega (arith, below));
    covered = λ least admits keeps. subst (λ (s : Server X Y S J). Covers J old.limit first s.stores.journal least) (sym same);
  }
  turns_kept first old new (a ∷ rest) book held honest honest_notes (mid, t, more) =
      let turn : FolderTurn S J Fails Differs first old mid book a.frame a.replies =
      t.turned honest honest_notes first book held in
      let stays = turn_stays old mid a t in
      let on = turns_kept first mid new rest turn.later turn.held (subst IsTrue (sym stays.honest) honest)
      (subst IsTrue (sym stays.honest_notes) honest_notes) more in
      let existed : List ℕ → Bool = λ name. is_some (first name) in
      let by : IsFolderTurn existed (failures_of S J old) (failures_of S J mid) book a.frame a.replies turn.later =
      elim (turn.turned) [
        | inl served ↦ inl (turn.full, served)
        | inr off ↦ inr (off.answered, off.left)
      ] in
      let step = frame_step existed (failures_of S J old) (failures_of S J mid) book turn.later a.frame a.replies
      held.each.logs by in
      record {
        later = on.later;
        held = on.held;
        stays = record {
          limit = on.stays.limit ∙ stays.limit;
          honest = on.stays.honest ∙ stays.honest;
          honest_notes = on.stays.honest_notes ∙ stays.honest_notes;
        };
        went = (failures_of S J mid, turn.later, by, on.went);
        kept = λ name. keeps_on (is_some (first name)) (log_of book name) (log_of turn.later name) (log_of on.later name)
            (step name).kept (on.kept name);
        given = λ name n v given. elim (Contains-append_cases a.replies (replies_of rest) (Judged name n v) given) [
          | inl here ↦ done_stays (is_some (first name)) (log_of turn.later name) (log_of on.later name) (on.kept name) n v
              ((step name).given n v here)
          | inr later ↦ on.given name n v later
        ];
        covered = λ least admits keeps covers.
            let one : Covers J old.limit first mid.stores.journal least =
            covered_on J old.limit first least book old.stores.journal mid.stores.journal admits
            (book_admits book held.each.logs) keeps turn.committed covers in
            let two : Covers J mid.limit first new.stores.journal least =
            on.covered least admits
            (λ name. keeps_on (is_some (first name)) (log_of least name) (log_of book name) (log_of turn.later name)
            (keeps name) (step name).kept)
            (subst (λ (l : ℕ). Covers J l first mid.stores.journal least) (sym stays.limit) one) in
            subst (λ (l : ℕ). Covers J l first new.stores.journal least) stays.limit two;
      }

  -- what was covered before these turns is done in what a stop after them leaves
  pub least_done : (first : List ℕ → Option (List ℕ)) (old new : Server X Y S J) (book : Book) (answered : List Answered)
      (t : TurnsKept first old new book answered) (journals files : List ℕ → Option (List ℕ))
      (done : LeavesDone new.limit first t.later (J.committed new.stores.journal) journals files) →
      ((name : List ℕ) → AdmitsDone (log_of book name)) → Covers J old.limit first old.stores.journal book →
      (name : List ℕ) → (log_of book name).done ≤ (log_of done.left name).done
  least_done first old new book answered t journals files done admits covers name = go (log_of book name).done refl
    where
      later : Covers J old.limit first new.stores.journal book
      later = t.covered book admits (λ n. keeps_itself (is_some (first n)) (log_of book n)) covers

      h : Header
      h = header_beside old.limit (first name)

      go : (n : ℕ) → n ≡ (log_of book name).done → (log_of book name).done ≤ (log_of done.left name).done
      go zero is = omega (arith, is)
      go (suc n) is =
          done.least name (log_of book name).done (t.kept name).done (λ named.
          subst (λ (l : ℕ). length (journal_of (header_beside l (first name)) name
          (up_to (log_of book name).done (log_of t.later name))) ≤ J.committed new.stores.journal name) (sym t.stays.limit)
          (subst (λ (xs : List ℕ). length xs ≤ J.committed new.stores.journal name)
          (journal_first (is_some (first name)) h name (log_of book name) (log_of t.later name) (admits name)
          (book_admits t.later t.held.each.logs name) (t.kept name)) (later name named (omega (arith, is)))))

  -- where empty servers hold what lies in their folder, stopped ones leave it, and what is committed is covered
  module _ (stops : KeptServersLeaveDone S J) (begins : EmptyServersHold S J) (covers : CommittedBooksAreCovered S J) where
    -- what a life leaves
    pub record LifeLeft (limit : ℕ) (first : List ℕ → Option (List ℕ)) (book : Book) (life : Life S J Fails Differs) :
        Type 0 where
      pub began : HoldsKept S J first life.began book
      pub turns : TurnsKept first life.began life.committed book life.kept
      pub turns_on : TurnsKept first life.committed life.ended turns.later life.unkept
      pub left : Book
      pub numbers : LeavesFirst turns_on.later left
      pub lies : LiesIn limit first (cut_book left) life.found
      pub keeps : (name : List ℕ) →
          KeepsDoneNumbers (is_some (first name)) (log_of turns.later name) (log_of left name)

    pub life_left : (limit : ℕ) (first : List ℕ → Option (List ℕ)) (book : Book) (f : Folder)
        (life : Life S J Fails Differs) → LiesIn limit first book f → IsLife S J Fails Differs limit f life →
        LifeLeft limit first book life
    life_left limit first book f life lies is =
        let there : LiesThere life.began.limit first book (J.notes life.began.stores.journal)
        (S.contents life.began.stores.store) = record {
          each = lies.each;
          names = λ name named.
              subst (λ (l : ℕ). IsOutOfTable l (first name) name (log_of book name) (J.notes life.began.stores.journal name)
              (S.contents life.began.stores.store name)) (sym is.limit_is)
              (subst (λ (o : Option (List ℕ)). IsOutOfTable limit (first name) name (log_of book name) o
              (S.contents life.began.stores.store name)) (sym (is.journals name named))
              (subst (λ (o : Option (List ℕ)). IsOutOfTable limit (first name) name (log_of book name) (f.journals name) o)
              (sym (is.files name named)) (lies.names name named)));
        } in
        let began = begins first life.began book is.empty there in
        let turns = turns_kept first life.began life.committed life.kept book began is.honest is.honest_notes is.went in
        let honest = turns.stays.honest ∙ is.honest in
        let honest_notes = turns.stays.honest_notes ∙ is.honest_notes in
        let on = turns_kept first life.committed life.ended life.unkept turns.later turns.held honest honest_notes
        is.went_on in
        let done = stops first life.ended on.later (on.stays.honest ∙ honest) (on.stays.honest_notes ∙ honest_notes)
        on.held life.found.journals is.found_notes in
        let ended : life.ended.limit ≡ limit = on.stays.limit ∙ turns.stays.limit ∙ is.limit_is in
        record {
          began = began;
          turns = turns;
          turns_on = on;
          left = done.left;
          numbers = done.numbers;
          lies = found_lies ended done;
          keeps = λ name.
              keeps_first (is_some (first name)) (log_of turns.later name) (log_of on.later name) (log_of done.left name)
              (on.kept name) (done.numbers.logs name)
              (least_done first life.committed life.ended turns.later life.unkept on life.found.journals
              (S.contents life.ended.stores.store) done (book_admits turns.later turns.held.each.logs)
              (covers first life.committed turns.later honest honest_notes turns.held is.all) name);
        }
      where
        found_lies : {later : Book} → life.ended.limit ≡ limit →
            (done : LeavesDone life.ended.limit first later (J.committed life.ended.stores.journal) life.found.journals
            (S.contents life.ended.stores.store)) → LiesIn limit first (cut_book done.left) life.found
        found_lies ended done = record {
          each = done.lies.each;
          names = λ name named.
              subst (λ (l : ℕ). IsOutOfTable l (first name) name (log_of (cut_book done.left) name)
              (life.found.journals name) (life.found.files name)) ended
              (subst (λ (o : Option (List ℕ)). IsOutOfTable life.ended.limit (first name) name
              (log_of (cut_book done.left) name) (life.found.journals name) o) (sym (is.found_files name))
              (done.lies.names name named));
        }

    pub lives_leave_books : LivesLeaveBooks S J Fails Differs
    lives_leave_books limit first book f life lies is =
        let l = life_left limit first book f life lies is in
        record {
          began = l.began;
          kept = l.turns.later;
          turned = l.turns.went;
          later = l.turns_on.later;
          turned_on = l.turns_on.went;
          ended = l.turns_on.held;
          left = l.left;
          numbers = l.numbers;
          lies = l.lies;
          keeps = l.keeps;
        }

    -- a stop after these turns keeps what was committed
    pub stop_keeps : (limit : ℕ) (first : List ℕ → Option (List ℕ)) (book : Book) (life : Life S J Fails Differs)
        (l : LifeLeft limit first book life) (name : List ℕ) →
        KeepsDoneNumbers (is_some (first name)) (log_of l.turns.later name) (log_of (cut_book l.left) name)
    stop_keeps limit first book life l name =
        let taken : Bool = is_some (first name) in
        keeps_on taken (log_of l.turns.later name) (log_of l.left name) (log_of (cut_book l.left) name)
        (l.keeps name) (keeps_in_cut taken l.left name)

    pub verdicts_outlive_servers : VerdictsOutliveServers S J Fails Differs
    verdicts_outlive_servers limit first book f [] lies went = record {
      after = book;
      lies = lies;
      kept = λ name. keeps_itself (is_some (first name)) (log_of book name);
      given = λ life has name n v given. absurd (let below = has.1 in omega (arith, below));
      closed = λ name named. closed_lies limit first book f name (lies.names name named);
      stays = λ name closed. refl;
    }
    verdicts_outlive_servers limit first book f (life ∷ lives) lies went =
        let l = life_left limit first book f life lies went.0 in
        let next : Book = cut_book l.left in
        let on = verdicts_outlive_servers limit first next life.found lives l.lies went.1 in
        let later : (name : List ℕ) →
        KeepsDoneNumbers (is_some (first name)) (log_of l.turns.later name) (log_of on.after name) =
        λ name. keeps_on (is_some (first name)) (log_of l.turns.later name) (log_of next name) (log_of on.after name)
        (stop_keeps limit first book life l name) (on.kept name) in
        let kept : (name : List ℕ) → KeepsDoneNumbers (is_some (first name)) (log_of book name) (log_of on.after name) =
        λ name. keeps_on (is_some (first name)) (log_of book name) (log_of l.turns.later name) (log_of on.after name)
        (l.turns.kept name) (later name) in
        record {
          after = on.after;
          lies = on.lies;
          kept = kept;
          given = given l on later;
          closed = on.closed;
          stays = λ name closed.
              closed_stays (is_some (first name)) (log_of book name) (log_of on.after name) (kept name) closed;
        }
      where
        given : (l : LifeLeft limit first book life)
            (on : LivesKeepVerdicts S J Fails Differs limit first (cut_book l.left) life.found lives) →
            ((name : List ℕ) → KeepsDoneNumbers (is_some (first name)) (log_of l.turns.later name) (log_of on.after name)) →
            (x : Life S J Fails Differs) → Contains (life ∷ lives) x → (name : List ℕ) (n : ℕ) (v : Verdict) →
            WasGiven x.kept name n v → IsVerdictOf (is_some (first name)) (log_of on.after name) n v
        given l on later x (zero, below, e) name n v said =
            done_stays (is_some (first name)) (log_of l.turns.later name) (log_of on.after name) (later name) n v
            (l.turns.given name n v (subst (λ (y : Life S J Fails Differs). WasGiven y.kept name n v) (sym e) said))
        given l on later x (suc k, below, e) name n v said = on.given x (k, omega (arith, below), e) name n v said
