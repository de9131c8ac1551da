-- What a frame's turn on a folder's book keeps of a name, and the verdicts that it gives.
use Rattle.std.proofs.Common.{◌≡◌, ◌⊎◌, inl, inr, ℕ, zero, suc, ◌<◌, ◌≤◌, Bool, true, false, cond, ◌&&◌, ◌||◌}
use Rattle.std.proofs.Common.{List, [], ◌∷◌, Option, Some, None, refl, sym, ◌∙◌, ap, subst, arith}
use Rattle.std.specs.Prelude.{nat_le, IsTrue}
use Rattle.std.specs.List.{Contains}
use Rattle.std.specs.Str.{bytes_eq}
use Rattle.std.proofs.lemmas.Bool.{false≢true}
use Rattle.bw_model.specs.Bytes.{at}
use Rattle.bw_model.specs.Take.{Request, Verdict}
use Rattle.bw_model.specs.Wire.{Frame, Message, Says, Asks, Bye}
use Rattle.bw_model.specs.Replies.{Reply, Judged, Noticed, Refused, Notice, TooFar, TableFull, NoRoom, Next, DelayedStore}
use Rattle.bw_model.specs.Book.{Log, Book, log_of, is_known, verdict_at, no_log}
use Rattle.bw_model.specs.BookRules.{IsLog, IsBook}
use Rattle.bw_model.specs.Turn.{Faults, turn, turn_by, with_change, is_full, notice, window, book_after}
use Rattle.bw_model.specs.Turn.{served, is_admissible}
use Rattle.bw_model.proofs.BookLaws.{empty_book}
use Rattle.bw_model.proofs.BookLemmas.{name_refl, same_name, unknown_log, log-with_log_same, log-with_log_other}
use Rattle.bw_model.proofs.Elements.{Each, each-map}
use Rattle.bw_model.proofs.MapLemmas.{at-first_free}
use Rattle.bw_model.proofs.OtherTurns.{IsOf, message_of}
use Rattle.bw_model.proofs.VerdictLaws.{admitted_stays, verdicts_stay, verdicts_true_reported}
use Rattle.bw_kept.specs.FolderRuns.{ServesFrame, turn_where, name_of_frame, delay_of}
use Rattle.bw_delivery.specs.Lives.{KeepsDoneNumbers, IsVerdictOf}
use Rattle.bw_delivery.proofs.DoneNumbers.{keeps_itself}

-- A name's log after some replies: what was done stays, and each verdict is that of a done number.
pub record IsStep (taken : Bool) (name : List ℕ) (old new : Log) (replies : List Reply) : Type 0 where
  pub kept : KeepsDoneNumbers taken old new
  pub given : (n : ℕ) (v : Verdict) → Contains replies (Judged name n v) → IsVerdictOf taken new n v

-- a reply gives no verdict of this name
abbrev GivesNone : List ℕ → Reply → Type 0
GivesNone name r = (n : ℕ) (v : Verdict) → r ≡ Judged name n v → ⊥

contains_none : (name : List ℕ) (n : ℕ) (v : Verdict) (rs : List Reply) → Each (GivesNone name) rs →
    Contains rs (Judged name n v) → ⊥
contains_none name n v [] h (k, below, e) = omega (arith, below)
contains_none name n v (r ∷ rs) h (zero, below, e) = subst (GivesNone name) e h.0 n v refl
contains_none name n v (r ∷ rs) h (suc k, below, e) = contains_none name n v rs h.1 (k, omega (arith, below), e)

notice_gives : (name x : List ℕ) (n next : ℕ) (code : Notice) → GivesNone name (Noticed x n code next)
notice_gives name x n next code k v e = cc

other_gives : (name x : List ℕ) (r : Reply) → bytes_eq x name ≡ false → IsOf x r → GivesNone name r
other_gives name x (Judged y n w) off is k v e =
    let own : y ≡ name = named e in
    false≢true (sym off ∙ ap (λ (z : List ℕ). bytes_eq z name) (sym is ∙ own) ∙ name_refl name)
  where
    named : Judged y n w ≡ Judged name k v → y ≡ name
    named e = cc
other_gives name x (Noticed y n code next) off is k v e = notice_gives name y n next code k v e
other_gives name x (Refused reason place) off is k v e = cc

-- where the log stays and no verdict of the name is given
still : (taken : Bool) (name : List ℕ) (log : Log) (rs : List Reply) → Each (GivesNone name) rs →
    IsStep taken name log log rs
still taken name log rs none = record {
  kept = keeps_itself taken log;
  given = λ n v said. absurd (contains_none name n v rs none said);
}

-- The name's own message.

-- whether a further name fits says only that a notice is the answer
fits_or_not : (taken known full : Bool) (log : Log) (m : Message) (faults : Faults) →
    (turn_by taken known full log m faults ≡ turn_by taken known false log m faults)
    ⊎ ((code : Notice) × (turn_by taken known full log m faults ≡ (notice m code 0, None)))
unfolding turn_by
fits_or_not taken true full log m faults = inl refl
fits_or_not taken false false log m faults = inl refl
fits_or_not taken false true log m faults =
    go (nat_le window m.number)
    (cond {A = List Reply × Option Log} (is_admissible log m.number && faults.refused) (notice m NoRoom log.done, None)
    ((served taken log m faults.stop).0, Some (served taken log m faults.stop).1))
  where
    go : (far : Bool) (rest : List Reply × Option Log) →
        (cond {A = List Reply × Option Log} far (notice m TooFar 0, None) (notice m TableFull 0, None)
        ≡ cond {A = List Reply × Option Log} far (notice m TooFar 0, None) rest)
        ⊎ ((code : Notice) × (cond {A = List Reply × Option Log} far (notice m TooFar 0, None) (notice m TableFull 0, None)
        ≡ (notice m code 0, None)))
    go true rest = inr (TooFar, refl)
    go false rest = inr (TableFull, refl)

-- a log by itself, under a name that may be known
abbrev alone : Bool → List ℕ → Log → Book
alone true name log = (name, log) ∷ []
alone false name log = []

module _ (existed : List ℕ → Bool) (m : Message) (faults : Faults) (known : Bool) (log : Log)
    (is_log : known ≡ true → IsLog log) (is_none : known ≡ false → log ≡ no_log) where
  abbrev book : Book
  book = alone known m.name log

  abbrev taken : Bool
  taken = existed m.name

  known_alone : is_known book m.name ≡ known
  known_alone = go known
    where
      go : (k : Bool) → is_known (alone k m.name log) m.name ≡ k
      go true = ap (λ (w : Bool). w || false) (name_refl m.name)
      go false = refl

  full_alone : is_full book ≡ false
  full_alone = go known
    where
      go : (k : Bool) → is_full (alone k m.name log) ≡ false
      go true = refl
      go false = refl

  log_alone : log_of book m.name ≡ log
  log_alone = go known is_none
    where
      go : (k : Bool) → (k ≡ false → log ≡ no_log) → log_of (alone k m.name log) m.name ≡ log
      go true none = ap (λ (w : Bool). cond w log no_log) (name_refl m.name)
      go false none = sym (none refl)

  is_book : IsBook book
  is_book = go known is_log
    where
      go : (k : Bool) → (k ≡ true → IsLog log) → IsBook (alone k m.name log)
      go false h = empty_book
      go true h = record { once = (refl, tt); logs = λ x is. one x (bytes_eq m.name x) refl is; few = omega arith }
        where
          one : (x : List ℕ) (w : Bool) → bytes_eq m.name x ≡ w → w || false ≡ true → IsLog (cond w log no_log)
          one x true same is = h refl
          one x false same is = absurd (false≢true is)

  filled : (n : ℕ) → n < log.done → (r : Request) × (at log.admitted n ≡ Some r)
  filled n below = go known is_log is_none
    where
      go : (k : Bool) → (k ≡ true → IsLog log) → (k ≡ false → log ≡ no_log) → (r : Request)
          × (at log.admitted n ≡ Some r)
      go true h none = let all = (h refl).all_done in at-first_free log.admitted n (omega (arith, all, below))
      go false h none = let empty = ap (λ (l : Log). l.done) (none refl) in absurd (omega (arith, empty, below))

  -- the turn on the name's book alone
  turn_alone : IsStep taken m.name log (log_of (turn existed book (Says m) faults).1 m.name)
      (turn existed book (Says m) faults).0
  turn_alone = record { kept = kept; given = verdicts_true_reported existed book (Says m) faults is_book m.name }
    where
      ts : List (Frame × Faults)
      ts = (Says m, faults) ∷ []

      new : Log
      new = log_of (book_after existed book ts) m.name

      stays : (n : ℕ) → n < log.done → (n < new.done) × (verdict_at taken new.admitted n ≡ verdict_at taken log.admitted n)
      stays n below =
          subst (λ (l : Log). n < l.done →
          (n < new.done) × (verdict_at taken new.admitted n ≡ verdict_at taken l.admitted n)) log_alone
          (verdicts_stay existed book ts is_book m.name n) below

      same : (n : ℕ) → n < log.done → at new.admitted n ≡ at log.admitted n
      same n below =
          let x = filled n below in
          admitted_stays existed book ts m.name n x.0 (ap (λ (l : Log). at l.admitted n) log_alone ∙ x.1) ∙ sym x.1

      more : (d : ℕ) → log.done ≡ d → d ≤ new.done
      more zero e = omega arith
      more (suc d) e = let b = (stays d (omega (arith, e))).0 in omega (arith, b)

      kept : KeepsDoneNumbers taken log new
      kept = record { done = more log.done refl; requests = same; verdicts = λ n below. (stays n below).1 }

  -- it is the turn by the name's part of any book
  by_part : IsStep taken m.name log
      (log_of (with_change book m.name (turn_by taken known false log m faults).1) m.name)
      (turn_by taken known false log m faults).0
  unfolding turn
  by_part = subst (λ (x : List Reply × Option Log). IsStep taken m.name log (log_of (with_change book m.name x.1) m.name) x.0)
      same turn_alone
    where
      same : turn_by taken (is_known book m.name) (is_full book) (log_of book m.name) m faults
          ≡ turn_by taken known false log m faults
      same =
          ap (λ (k : Bool). turn_by taken k (is_full book) (log_of book m.name) m faults) known_alone
          ∙ ap (λ (f : Bool). turn_by taken known f (log_of book m.name) m faults) full_alone
          ∙ ap (λ (l : Log). turn_by taken known false l m faults) log_alone

-- each log of the book is one
abbrev pub HasLogs : Book → Type 0
HasLogs b = (name : List ℕ) → IsTrue (is_known b name) → IsLog (log_of b name)

own_step : (full : Bool) (existed : List ℕ → Bool) (b : Book) (m : Message) (faults : Faults) → HasLogs b →
    let x = turn_by (existed m.name) (is_known b m.name) full (log_of b m.name) m faults in
    IsStep (existed m.name) m.name (log_of b m.name) (log_of (with_change b m.name x.1) m.name) x.0
own_step full existed b m faults logs =
    go (fits_or_not taken known full log m faults)
  where
    taken : Bool
    taken = existed m.name

    known : Bool
    known = is_known b m.name

    log : Log
    log = log_of b m.name

    Goal : List Reply × Option Log → Type 0
    Goal x = IsStep taken m.name log (log_of (with_change b m.name x.1) m.name) x.0

    same_after : (c : Option Log) → log_of (with_change (alone known m.name log) m.name c) m.name
        ≡ log_of (with_change b m.name c) m.name
    same_after None = log_alone existed m faults known log (logs m.name) (unknown_log b m.name)
    same_after (Some l) =
        log-with_log_same (alone known m.name log) m.name l ∙ sym (log-with_log_same b m.name l)

    fitting : Goal (turn_by taken known false log m faults)
    fitting =
        subst (λ (l : Log). IsStep taken m.name log l (turn_by taken known false log m faults).0)
        (same_after (turn_by taken known false log m faults).1)
        (by_part existed m faults known log (logs m.name) (unknown_log b m.name))

    noticed : (code : Notice) → Goal (notice m code 0, None)
    noticed code = still taken m.name log _ (notice_gives m.name m.name m.number 0 code, tt)

    go : (turn_by taken known full log m faults ≡ turn_by taken known false log m faults)
        ⊎ ((code : Notice) × (turn_by taken known full log m faults ≡ (notice m code 0, None))) →
        Goal (turn_by taken known full log m faults)
    go (inl e) = subst Goal (sym e) fitting
    go (inr (code, e)) = subst Goal (sym e) (noticed code)

-- a message of another name
other_step : (full : Bool) (existed : List ℕ → Bool) (b : Book) (m : Message) (faults : Faults) (name : List ℕ) →
    bytes_eq m.name name ≡ false →
    let x = turn_by (existed m.name) (is_known b m.name) full (log_of b m.name) m faults in
    IsStep (existed name) name (log_of b name) (log_of (with_change b m.name x.1) name) x.0
other_step full existed b m faults name off =
    let x = turn_by (existed m.name) (is_known b m.name) full (log_of b m.name) m faults in
    subst (λ (l : Log). IsStep (existed name) name (log_of b name) l x.0) (sym (same x.1))
    (still (existed name) name (log_of b name) x.0
    (each-map (IsOf m.name) (GivesNone name) x.0 (λ r is. other_gives name m.name r off is)
    (message_of (existed m.name) (is_known b m.name) full (log_of b m.name) m faults)))
  where
    same : (c : Option Log) → log_of (with_change b m.name c) name ≡ log_of b name
    same None = refl
    same (Some l) = log-with_log_other b m.name name l off

served_step : (full : Bool) (existed : List ℕ → Bool) (b : Book) (f : Frame) (faults : Faults) → HasLogs b →
    (name : List ℕ) → IsStep (existed name) name (log_of b name)
    (log_of (with_change b (name_of_frame f) (turn_where full existed b f faults).1) name)
    (turn_where full existed b f faults).0
served_step full existed b (Says m) faults logs name = go (bytes_eq m.name name) refl
  where
    go : (v : Bool) → bytes_eq m.name name ≡ v → IsStep (existed name) name (log_of b name)
        (log_of (with_change b m.name (turn_where full existed b (Says m) faults).1) name)
        (turn_where full existed b (Says m) faults).0
    go true e =
        subst (λ (z : List ℕ). IsStep (existed z) z (log_of b z)
        (log_of (with_change b m.name (turn_where full existed b (Says m) faults).1) z)
        (turn_where full existed b (Says m) faults).0) (same_name m.name name e) (own_step full existed b m faults logs)
    go false e = other_step full existed b m faults name e
served_step full existed b (Asks x n) faults logs name =
    still (existed name) name (log_of b name) _ (notice_gives name x n (log_of b x).done Next, tt)
served_step full existed b Bye faults logs name = still (existed name) name (log_of b name) [] tt

delay_gives : (name : List ℕ) (f : Frame) → Each (GivesNone name) (delay_of f)
delay_gives name (Says m) = (notice_gives name m.name m.number 0 DelayedStore, tt)
delay_gives name (Asks x n) = (notice_gives name x n 0 DelayedStore, tt)
delay_gives name Bye = tt

-- a frame is served, or put off
abbrev pub IsFolderTurn : (List ℕ → Bool) → ℕ → ℕ → Book → Frame → List Reply → Book → Type 0
IsFolderTurn existed before after b f replies later =
    ((full : Bool) × ServesFrame full existed before after b f replies later)
    ⊎ ((replies ≡ delay_of f) × (later ≡ b))

pub frame_step : (existed : List ℕ → Bool) (before after : ℕ) (b later : Book) (f : Frame) (replies : List Reply) →
    HasLogs b → IsFolderTurn existed before after b f replies later → (name : List ℕ) →
    IsStep (existed name) name (log_of b name) (log_of later name) replies
frame_step existed before after b later f replies logs (inl (full, s)) name =
    subst (λ (z : Book). IsStep (existed name) name (log_of b name) (log_of z name) replies) s.left
    (subst (λ (rs : List Reply). IsStep (existed name) name (log_of b name)
    (log_of (with_change b (name_of_frame f) (turn_where full existed b f s.faults).1) name) rs) s.answered
    (served_step full existed b f s.faults logs name))
frame_step existed before after b later f replies logs (inr off) name =
    subst (λ (z : Book). IsStep (existed name) name (log_of b name) (log_of z name) replies) (sym off.1)
    (subst (λ (rs : List Reply). IsStep (existed name) name (log_of b name) (log_of b name) rs) (sym off.0)
    (still (existed name) name (log_of b name) (delay_of f) (delay_gives name f)))
