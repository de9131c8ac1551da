-- One name's frames are a run of their own, though others rest.
use Rattle.std.proofs.Common.{◌≡◌, ℕ, Bool, true, false, not, cond, ◌&&◌, ◌||◌, List, [], ◌∷◌, Option, Some, None}
use Rattle.std.proofs.Common.{refl, sym, ◌∙◌, ap, subst, inl, inr}
use Rattle.std.specs.Prelude.{filter, is_some, unwrap_or, nat_le}
use Rattle.std.specs.Str.{bytes_eq}
use Rattle.bw_model.specs.Wire.{Message, Frame, Says, Asks, Bye}
use Rattle.bw_model.specs.Replies.{Reply, TooFar, TableFull, NoRoom, Noticed, Next}
use Rattle.bw_model.specs.Book.{Log, Book, log_of, is_known, no_log}
use Rattle.bw_model.specs.Turn.{Faults, turn, turn_by, served, notice, window, is_admissible, is_full, with_change}
use Rattle.bw_model.specs.Turn.{run, book_after, is_of, is_turned_away}
use Rattle.bw_model.proofs.BookLemmas.{same_name, name_refl, log-with_log_same, log-with_log_other, known-with_log_same}
use Rattle.bw_model.proofs.BookLemmas.{known-with_log_other, unknown_log}
use Rattle.bw_model.proofs.Isolation.{served-not_away}
use Rattle.bw_exchange.specs.AnsweredFrames.{Answered}
use Rattle.bw_exchange.specs.TurnRuns.{answers_in}
use Rattle.bw_kept.specs.FolderRuns.{IsFolderRun, ServesFrame, turn_where, name_of_frame, delay_of}
use Rattle.bw_kept.specs.OwnRuns.{book_of_name, is_own_answer, LeavesOutDelays, RunsAlone, NamesRunAlone}
use Rattle.bw_kept.proofs.KeptForms.{never}

-- a book with this name alone
abbrev alone : List ℕ → Option Log → Book
alone name None = []
alone name (Some l) = (name, l) ∷ []

-- a name's part of a book
record HasPart (name : List ℕ) (o : Option Log) (b : Book) : Type 0 where
  log : log_of b name ≡ unwrap_or o no_log
  known : is_known b name ≡ is_some o

log-alone : (name : List ℕ) (o : Option Log) → log_of (alone name o) name ≡ unwrap_or o no_log
log-alone name None = refl
log-alone name (Some l) = ap (λ (v : Bool). cond v l no_log) (name_refl name)

known-alone : (name : List ℕ) (o : Option Log) → is_known (alone name o) name ≡ is_some o
known-alone name None = refl
known-alone name (Some l) = ap (λ (v : Bool). v || false) (name_refl name)

full-alone : (name : List ℕ) (o : Option Log) → is_full (alone name o) ≡ false
full-alone name None = refl
full-alone name (Some l) = refl

-- the part after a change
abbrev changed : Option Log → Option Log → Option Log
changed o None = o
changed o (Some l) = Some l

change-alone : (name : List ℕ) (o c : Option Log) → with_change (alone name o) name c ≡ alone name (changed o c)
change-alone name o None = refl
change-alone name None (Some l) = refl
change-alone name (Some k) (Some l) =
    ap (λ (v : Bool). cond v ((name, l) ∷ []) ((name, k) ∷ (name, l) ∷ [])) (name_refl name)

change-part : (name : List ℕ) (o c : Option Log) (b : Book) → HasPart name o b →
    HasPart name (changed o c) (with_change b name c)
change-part name o None b h = h
change-part name o (Some l) b h = record { log = log-with_log_same b name l; known = known-with_log_same b name l }

other-part : (name x : List ℕ) (o c : Option Log) (b : Book) → bytes_eq x name ≡ false → HasPart name o b →
    HasPart name o (with_change b x c)
other-part name x o None b n h = h
other-part name x o (Some l) b n h =
    record { log = log-with_log_other b x name l n ∙ h.log; known = known-with_log_other b x name l n ∙ h.known }

-- what is turned away changes nothing
away-none : (taken known full : Bool) (log : Log) (m : Message) (faults : Faults) →
    is_turned_away (turn_by taken known full log m faults).0 ≡ true → (turn_by taken known full log m faults).1 ≡ None
unfolding turn_by
away-none taken known full log m faults =
    go (not known && nat_le window m.number) (not known && full) (is_admissible log m.number && faults.refused)
  where
    go : (u v w : Bool) →
        let x : List Reply × Option Log =
        cond u (notice m TooFar 0, None)
        (cond v (notice m TableFull 0, None)
        (cond w (notice m NoRoom log.done, None)
        ((served taken log m faults.stop).0, Some (served taken log m faults.stop).1))) in
        is_turned_away x.0 ≡ true → x.1 ≡ None
    go true v w h = refl
    go false true w h = refl
    go false false true h = refl
    go false false false h = cc (served-not_away taken log m faults.stop)

not-full : (taken known full : Bool) (log : Log) (m : Message) (faults : Faults) →
    is_turned_away (turn_by taken known full log m faults).0 ≡ false →
    turn_by taken known false log m faults ≡ turn_by taken known full log m faults
unfolding turn_by
not-full taken true full log m faults h = refl
not-full taken false false log m faults h = refl
not-full taken false true log m faults h =
    go (nat_le window m.number)
    (cond {A = List Reply × Option Log} (is_admissible log m.number && faults.refused) (notice m NoRoom log.done, None)
    ((served taken log m faults.stop).0, Some (served taken log m faults.stop).1)) h
  where
    go : (u : Bool) (rest : List Reply × Option Log) →
        is_turned_away (cond {A = List Reply × Option Log} u (notice m TooFar 0, None) (notice m TableFull 0, None)).0
        ≡ false →
        cond {A = List Reply × Option Log} u (notice m TooFar 0, None) rest
        ≡ cond {A = List Reply × Option Log} u (notice m TooFar 0, None) (notice m TableFull 0, None)
    go true rest h = refl
    go false rest h = cc

was_true : (v : Bool) → not v ≡ false → v ≡ true
was_true true e = refl
was_true false e = never (sym e)

was_false : (v : Bool) → not v ≡ true → v ≡ false
was_false true e = never e
was_false false e = refl

-- a frame that isn't the name's own leaves its part
other_frame : (full : Bool) (existed : List ℕ → Bool) (name : List ℕ) (o : Option Log) (b : Book) (f : Frame)
    (faults : Faults) → is_of name f && not (is_turned_away (turn_where full existed b f faults).0) ≡ false →
    HasPart name o b → HasPart name o (with_change b (name_of_frame f) (turn_where full existed b f faults).1)
other_frame full existed name o b (Says m) faults n h = go (bytes_eq m.name name) refl n
  where
    go : (v : Bool) → bytes_eq m.name name ≡ v →
        v && not (is_turned_away (turn_where full existed b (Says m) faults).0) ≡ false →
        HasPart name o (with_change b m.name (turn_where full existed b (Says m) faults).1)
    go false e n = other-part name m.name o _ b e h
    go true e n =
        subst (λ (c : Option Log). HasPart name o (with_change b m.name c))
        (sym (away-none (existed m.name) (is_known b m.name) full (log_of b m.name) m faults (was_true _ n))) h
other_frame full existed name o b (Asks x n) faults e h = h
other_frame full existed name o b Bye faults e h = h

-- the name's own frame, on a book of the name alone
record Alike (full : Bool) (existed : List ℕ → Bool) (name : List ℕ) (o : Option Log) (b : Book) (f : Frame)
    (faults : Faults) : Type 0 where
  later : Option Log
  replies : (turn existed (alone name o) f faults).0 ≡ (turn_where full existed b f faults).0
  book : (turn existed (alone name o) f faults).1 ≡ alone name later
  part : HasPart name later (with_change b (name_of_frame f) (turn_where full existed b f faults).1)

own_message : (full : Bool) (existed : List ℕ → Bool) (m : Message) (o : Option Log) (b : Book) (faults : Faults) →
    is_turned_away (turn_where full existed b (Says m) faults).0 ≡ false → HasPart m.name o b →
    Alike full existed m.name o b (Says m) faults
unfolding turn
own_message full existed m o b faults n h =
    let here = turn_by (existed m.name) (is_known b m.name) full (log_of b m.name) m faults in
    let same : turn_by (existed m.name) (is_known (alone m.name o) m.name) (is_full (alone m.name o))
    (log_of (alone m.name o) m.name) m faults ≡ here =
    ap (λ (v : Bool). turn_by (existed m.name) v (is_full (alone m.name o)) (log_of (alone m.name o) m.name) m faults)
    (known-alone m.name o ∙ sym h.known)
    ∙ ap (λ (v : Bool). turn_by (existed m.name) (is_known b m.name) v (log_of (alone m.name o) m.name) m faults)
    (full-alone m.name o)
    ∙ ap (λ (l : Log). turn_by (existed m.name) (is_known b m.name) false l m faults) (log-alone m.name o ∙ sym h.log)
    ∙ not-full (existed m.name) (is_known b m.name) full (log_of b m.name) m faults n in
    record {
      later = changed o here.1;
      replies = ap (λ (x : List Reply × Option Log). x.0) same;
      book = ap (λ (x : List Reply × Option Log). with_change (alone m.name o) m.name x.1) same
          ∙ change-alone m.name o here.1;
      part = change-part m.name o here.1 b h;
    }

own_frame : (full : Bool) (existed : List ℕ → Bool) (name : List ℕ) (o : Option Log) (b : Book) (f : Frame)
    (faults : Faults) → is_of name f && not (is_turned_away (turn_where full existed b f faults).0) ≡ true →
    HasPart name o b → Alike full existed name o b f faults
unfolding turn
own_frame full existed name o b (Says m) faults own h = go (bytes_eq m.name name) refl own
  where
    go : (v : Bool) → bytes_eq m.name name ≡ v →
        v && not (is_turned_away (turn_where full existed b (Says m) faults).0) ≡ true →
        Alike full existed name o b (Says m) faults
    go false e own = never own
    go true e own =
        let is : m.name ≡ name = same_name m.name name e in
        subst (λ (x : List ℕ). Alike full existed x o b (Says m) faults) is
        (own_message full existed m o b faults (was_false _ own) (subst (λ (x : List ℕ). HasPart x o b) (sym is) h))
own_frame full existed name o b (Asks x n) faults own h = go (bytes_eq x name) refl own
  where
    go : (v : Bool) → bytes_eq x name ≡ v → v && true ≡ true → Alike full existed name o b (Asks x n) faults
    go false e own = never own
    go true e own =
        let is : x ≡ name = same_name x name e in
        record {
          later = o;
          replies = ap (λ (l : Log). Noticed x n Next l.done ∷ [])
              (ap (log_of (alone name o)) is ∙ log-alone name o ∙ sym h.log ∙ ap (log_of b) (sym is));
          book = refl;
          part = h;
        }
own_frame full existed name o b Bye faults own h = never own

-- the run from a name's part
record Alone (existed : List ℕ → Bool) (name : List ℕ) (o : Option Log) (later : Book) (answered : List Answered) :
    Type 0 where
  served : List Answered
  but_delays : LeavesOutDelays (filter (is_own_answer name) answered) served
  received : List (Frame × Faults)
  answers : answers_in (run existed (alone name o) received) ≡ served
  log : log_of (book_after existed (alone name o) received) name ≡ log_of later name

abbrev own_rest : List ℕ → List Answered → List Answered
own_rest name rest = filter (is_own_answer name) rest

alone_from : (existed : List ℕ → Bool) (name : List ℕ) (o : Option Log) (before after : ℕ) (book later : Book)
    (answered : List Answered) → HasPart name o book → IsFolderRun existed before after book answered later →
    Alone existed name o later answered
alone_from existed name o before after book later [] h went = record {
  served = [];
  but_delays = refl;
  received = [];
  answers = refl;
  log = log-alone name o ∙ sym h.log ∙ sym (ap (λ (b : Book). log_of b name) went.1);
}
alone_from existed name o before after book later (a ∷ rest) h (count, mid, turned, more) = elim turned [
  | inl x ↦ by_own (λ p part. alone_from existed name p count after mid later rest part more) x.0 x.1
      (is_own_answer name a) refl
  | inr off ↦ by_delay (λ p part. alone_from existed name p count after mid later rest part more) off.0 off.1
      (is_own_answer name a) refl
]
  where
    by_delay : ((p : Option Log) → HasPart name p mid → Alone existed name p later rest) →
        a.replies ≡ delay_of a.frame → mid ≡ book → (v : Bool) → is_own_answer name a ≡ v →
        Alone existed name o later (a ∷ rest)
    by_delay ih delayed same v e =
        let x = ih o (subst (λ (b : Book). HasPart name o b) (sym same) h) in
        record {
          served = x.served;
          but_delays = left x.served v e x.but_delays;
          received = x.received;
          answers = x.answers;
          log = x.log;
        }
      where
        left : (s : List Answered) (v : Bool) → is_own_answer name a ≡ v → LeavesOutDelays (own_rest name rest) s →
            LeavesOutDelays (own_rest name (a ∷ rest)) s
        left s true e l =
            subst (λ (b : Bool). LeavesOutDelays (cond b (a ∷ own_rest name rest) (own_rest name rest)) s) (sym e)
            (inr (delayed, l))
        left s false e l =
            subst (λ (b : Bool). LeavesOutDelays (cond b (a ∷ own_rest name rest) (own_rest name rest)) s) (sym e) l

    by_own : ((p : Option Log) → HasPart name p mid → Alone existed name p later rest) → (full : Bool) →
        ServesFrame full existed before count book a.frame a.replies mid → (v : Bool) →
        is_own_answer name a ≡ v → Alone existed name o later (a ∷ rest)
    by_own ih full s false e =
        let own : is_of name a.frame && not (is_turned_away (turn_where full existed book a.frame s.faults).0) ≡ false =
        ap (λ (rs : List Reply). is_of name a.frame && not (is_turned_away rs)) s.answered ∙ e in
        let x = ih o
        (subst (λ (b : Book). HasPart name o b) s.left (other_frame full existed name o book a.frame s.faults own h)) in
        record {
          served = x.served;
          but_delays = subst (λ (b : Bool). LeavesOutDelays (cond b (a ∷ own_rest name rest) (own_rest name rest))
              x.served) (sym e) x.but_delays;
          received = x.received;
          answers = x.answers;
          log = x.log;
        }
    by_own ih full s true e =
        let own : is_of name a.frame && not (is_turned_away (turn_where full existed book a.frame s.faults).0) ≡ true =
        ap (λ (rs : List Reply). is_of name a.frame && not (is_turned_away rs)) s.answered ∙ e in
        let t = own_frame full existed name o book a.frame s.faults own h in
        let x = ih t.later (subst (λ (b : Book). HasPart name t.later b) s.left t.part) in
        record {
          served = a ∷ x.served;
          but_delays = subst (λ (b : Bool). LeavesOutDelays (cond b (a ∷ own_rest name rest) (own_rest name rest))
              (a ∷ x.served)) (sym e) (inl (x.served, refl, x.but_delays));
          received = (a.frame, s.faults) ∷ x.received;
          answers =
              ap (λ (rs : List Reply). record { frame = a.frame; replies = rs }
              ∷ answers_in (run existed (turn existed (alone name o) a.frame s.faults).1 x.received))
              (t.replies ∙ s.answered)
              ∙ ap (λ (k : Book). a ∷ answers_in (run existed k x.received)) t.book
              ∙ ap (λ (z : List Answered). a ∷ z) x.answers;
          log = ap (λ (k : Book). log_of (book_after existed k x.received) name) t.book ∙ x.log;
        }

-- where it begins on the book of the name
from_part : (existed : List ℕ → Bool) (name : List ℕ) (o : Option Log) (book later : Book) (answered : List Answered) →
    book_of_name book name ≡ alone name o → Alone existed name o later answered →
    RunsAlone existed name book later answered
from_part existed name o book later answered same x = record {
  served = x.served;
  but_delays = x.but_delays;
  received = x.received;
  answers = ap (λ (b : Book). answers_in (run existed b x.received)) same ∙ x.answers;
  log = ap (λ (b : Book). log_of (book_after existed b x.received) name) same ∙ x.log;
}

pub names_run_alone : NamesRunAlone
names_run_alone existed name before after book later answered went = go (is_known book name) refl
  where
    go : (v : Bool) → is_known book name ≡ v → RunsAlone existed name book later answered
    go true e =
        from_part existed name (Some (log_of book name)) book later answered
        (ap (λ (b : Bool). cond b ((name, log_of book name) ∷ []) []) e)
        (alone_from existed name (Some (log_of book name)) before after book later answered
        (record { log = refl; known = e }) went)
    go false e =
        from_part existed name None book later answered
        (ap (λ (b : Bool). cond b ((name, log_of book name) ∷ []) []) e)
        (alone_from existed name None before after book later answered
        (record { log = unknown_log book name e; known = e }) went)
