-- Frames are answered in batches, and their replies written, until all are or a write fails.
use Rattle.std.proofs.Common.{◌≡◌, ℕ, ◌+◌, ◌≤◌, ◌∷◌, Bool, true, false, ◌||◌, if◌then◌else◌, List, [], ◌++◌, length, Option}
use Rattle.std.proofs.Common.{refl, sym, ap, subst, ◌∙◌, append_assoc, arith}
use Rattle.std.specs.Prelude.{Result, Ok, Err, OnErr, is_some, IfSome, IsTrue}
use Rattle.std.specs.List.{list_all}
use Rattle.std.proofs.lemmas.Bool.{and_parts}
use Rattle.std.proofs.lemmas.List.Folds.{list_all-append}
use Rattle.std.proofs.lemmas.List.{append-nil, length-append}
use Rattle.bw_model.specs.Wire.{Frame}
use Rattle.bw_model.specs.Replies.{Reply, is_reply}
use Rattle.bw_model.specs.Stream.{End}
use Rattle.bw_model.specs.Exchange.{replies_bytes}
use Rattle.bw_stream.specs.Moves.{Writes, Begins}
use Rattle.bw_wire.proofs.StreamRuns.{runs_follow_streams}
use Rattle.bw_exchange.specs.declared.exchange.Exchange.{Exchange}
use Rattle.bw_exchange.specs.declared.step.StreamEnd.{StreamEnd}
use Rattle.bw_exchange.specs.AnsweredFrames.{Answered, AnswersAll, answered_frames, replies_of}
use Rattle.bw_exchange.specs.Bounds.{most_waiting}
use Rattle.bw_exchange.specs.Ends.{end_so_far, IsFinal}
use Rattle.bw_exchange.specs.Done.{last_of, HasDone, DoesMore, AnswersSome, AnswersUpTo, AreFirstOf}
use Rattle.bw_exchange.specs.WholeExchanges.{IsBrokenOff, MayLeave}
use Rattle.bw_exchange.specs.declared.serving.ExchangeEnd.{ExchangeEnd}
use Rattle.bw_exchange.specs.declared.turns.NotKept.{NotKept}
use Rattle.bw_exchange.specs.declared.serving.ExchangeEnd.TheVariants as ends
use Rattle.bw_exchange.specs.Pieces.{EndsUnwritten, WritesAnswers, StopsWriting}
use Rattle.bw_exchange.proofs.Doing.{same_done}
use Rattle.bw_exchange.proofs.Going.{none_so_far, answers_append, does_on}
use Rattle.bw_exchange.proofs.Lawful.{is_exchange}
use Rattle.bw_exchange.proofs.Reading.{writes-none, writes-on, writes-part}
use Rattle.bw_exchange.proofs.Turning.{no_end}

-- ---- all that waits was written

true_false : (b : Bool) → b ≡ true → b ≡ false → ⊥
true_false b is isnt = cc

-- if nothing waits, the bytes that are gone are all replies
pub all_gone : (fed : List ℕ) (xs : List Answered) (gone : List ℕ) (e : Exchange) → HasDone fed xs gone e →
    e.outgoing.items ≡ [] → is_some e.end ≡ false → gone ≡ replies_bytes (replies_of xs)
all_gone fed xs gone e d none running =
    sym (append-nil gone)
    ∙ ap (λ (x : List ℕ). gone ++ x) (sym none)
    ∙ d.written
    ∙ ap (λ (x : Option End). replies_bytes (replies_of xs ++ last_of x)) (none_so_far e.end running)
    ∙ ap replies_bytes (append-nil (replies_of xs))

-- what waits is written
pub writes_first : {S : Type 0} (answers : S → Frame → List Reply → S → Type 0) (s : S) (w w' : Option (List ℕ))
    (e e' : Exchange) → DoesMore e [] [] e.outgoing.items e' → e'.outgoing.items ≡ [] → e'.end ≡ e.end →
    Writes w e.outgoing.items w' → WritesAnswers answers s s w w' e e'
writes_first answers s w w' e e' does none same taken = record {
  answered = [];
  by_server = refl;
  bytes = e.outgoing.items;
  taken = taken;
  does = does;
  none_wait = none;
  stays = λ over. same;
  final = λ running fed before gone d.
      subst (λ (x : Option StreamEnd). IfSome (end_so_far x) IsFinal) (sym same) (no_end e.end running);
}

-- a batch more is answered, and what waits is written
pub writes_more : {S : Type 0} (answers : S → Frame → List Reply → S → Type 0) (n : ℕ) (s mid later : S)
    (w w' w'' : Option (List ℕ)) (a b c e : Exchange) → WritesAnswers answers s mid w w' a b →
    is_some b.end ≡ false → AnswersUpTo answers n mid later b c → DoesMore c [] [] c.outgoing.items e →
    e.outgoing.items ≡ [] → e.end ≡ c.end → Writes w' c.outgoing.items w'' → WritesAnswers answers s later w w'' a e
writes_more answers n s mid later w w' w'' a b c e f running g does none same taken = record {
  answered = f.answered ++ g.answered;
  by_server = answers_append answers f.answered g.answered s mid later f.by_server g.by_server;
  bytes = f.bytes ++ c.outgoing.items;
  taken = writes-on w w' w'' f.bytes c.outgoing.items f.taken taken;
  does = subst (λ (xs : List Answered). DoesMore a [] xs (f.bytes ++ c.outgoing.items) e)
      (append-nil (f.answered ++ g.answered))
      (subst (λ (x : List ℕ). DoesMore a [] ((f.answered ++ g.answered) ++ []) (x ++ c.outgoing.items) e)
      (append-nil f.bytes)
      (does_on a c e [] [] (f.answered ++ g.answered) [] (f.bytes ++ []) c.outgoing.items
      (does_on a b c [] [] f.answered g.answered f.bytes [] f.does g.does) does));
  none_wait = none;
  stays = λ over. absurd (true_false (is_some b.end) (ap is_some (f.stays over) ∙ over) running);
  final = λ _ fed before gone d.
      subst (λ (x : Option StreamEnd). IfSome (end_so_far x) IsFinal) (sym same)
      (g.final running (fed ++ []) (before ++ f.answered) (gone ++ f.bytes) (f.does fed before gone d));
}

-- ---- a write failed

-- what holds anyway holds after an error
pub on_err : {X Y P : Type 0} (r : Result X Y) → P → OnErr r P
on_err (Ok x) p = tt
on_err (Err e) p = p

-- replies with spellings, in two parts
pub spelled_parts : (rs more : List Reply) → IsTrue (list_all is_reply (rs ++ more)) →
    IsTrue (list_all is_reply rs) × IsTrue (list_all is_reply more)
spelled_parts rs more all =
    and_parts (list_all is_reply rs) (list_all is_reply more) (sym (list_all-append is_reply rs more) ∙ all)

-- what is written then, where all replies to the earlier frames were
broken_off : (end : ExchangeEnd) (fed : List ℕ) (earlier last : List Answered) (gone part rest : List ℕ)
    (e : Exchange) → length e.outgoing.items ≤ most_waiting → MayLeave end part →
    HasDone fed (earlier ++ last) gone e → gone ≡ replies_bytes (replies_of earlier) → part ++ rest ≡ e.outgoing.items
    → AreFirstOf (answered_frames (earlier ++ last)) fed × IsBrokenOff end (earlier ++ last) fed (gone ++ part)
    × IsTrue (list_all is_reply (replies_of (earlier ++ last)))
broken_off end fed earlier last gone part rest e most kept d all whole =
    let x = is_exchange runs_follow_streams fed (earlier ++ last) gone e d in (
      subst (AreFirstOf (answered_frames (earlier ++ last))) (append-nil fed) (x.prefix [] refl),
      record {
        end = end_so_far e.end;
        is_end = x.whole;
        unwritten = rest;
        begins = append_assoc gone part rest ∙ ap (λ (y : List ℕ). gone ++ y) whole ∙ d.written;
        few = (let len = length-append part rest in let same = ap (λ (y : List ℕ). length y) whole in
            omega (arith, most, len, same));
        earlier = earlier;
        last = last;
        all = refl;
        more = part;
        kept = kept;
        has_earlier = ap (λ (y : List ℕ). y ++ part) all;
      },
      (spelled_parts (replies_of (earlier ++ last)) (last_of (end_so_far e.end)) d.spelled).0,
    )

-- the first write failed
pub stops_first : {S : Type 0} (answers : S → Frame → List Reply → S → Type 0) (s : S) (w w' : Option (List ℕ))
    (e : Exchange) → length e.outgoing.items ≤ most_waiting → Begins w e.outgoing.items w' →
    StopsWriting answers ends.WriteFault s s w w' e
stops_first answers s w w' e most begins =
    let x = writes-part w w' e.outgoing.items begins in
    record {
      stop = tt;
      answered = [];
      by_server = refl;
      bytes = x.part;
      taken = x.taken;
      reports = λ fed before gone d all.
          broken_off ends.WriteFault fed before [] gone x.part x.rest e most tt
          (same_done fed fed before (before ++ []) gone gone e.framer e.outgoing.items (end_so_far e.end) refl
          (sym (append-nil before)) refl d) all x.whole;
    }

-- a batch was answered, and then this part of its replies was written
stops_after : {S : Type 0} (answers : S → Frame → List Reply → S → Type 0) (end : ExchangeEnd) (n : ℕ)
    (s mid later : S) (w w' w'' : Option (List ℕ)) (a b c : Exchange) (part rest : List ℕ) →
    length c.outgoing.items ≤ most_waiting → EndsUnwritten end → MayLeave end part → WritesAnswers answers s mid w w' a b →
    is_some b.end ≡ false → AnswersUpTo answers n mid later b c → Writes w' part w'' → part ++ rest ≡ c.outgoing.items →
    StopsWriting answers end s later w w'' a
stops_after answers end n s mid later w w' w'' a b c part rest most stop kept f running g taken whole = record {
  stop = stop;
  answered = f.answered ++ g.answered;
  by_server = answers_append answers f.answered g.answered s mid later f.by_server g.by_server;
  bytes = f.bytes ++ part;
  taken = writes-on w w' w'' f.bytes part f.taken taken;
  reports = λ fed before gone d all.
      let earlier = before ++ f.answered in
      let out = gone ++ f.bytes in
      let here = f.does fed before gone d in
      let later_done : HasDone fed (earlier ++ g.answered) out c =
      same_done ((fed ++ []) ++ []) fed (earlier ++ g.answered) (earlier ++ g.answered) (out ++ []) out c.framer
      c.outgoing.items (end_so_far c.end) (append-nil (fed ++ []) ∙ append-nil fed) refl (append-nil out)
      (g.does (fed ++ []) earlier out here) in
      let reported = broken_off end fed earlier g.answered out part rest c most kept later_done
      (all_gone (fed ++ []) earlier out b here f.none_wait running) whole in
      subst (λ (xs : List Answered). AreFirstOf (answered_frames xs) fed
      × IsBrokenOff end xs fed (gone ++ (f.bytes ++ part)) × IsTrue (list_all is_reply (replies_of xs)))
      (append_assoc before f.answered g.answered)
      (subst (λ (y : List ℕ). AreFirstOf (answered_frames (earlier ++ g.answered)) fed
      × IsBrokenOff end (earlier ++ g.answered) fed y × IsTrue (list_all is_reply (replies_of (earlier ++ g.answered))))
      (append_assoc gone f.bytes part) reported);
}

-- a later write failed
pub stops_more : {S : Type 0} (answers : S → Frame → List Reply → S → Type 0) (n : ℕ) (s mid later : S)
    (w w' w'' : Option (List ℕ)) (a b c : Exchange) → length c.outgoing.items ≤ most_waiting →
    WritesAnswers answers s mid w w' a b → is_some b.end ≡ false → AnswersUpTo answers n mid later b c →
    Begins w' c.outgoing.items w'' → StopsWriting answers ends.WriteFault s later w w'' a
stops_more answers n s mid later w w' w'' a b c most f running g begins =
    let x = writes-part w' w'' c.outgoing.items begins in
    stops_after answers ends.WriteFault n s mid later w w' w'' a b c x.part x.rest most tt tt f running g x.taken x.whole

-- a commit failed
pub stops_unkept : {S : Type 0} (answers : S → Frame → List Reply → S → Type 0) (n : ℕ) (s mid later : S)
    (w w' : Option (List ℕ)) (a b c : Exchange) → length c.outgoing.items ≤ most_waiting →
    WritesAnswers answers s mid w w' a b → is_some b.end ≡ false → AnswersUpTo answers n mid later b c →
    (cause : NotKept) → StopsWriting answers (ends.NotKept cause) s later w w' a
stops_unkept answers n s mid later w w' a b c most f running g cause =
    stops_after answers (ends.NotKept cause) n s mid later w w' w' a b c [] c.outgoing.items most tt refl f running g
    (writes-none w') refl

-- the server commits what it has answered, where it has answered any
pub answers_kept : {S : Type 0} (answers : S → Frame → List Reply → S → Type 0) (xs : List Answered) (s t t' : S) →
    1 ≤ length xs → ((first : S) (frame : Frame) (replies : List Reply) → answers first frame replies t →
    answers first frame replies t') → AnswersAll answers s xs t → AnswersAll answers s xs t'
answers_kept answers [] s t t' some k h = absurd (omega (arith, some))
answers_kept answers (a ∷ []) s t t' some k (mid, one, is) =
    (t', k s a.frame a.replies (subst (λ x. answers s a.frame a.replies x) (sym is) one), refl)
answers_kept answers (a ∷ b ∷ xs) s t t' some k (mid, one, more) =
    (mid, one, answers_kept answers (b ∷ xs) mid t t' (omega arith) k more)

-- a frame is answered, then more, and the server commits
pub batch_kept : {S : Type 0} (answers : S → Frame → List Reply → S → Type 0) (n count : ℕ) (one : Bool)
    (s mid t t' : S) (a b c : Exchange) → one ≡ true → AnswersSome answers 1 (if one then 1 else 0) s mid a b →
    is_some b.end ≡ false →
    AnswersSome answers n count mid t b c → ((first : S) (frame : Frame) (replies : List Reply) →
    answers first frame replies t → answers first frame replies t') → AnswersUpTo answers (n + 1) s t' a c
batch_kept answers n count false s mid t t' a b c is f running g k = absurd cc
batch_kept answers n count true s mid t t' a b c is f running g k =
    let len = length-append f.0.answered g.0.answered in
    let one = f.1 in
    record {
      answered = f.0.answered ++ g.0.answered;
      by_server = answers_kept answers (f.0.answered ++ g.0.answered) s t t' (omega (arith, len, one)) k
          (answers_append answers f.0.answered g.0.answered s mid t f.0.by_server g.0.by_server);
      does = does_on a b c [] [] f.0.answered g.0.answered [] [] f.0.does g.0.does;
      most = (let m = g.0.most in omega (arith, m, len, one));
      stops = λ h. g.0.stops (omega (arith, h, len, one));
      final = λ none fed before gone d.
          g.0.final running (fed ++ []) (before ++ f.0.answered) (gone ++ []) (f.0.does fed before gone d);
      uses_up = (let u = f.0.uses_up in let v = g.0.uses_up in omega (arith, u, v, len));
      grows = (let u = f.0.grows in let v = g.0.grows in omega (arith, u, v));
    }

-- no frame is answered, and more may be asked for
pub batch_none : {S : Type 0} (answers : S → Frame → List Reply → S → Type 0) (n : ℕ) (s t : S) (a b : Exchange) →
    AnswersSome answers 1 0 s t a b → AnswersUpTo answers (n + 1) s t a b
batch_none answers n s t a b f =
    let none = f.1 in
    record {
      answered = f.0.answered;
      by_server = f.0.by_server;
      does = f.0.does;
      most = omega (arith, none);
      stops = λ h. f.0.stops (omega (arith, none));
      final = f.0.final;
      uses_up = f.0.uses_up;
      grows = f.0.grows;
    }

-- ---- it ends

-- 1 as long as more may be answered
abbrev pub is_busy : Exchange → ℕ
is_busy e = if e.wants_read || is_some e.end then 0 else 1
