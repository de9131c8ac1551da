-- How a whole exchange ends.
use Rattle.std.proofs.Common.{◌≡◌, ℕ, ◌≤◌, true, false, List, [], ◌++◌, length, Option, Some}
use Rattle.std.proofs.Common.{refl, sym, ap, subst, ◌∙◌, arith, ◌⊎◌, inl, inr}
use Rattle.std.specs.Prelude.{is_some, IfSome, IsTrue}
use Rattle.std.specs.List.{list_all}
use Rattle.std.proofs.lemmas.List.{append-nil}
use Rattle.bw_model.specs.Wire.{Second, Frame}
use Rattle.bw_model.specs.Replies.{Reply, is_reply}
use Rattle.bw_model.specs.Stream.{End, stream_of}
use Rattle.bw_model.specs.Exchange.{replies_bytes}
use Rattle.bw_wire.proofs.StreamRuns.{runs_follow_streams}
use Rattle.bw_exchange.specs.declared.exchange.Exchange.{Exchange}
use Rattle.bw_exchange.specs.declared.serving.ExchangeEnd.{ExchangeEnd}
use Rattle.bw_exchange.specs.declared.serving.ExchangeEnd.TheVariants as ends
use Rattle.bw_exchange.specs.declared.step.StreamEnd.{StreamEnd}
use Rattle.bw_exchange.specs.declared.step.StreamEnd.TheVariants as streams
use Rattle.bw_exchange.specs.AnsweredFrames.{Answered, answered_frames, replies_of}
use Rattle.bw_exchange.specs.Ends.{end_meaning, end_so_far, IsFinal}
use Rattle.bw_exchange.specs.Done.{last_of, AreFirstOf}
use Rattle.bw_exchange.specs.WholeExchanges.{most_reads, ended_by, HasGiven, HasNoneLeft, ReachesEnd, AnswersAllRead, EndsBy}
use Rattle.bw_exchange.specs.WholeExchanges.{IsBrokenOff, Serves, ReadsNoFurther, reads_failed, writes_failed, IsLimited}
use Rattle.bw_wire.specs.Held.{longest_message_piece}
use Rattle.bw_exchange.specs.Pieces.{FeedsNext, EndsUnwritten, StopsReading, WritesAnswers, StopsWriting}
use Rattle.bw_exchange.proofs.Going.{answers_append}
use Rattle.bw_exchange.proofs.Lawful.{is_exchange}
use Rattle.bw_exchange.proofs.Reading.{has_given-none, has_given-on, writes-none, writes-on}
use Rattle.bw_exchange.proofs.Writing.{all_gone, spelled_parts}
use Rattle.bw_exchange.proofs.Whole.{SoFar, done_piece, fed_done}

-- after a piece all replies are written
gone_so_far : {S : Type 0} (answers : S → Frame → List Reply → S → Type 0) (reads : ℕ) (s later : S)
    (left left' w w' : Option (List ℕ)) (e : Exchange) → (f : SoFar answers reads s later left left' w w' e) →
    f.output ≡ replies_bytes (replies_of f.answered)
gone_so_far answers reads s later left left' w w' e f =
    all_gone f.input f.answered f.output e f.done f.none_wait (e.«open» f.wants_read)

all_read : {S : Type 0} (answers : S → Frame → List Reply → S → Type 0) (reads : ℕ) (s later : S)
    (left left' w w' : Option (List ℕ)) (e : Exchange) → (f : SoFar answers reads s later left left' w w' e) →
    AnswersAllRead f.answered f.input f.output
all_read answers reads s later left left' w w' e f = record {
  frames = (is_exchange runs_follow_streams f.input f.answered f.output e f.done).wants_read f.wants_read;
  unended = (is_exchange runs_follow_streams f.input f.answered f.output e f.done).unended f.wants_read;
  written = gone_so_far answers reads s later left left' w w' e f;
}

-- the answered frames are the first of what was read
first_read : {S : Type 0} (answers : S → Frame → List Reply → S → Type 0) (reads : ℕ) (s later : S)
    (left left' w w' : Option (List ℕ)) (e : Exchange) → (f : SoFar answers reads s later left left' w w' e) →
    AreFirstOf (answered_frames f.answered) f.input
first_read answers reads s later left left' w w' e f =
    subst (AreFirstOf (answered_frames f.answered)) (append-nil f.input)
    ((is_exchange runs_follow_streams f.input f.answered f.output e f.done).prefix [] refl)

-- no end was found so far, so what is read from here on is the last piece
no_further : {S : Type 0} (answers : S → Frame → List Reply → S → Type 0) (reads : ℕ) (s later : S)
    (left left' w w' : Option (List ℕ)) (e : Exchange) → (f : SoFar answers reads s later left left' w w' e) →
    (piece : List ℕ) → length piece ≤ longest_message_piece → ReadsNoFurther (f.input ++ piece)
no_further answers reads s later left left' w w' e f piece short = record {
  before = f.input;
  last = piece;
  all = refl;
  short = short;
  unended = (is_exchange runs_follow_streams f.input f.answered f.output e f.done).unended f.wants_read;
}

no_more : {S : Type 0} (answers : S → Frame → List Reply → S → Type 0) (reads : ℕ) (s later : S)
    (left left' w w' : Option (List ℕ)) (e : Exchange) → (f : SoFar answers reads s later left left' w w' e) →
    ReadsNoFurther f.input
no_more answers reads s later left left' w w' e f =
    subst ReadsNoFurther (append-nil f.input)
    (no_further answers reads s later left left' w w' e f [] (omega arith))

-- each reply so far has a spelling
all_spelled : {S : Type 0} (answers : S → Frame → List Reply → S → Type 0) (reads : ℕ) (s later : S)
    (left left' w w' : Option (List ℕ)) (e : Exchange) → (f : SoFar answers reads s later left left' w w' e) →
    IsTrue (list_all is_reply (replies_of f.answered))
all_spelled answers reads s later left left' w w' e f =
    (spelled_parts (replies_of f.answered) (last_of (end_so_far e.end)) f.done.spelled).0

-- no bytes have no final end
nothing_ends : IsFinal (stream_of Second []).1 → ⊥
unfolding stream_of
nothing_ends final = final

-- there was no memory for it
pub no_memory : {S : Type 0} (answers : S → Frame → List Reply → S → Type 0) (s : S) (left w : Option (List ℕ)) →
    Serves answers ends.Memory s s left left w w
no_memory answers s left w = record {
  answered = [];
  by_server = refl;
  input = [];
  given = has_given-none left left (λ xs e. e);
  no_further = record { before = []; last = []; all = refl; short = omega arith; unended = λ final. nothing_ends final };
  output = [];
  taken = writes-none w;
  prefix = (_, refl);
  spelled = refl;
  by_end = (inl refl, refl);
}

-- no piece more was read
pub no_more_read : {S : Type 0} (answers : S → Frame → List Reply → S → Type 0) (reads : ℕ) (s later : S)
    (left left' left'' w w' : Option (List ℕ)) (e : Exchange) (end : ExchangeEnd) →
    SoFar answers reads s later left left' w w' e → StopsReading end left' left'' →
    Serves answers end s later left left'' w w'
no_more_read answers reads s later left left' left'' w w' e ends.Bye f stops = absurd stops
no_more_read answers reads s later left left' left'' w w' e ends.EndOfInput f stops = absurd stops
no_more_read answers reads s later left left' left'' w w' e (ends.BadFrame fault) f stops = absurd stops
no_more_read answers reads s later left left' left'' w w' e ends.WriteFault f stops = absurd stops
no_more_read answers reads s later left left' left'' w w' e (ends.NotKept cause) f stops = absurd stops
no_more_read answers reads s later left left' left'' w w' e ends.TurnLimit f stops = absurd stops
no_more_read answers reads s later left left' left'' w w' e ends.ReadFault f stops = record {
  answered = f.answered;
  by_server = f.by_server;
  input = f.input;
  given = λ xs h. let x = f.given xs h in (x.0, stops x.0 x.1, x.2);
  no_further = no_more answers reads s later left left' w w' e f;
  output = f.output;
  taken = f.taken;
  prefix = first_read answers reads s later left left' w w' e f;
  spelled = all_spelled answers reads s later left left' w w' e f;
  by_end = all_read answers reads s later left left' w w' e f;
}
no_more_read answers reads s later left left' left'' w w' e ends.Memory f stops = record {
  answered = f.answered;
  by_server = f.by_server;
  input = f.input ++ stops.0;
  given = has_given-on left left' left'' f.input stops.0 f.given stops.2;
  no_further = no_further answers reads s later left left' w w' e f stops.0 stops.3;
  output = f.output;
  taken = f.taken;
  prefix = (is_exchange runs_follow_streams f.input f.answered f.output e f.done).prefix stops.0 stops.1;
  spelled = all_spelled answers reads s later left left' w w' e f;
  by_end = (
    inr (record {
      before = f.input;
      last = stops.0;
      all = refl;
      short = stops.3;
      some = stops.4;
      frames = (all_read answers reads s later left left' w w' e f).frames;
    }),
    gone_so_far answers reads s later left left' w w' e f,
  );
}

-- a write failed, or a commit
pub write_failed : {S : Type 0} (answers : S → Frame → List Reply → S → Type 0) (end : ExchangeEnd) (reads : ℕ)
    (s mid later : S)
    (left left' left'' w w' w'' : Option (List ℕ)) (moved moved' : ℕ) (a b : Exchange) →
    SoFar answers reads s mid left left' w w' a → FeedsNext left' left'' moved moved' a b →
    StopsWriting answers end mid later w' w'' b → Serves answers end s later left left'' w w''
write_failed answers end reads s mid later left left' left'' w w' w'' moved moved' a b f n g =
    let reported = g.reports (f.input ++ n.piece) f.answered f.output
    (fed_done f.input n.piece f.output f.answered a b f.done n.does)
    (gone_so_far answers reads s mid left left' w w' a f) in
    record {
      answered = f.answered ++ g.answered;
      by_server = answers_append answers f.answered g.answered s mid later f.by_server g.by_server;
      input = f.input ++ n.piece;
      given = has_given-on left left' left'' f.input n.piece f.given n.given;
      no_further = no_further answers reads s mid left left' w w' a f n.piece n.short;
      output = f.output ++ g.bytes;
      taken = writes-on w w' w'' f.output g.bytes f.taken g.taken;
      prefix = reported.0;
      spelled = reported.2;
      by_end = broken_by end g.stop reported.1;
    }
  where
    broken_by : (x : ExchangeEnd) → EndsUnwritten x →
        IsBrokenOff x (f.answered ++ g.answered) (f.input ++ n.piece) (f.output ++ g.bytes) →
        EndsBy x left left'' (f.answered ++ g.answered) (f.input ++ n.piece) (f.output ++ g.bytes)
    broken_by ends.WriteFault stop h = h
    broken_by (ends.NotKept cause) stop h = h
    broken_by ends.Bye stop h = absurd stop
    broken_by ends.EndOfInput stop h = absurd stop
    broken_by (ends.BadFrame fault) stop h = absurd stop
    broken_by ends.ReadFault stop h = absurd stop
    broken_by ends.TurnLimit stop h = absurd stop
    broken_by ends.Memory stop h = absurd stop

-- no read failed then, and no limit was reached
pub stopped_writing : (end : ExchangeEnd) → EndsUnwritten end → (n m m' c c' : ℕ) →
    (n ≡ reads_failed end n) × IsLimited end m m' c c'
stopped_writing ends.WriteFault stop n m m' c c' = (refl, tt)
stopped_writing (ends.NotKept cause) stop n m m' c c' = (refl, tt)
stopped_writing ends.Bye stop n m m' c c' = absurd stop
stopped_writing ends.EndOfInput stop n m m' c c' = absurd stop
stopped_writing (ends.BadFrame fault) stop n m m' c c' = absurd stop
stopped_writing ends.ReadFault stop n m m' c c' = absurd stop
stopped_writing ends.TurnLimit stop n m m' c c' = absurd stop
stopped_writing ends.Memory stop n m m' c c' = absurd stop

-- the limit of reads was reached
pub limit_reached : {S : Type 0} (answers : S → Frame → List Reply → S → Type 0) (reads : ℕ) (s later : S)
    (left left' w w' : Option (List ℕ)) (e : Exchange) → SoFar answers reads s later left left' w w' e →
    most_reads ≤ reads → Serves answers ends.TurnLimit s later left left' w w'
limit_reached answers reads s later left left' w w' e f often = record {
  answered = f.answered;
  by_server = f.by_server;
  input = f.input;
  given = f.given;
  no_further = no_more answers reads s later left left' w w' e f;
  output = f.output;
  taken = f.taken;
  prefix = first_read answers reads s later left left' w w' e f;
  spelled = all_spelled answers reads s later left left' w w' e f;
  by_end = (all_read answers reads s later left left' w w' e f, omega (arith, often, f.least));
}

-- what holds of the stream's end holds of the exchange's
by_stream_end : (end : StreamEnd) (left left' : Option (List ℕ)) (xs : List Answered) (input output : List ℕ) →
    ReachesEnd (end_meaning end) left left' xs input output → EndsBy (ended_by end) left left' xs input output
by_stream_end streams.Bye left left' xs input output r = r
by_stream_end streams.EndOfInput left left' xs input output r = r
by_stream_end (streams.BadFrame fault) left left' xs input output r = r

-- the end of what was read is that of all that the reader had
whole_input : (left left' : Option (List ℕ)) (input : List ℕ) (fs : List Frame) (end : End) → HasGiven left input left'
    → IsFinal end ⊎ HasNoneLeft left left' → stream_of Second input ≡ (fs, end)
    → (IsFinal end → (more : List ℕ) → stream_of Second (input ++ more) ≡ (fs, end))
    → (xs : List ℕ) → left ≡ Some xs → stream_of Second xs ≡ (fs, end)
whole_input left left' input fs end given (inl final) stream settled xs e =
    let x = given xs e in ap (stream_of Second) (sym x.2) ∙ settled final x.0
whole_input left left' input fs end given (inr none) stream settled xs e =
    let x = given xs e in
    let rest : x.0 ≡ [] = some_same x.0 [] (sym x.1 ∙ none xs e) in
    ap (stream_of Second) (sym x.2 ∙ ap (λ (y : List ℕ). input ++ y) rest ∙ append-nil input) ∙ stream
  where
    some_same : (a b : List ℕ) → Some a ≡ Some b → a ≡ b
    some_same a b h = cc

-- its stream has ended
pub stream_ended : {S : Type 0} (answers : S → Frame → List Reply → S → Type 0) (reads : ℕ) (s mid later : S)
    (left left' left'' w w' w'' : Option (List ℕ)) (moved moved' : ℕ) (a b c : Exchange) (end : StreamEnd) →
    SoFar answers reads s mid left left' w w' a → FeedsNext left' left'' moved moved' a b →
    WritesAnswers answers mid later w' w'' b c → c.end ≡ Some end →
    Serves answers (ended_by end) s later left left'' w w''
stream_ended answers reads s mid later left left' left'' w w' w'' moved moved' a b c end f n g is =
    let xs = f.answered ++ g.answered in
    let input = f.input ++ n.piece in
    let output = f.output ++ g.bytes in
    let x = is_exchange runs_follow_streams input xs output c
    (done_piece f.input n.piece f.output g.bytes f.answered g.answered a b c f.done n.does g.does) in
    let given = has_given-on left left' left'' f.input n.piece f.given n.given in
    let stream : stream_of Second input ≡ (answered_frames xs, end_meaning end) =
    subst (λ (o : Option StreamEnd). IfSome (end_so_far o) (λ y. stream_of Second input ≡ (answered_frames xs, y)))
    is x.whole in
    let settled : IsFinal (end_meaning end) → (more : List ℕ) →
    stream_of Second (input ++ more) ≡ (answered_frames xs, end_meaning end) =
    subst (λ (o : Option StreamEnd). IfSome (end_so_far o) (λ y. IsFinal y → (more : List ℕ) →
    stream_of Second (input ++ more) ≡ (answered_frames xs, y))) is x.settled in
    let drained = drained_by n.by_end in
    record {
      answered = xs;
      by_server = answers_append answers f.answered g.answered s mid later f.by_server g.by_server;
      input = input;
      given = given;
      no_further = no_further answers reads s mid left left' w w' a f n.piece n.short;
      output = output;
      taken = writes-on w w' w'' f.output g.bytes f.taken g.taken;
      prefix = subst (AreFirstOf (answered_frames xs)) (append-nil input) (x.prefix [] refl);
      spelled = (spelled_parts (replies_of xs) (last_of (end_so_far c.end)) x.spelled).0;
      by_end = by_stream_end end left left'' xs input output (record {
        stream = stream;
        whole = whole_input left left'' input (answered_frames xs) (end_meaning end) given drained stream settled;
        drained = drained;
        written = sym (append-nil output) ∙ ap (λ (y : List ℕ). output ++ y) (sym g.none_wait) ∙ x.written
            ∙ ap (λ (o : Option StreamEnd). replies_bytes (replies_of xs ++ last_of (end_so_far o))) is;
        spelled = ap (λ (o : Option StreamEnd). list_all is_reply (last_of (end_so_far o))) (sym is)
            ∙ (spelled_parts (replies_of xs) (last_of (end_so_far c.end)) x.spelled).1;
      });
    }
  where
    drained_by : ((is_some b.end ≡ false) × (1 ≤ length n.piece)) ⊎ ((is_some b.end ≡ true) × HasNoneLeft left' left'')
        → IsFinal (end_meaning end) ⊎ HasNoneLeft left left''
    drained_by (inl y) =
        inl (subst (λ (o : Option StreamEnd). IfSome (end_so_far o) IsFinal) is
        (g.final y.0 (f.input ++ n.piece) f.answered f.output
        (fed_done f.input n.piece f.output f.answered a b f.done n.does)))
    drained_by (inr y) = inr (λ xs e. let x = f.given xs e in y.1 x.0 x.1)

-- ---- counts

-- if no piece was read, no write failed, and no limit was reached
pub stopped_counts : (end : ExchangeEnd) (left left' : Option (List ℕ)) → StopsReading end left left' →
    (n m m' c c' : ℕ) → (n ≡ writes_failed end n) × IsLimited end m m' c c'
stopped_counts ends.Bye left left' stops n m m' c c' = absurd stops
stopped_counts ends.EndOfInput left left' stops n m m' c c' = absurd stops
stopped_counts (ends.BadFrame fault) left left' stops n m m' c c' = absurd stops
stopped_counts ends.WriteFault left left' stops n m m' c c' = absurd stops
stopped_counts (ends.NotKept cause) left left' stops n m m' c c' = absurd stops
stopped_counts ends.TurnLimit left left' stops n m m' c c' = absurd stops
stopped_counts ends.ReadFault left left' stops n m m' c c' = (refl, tt)
stopped_counts ends.Memory left left' stops n m m' c c' = (refl, tt)

-- if the stream ended, no call failed
pub ended_counts : (end : StreamEnd) (n m m' c c' : ℕ) →
    (n ≡ reads_failed (ended_by end) n) × (n ≡ writes_failed (ended_by end) n) × IsLimited (ended_by end) m m' c c'
ended_counts streams.Bye n m m' c c' = (refl, refl, tt)
ended_counts streams.EndOfInput n m m' c c' = (refl, refl, tt)
ended_counts (streams.BadFrame fault) n m m' c c' = (refl, refl, tt)
