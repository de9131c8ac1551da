-- Inputs whose run goes well, as the definitions' exchanges.
use Rattle.std.proofs.Common.{◌≡◌, ℕ, Bool, false, List, [], ◌∷◌, ◌++◌, length, Option, Some, None}
use Rattle.std.proofs.Common.{refl, sym, ◌∙◌, ap, arith, ◌||◌}
use Rattle.std.specs.Prelude.{map, flat_map}
use Rattle.std.specs.List.{AllByRecursion, list_any}
use Rattle.std.proofs.lemmas.Bool.{or_parts}
use Rattle.std.proofs.lemmas.List.{map-append, length-append}
use Rattle.std.proofs.lemmas.List.Folds.{list_any-append, flat_map-map}
use Rattle.std.proofs.lemmas.Grind.{flat_map-append}
use Rattle.bw_model.specs.Wire.{Second, Frame}
use Rattle.bw_model.specs.Replies.{Reply}
use Rattle.bw_model.specs.Stream.{End, stream_of}
use Rattle.bw_model.specs.Book.{Book}
use Rattle.bw_model.specs.Turn.{Turn, good, turn, run, book_after}
use Rattle.bw_model.specs.NumberOrder.{reports_failure}
use Rattle.bw_model.specs.Exchange.{replies_bytes, last_reply, exchange, exchanges}
use Rattle.bw_exchange.specs.AnsweredFrames.{Answered, answered_frames, replies_of}
use Rattle.bw_exchange.specs.TurnRuns.{run_without_faults}
use Rattle.bw_session.specs.IngestRuns.{ServedInput, WasServed, IsServedTo, IsServedWhole, answered_in, ingested_end, input_frames}
use Rattle.bw_session.specs.IngestRuns.{IsShort, ReportsNoFailure}
use Rattle.bw_exchange.proofs.GoodRuns.{GoesWell, good_run}

-- a short input that was served, with its end
record ToItsEnd (x : ServedInput) : Type 0 where
  end : End
  is : ingested_end x.end ≡ Some end
  whole : IsServedWhole x end

to_its_end : (x : ServedInput) → WasServed x → IsShort x.input → ToItsEnd x
to_its_end x h short = go (ingested_end x.end) refl h
  where
    go : (o : Option End) → ingested_end x.end ≡ o → IsServedTo o x → ToItsEnd x
    go (Some end) e h = record { end = end; is = e; whole = h }
    go None e h =
        let long = h.long in
        let len = ap length (sym h.all) ∙ length-append h.bytes_read h.unread in
        absurd (omega (arith, long, len, short))

-- the frames that were answered are those of the inputs
pub frames_answered : (went : List ServedInput) → AllByRecursion WasServed went →
    AllByRecursion IsShort (map (λ x. x.input) went) →
    answered_frames (answered_in went) ≡ input_frames (map (λ x. x.input) went)
frames_answered [] h short = refl
frames_answered (x ∷ went) h short =
    let one = to_its_end x h.0 short.0 in
    map-append (λ (a : Answered). a.frame) x.answered (answered_in went)
    ∙ ap (λ (fs : List Frame). fs ++ answered_frames (answered_in went))
    (sym (ap (λ (s : List Frame × End). s.0) one.whole.stream))
    ∙ ap (λ (fs : List Frame). (stream_of Second x.input).0 ++ fs) (frames_answered went h.1 short.1)

-- if what was written reports no failure, no reply did
pub none_wanted : (went : List ServedInput) → AllByRecursion WasServed went →
    AllByRecursion IsShort (map (λ x. x.input) went) → AllByRecursion ReportsNoFailure (map (λ x. x.written) went) →
    list_any reports_failure (replies_of (answered_in went)) ≡ false
none_wanted [] h short reported = refl
none_wanted (x ∷ went) h short reported =
    let one = to_its_end x h.0 short.0 in
    let here = or_parts (list_any reports_failure (replies_of x.answered)) (list_any reports_failure (last_reply one.end))
    (sym (list_any-append reports_failure (replies_of x.answered) (last_reply one.end))
    ∙ reported.0 (replies_of x.answered ++ last_reply one.end) one.whole.spelled one.whole.replies) in
    ap (list_any reports_failure) (flat_map-append (λ (a : Answered). a.replies) x.answered (answered_in went))
    ∙ list_any-append reports_failure (replies_of x.answered) (replies_of (answered_in went))
    ∙ ap (λ (b : Bool). b || list_any reports_failure (replies_of (answered_in went))) here.0
    ∙ none_wanted went h.1 short.1 reported.1

-- A run that goes well, exchange by exchange.

abbrev pub following : (List ℕ → Bool) → Book → List Answered → Book
following existed book answered = book_after existed book (run_without_faults (answered_frames answered))

pub record GoesWellTwice (existed : List ℕ → Bool) (book : Book) (xs ys : List Answered) (later : Book) : Type 0 where
  pub first : GoesWell existed book xs (following existed book xs)
  pub then : GoesWell existed (following existed book xs) ys later

pub well_parts : (existed : List ℕ → Bool) (book : Book) (xs ys : List Answered) (later : Book) →
    GoesWell existed book (xs ++ ys) later → GoesWellTwice existed book xs ys later
well_parts existed book [] ys later h = record { first = refl; then = h }
well_parts existed book (x ∷ xs) ys later h =
    let more = well_parts existed (turn existed book x.frame good).1 xs ys later h.1 in
    record { first = (h.0, more.first); then = more.then }

pub replies_well : (existed : List ℕ → Bool) (book : Book) (answered : List Answered) (later : Book) →
    GoesWell existed book answered later →
    flat_map (λ t. t.replies) (run existed book (run_without_faults (answered_frames answered))) ≡ replies_of answered
replies_well existed book answered later h =
    sym (flat_map-map (λ (a : Answered). a.replies) (λ (t : Turn). record { frame = t.frame; replies = t.replies })
    (run existed book (run_without_faults (answered_frames answered))))
    ∙ ap replies_of (good_run existed book answered later h).answers

pub record AreAlike (existed : List ℕ → Bool) (book : Book) (went : List ServedInput) : Type 0 where
  pub written : map (λ x. x.written) went
      ≡ map (λ x. replies_bytes x.replies) (exchanges existed book (map (λ x. x.input) went))
  pub ends : map ingested_end (map (λ x. x.end) went)
      ≡ map (λ x. Some x.end) (exchanges existed book (map (λ x. x.input) went))

pub exchanges_well : (existed : List ℕ → Bool) (book : Book) (went : List ServedInput) (later : Book) →
    AllByRecursion WasServed went → AllByRecursion IsShort (map (λ x. x.input) went) →
    GoesWell existed book (answered_in went) later → AreAlike existed book went
exchanges_well existed book [] later h short well = record { written = refl; ends = refl }
exchanges_well existed book (x ∷ went) later h short well =
    let one = to_its_end x h.0 short.0 in
    let parts = well_parts existed book x.answered (answered_in went) later well in
    let left : (exchange existed book x.input).book ≡ following existed book x.answered =
    ap (λ (s : List Frame × End). book_after existed book (run_without_faults s.0)) one.whole.stream in
    let more = exchanges_well existed (following existed book x.answered) went later h.1 short.1 parts.then in
    let replies : (exchange existed book x.input).replies ≡ replies_of x.answered ++ last_reply one.end =
    ap (λ (s : List Frame × End). flat_map (λ t. t.replies) (run existed book (run_without_faults s.0)) ++ last_reply s.1)
    one.whole.stream
    ∙ ap (λ (rs : List Reply). rs ++ last_reply one.end)
    (replies_well existed book x.answered (following existed book x.answered) parts.first) in
    record {
      written = ap (λ (ws : List (List ℕ)). x.written ∷ ws) more.written
          ∙ ap (λ (b : Book). x.written
          ∷ map (λ x. replies_bytes x.replies) (exchanges existed b (map (λ x. x.input) went))) (sym left)
          ∙ ap (λ (w : List ℕ). w ∷ map (λ x. replies_bytes x.replies)
          (exchanges existed (exchange existed book x.input).book (map (λ x. x.input) went)))
          (one.whole.replies ∙ ap replies_bytes (sym replies));
      ends = ap (λ (es : List (Option End)). ingested_end x.end ∷ es) more.ends
          ∙ ap (λ (b : Book). ingested_end x.end
          ∷ map (λ x. Some x.end) (exchanges existed b (map (λ x. x.input) went))) (sym left)
          ∙ ap (λ (o : Option End). o ∷ map (λ x. Some x.end)
          (exchanges existed (exchange existed book x.input).book (map (λ x. x.input) went)))
          (one.is ∙ ap (λ (s : List Frame × End). Some s.1) (sym one.whole.stream));
    }
