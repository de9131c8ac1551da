-- What a replay reports of its run.
use Rattle.std.proofs.Common.{◌≡◌, ◌∙◌, ℕ, ◌≤◌, Bool, List, [], ◌∷◌, ◌++◌, length, map, Option, Some, None, refl}
use Rattle.std.proofs.Common.{sym, ap, subst, arith, true, false, ◌⊎◌, inl, ◌||◌, ◌<◌, ◌+◌, ◌*◌, nat_lt, cond}
use Rattle.std.proofs.Math.Path.{fun_ext}
use Rattle.std.specs.Prelude.{flat_map, is_some, IsTrue, Vec, All}
use Rattle.std.specs.List.{AllByRecursion, list_any}
use Rattle.std.specs.declared.alloc.Global.{Global}
use Rattle.std.proofs.lemmas.Bool.{or_parts}
use Rattle.std.proofs.lemmas.List.{map-append, length-append}
use Rattle.std.proofs.lemmas.List.Folds.{list_any-append, flat_map-map}
use Rattle.std.proofs.lemmas.List.Elements.{All-head, All-tail}
use Rattle.std.proofs.lemmas.Grind.{flat_map-append}
use Rattle.bw_model.specs.Wire.{Second, Frame}
use Rattle.bw_model.specs.Replies.{Reply}
use Rattle.bw_model.specs.Stream.{End, EndOfInput, SaidBye, BadFrame, stream_of}
use Rattle.bw_model.specs.Book.{Book, log_of}
use Rattle.bw_model.specs.Counts.{last_count}
use Rattle.bw_model.specs.CountedTurn.{is_pending, is_delayed}
use Rattle.bw_model.proofs.TurnLaws.{delays_counted}
use Rattle.bw_model.specs.Holds.{Holds}
use Rattle.bw_model.specs.Turn.{run, book_after}
use Rattle.bw_model.specs.NumberOrder.{AreInOrder, reports_failure}
use Rattle.bw_model.specs.Exchange.{exchange, exchanges, last_reply, nothing_stands, take_in, content_in}
use Rattle.std.proofs.Common.{Result, Ok, Err, IfOk, OnOk}
use Rattle.bw_store.specs.Memory.{content_under}
use Rattle.bw_store.specs.MemoryNames.{AreNames, names_of}
use Rattle.bw_store.specs.declared.memory.MemoryStore.{MemoryStore}
use Rattle.bw_store.specs.declared.store.TakeStore.{Ghosts as StoreGhosts}
use Rattle.bw_session.specs.NextNumbers.{failed_calls}
use Rattle.bw_console.specs.Input.{longest_input}
use Rattle.bw_commands.specs.Runs.{ReportedExchange, reported_of, replies_reported, ReportsInput}
use Rattle.bw_commands.specs.Runs.{ReportInputs, ReportsExchange, AllReport}
use Rattle.bw_commands.specs.OneFuse.{failures_under, SufficeForAll}
use Rattle.bw_commands.specs.Replays.{IsRunText}
use Rattle.bw_commands.specs.Runs.{IsReplayRun, AreExchangesOf, empty_contents}
use Rattle.bw_commands.specs.Text.{exchanges_text, files_text}
use Rattle.bw_exchange.specs.AnsweredFrames.{Answered, answered_frames, replies_of}
use Rattle.bw_exchange.specs.TurnRuns.{IsRun as IsRun', run_without_faults}
use Rattle.bw_session.specs.IngestRuns.{ServedInput, WasServed, IsServedTo, LeavesRun, answered_in, ingested_end, input_frames}
use Rattle.bw_session.specs.IngestRuns.{AreServed, input_bytes}
use Rattle.bw_session.specs.ServerRuns.{all_done}
use Rattle.bw_session.specs.declared.ingest.Run.{Run}
use Rattle.bw_exchange.specs.declared.serving.ExchangeEnd.{ExchangeEnd}
use Rattle.bw_commands.proofs.FaultLaws.{counted_up}
use Rattle.bw_commands.proofs.QuietLemmas.{run_rises, quiet_run}
use Rattle.bw_exchange.proofs.GoodRuns.{GoesWell, good_run, in_order_well, turns_are_runs}
use Rattle.bw_session.proofs.GoodExchanges.{following, well_parts, replies_well}

same_head : {X : Type 0} {x y : X} {xs ys : List X} → x ∷ xs ≡ y ∷ ys → x ≡ y
same_head e = cc

same_tail : {X : Type 0} {x y : X} {xs ys : List X} → x ∷ xs ≡ y ∷ ys → xs ≡ ys
same_tail e = cc

-- what an input that was served reports
record GivesReport (x : ServedInput) (t : ReportedExchange) : Type 0 where
  stream : ReportsInput x.input x.answered t
  kept : ReportsExchange x.written x.end t

-- a short input is served whole
reports_one : (x : ServedInput) → WasServed x → length x.input ≤ longest_input → (t : ReportedExchange) × GivesReport x t
reports_one x served short = go (ingested_end x.end) refl served
  where
    go : (o : Option End) → ingested_end x.end ≡ o → IsServedTo o x → (t : ReportedExchange) × GivesReport x t
    go None is cut =
        let long = cut.long in
        let len = ap length (sym cut.all) ∙ length-append cut.bytes_read cut.unread in
        absurd (omega (arith, long, len, short))
    go (Some end) is whole = (
      record { replies = replies_of x.answered ++ last_reply end; end = end },
      record {
        stream = record { stream = whole.stream; replies = refl };
        kept = record { replies = whole.replies; spelled = whole.spelled; ended = is };
      },
    )

-- what all of them report
record ReportAll (went : List ServedInput) (rs : List (Vec ℕ Global)) (es : List ExchangeEnd) : Type 0 where
  reported : List ReportedExchange
  streams : ReportInputs (map (λ x. x.input) went) (map (λ x. x.answered) went) reported
  kept : AllReport rs es reported

report_all : (went : List ServedInput) (rs : List (Vec ℕ Global)) (es : List ExchangeEnd) →
    AllByRecursion WasServed went → AllByRecursion (λ xs. length xs ≤ longest_input) (map (λ x. x.input) went) →
    map (λ x. x.written) went ≡ map (λ r. r.items) rs → map (λ x. x.end) went ≡ es → ReportAll went rs es
report_all [] [] [] served short written ends = record { reported = []; streams = tt; kept = tt }
report_all [] [] (e ∷ es) served short written ends = absurd (cc)
report_all [] (r ∷ rs) es served short written ends = absurd (cc)
report_all (x ∷ went) [] es served short written ends = absurd (cc)
report_all (x ∷ went) (r ∷ rs) [] served short written ends = absurd (cc)
report_all (x ∷ went) (r ∷ rs) (e ∷ es) served short written ends =
    let one = reports_one x served.0 short.0 in
    let more = report_all went rs es served.1 short.1 (same_tail written) (same_tail ends) in
    record {
      reported = one.0 ∷ more.reported;
      streams = (one.1.stream, more.streams);
      kept = (
        subst (λ (y : ExchangeEnd). ReportsExchange r.items y one.0) (same_head ends)
            (subst (λ (y : List ℕ). ReportsExchange y x.end one.0) (same_head written) one.1.kept),
        more.kept,
      );
    }

-- Inputs whose exchanges are reported, one by one.

abbrev joined : List (List Answered) → List Answered
joined answered = flat_map (λ a. a) answered

-- the frames that were answered are those of the inputs
frames_reported : (inputs : List (List ℕ)) (answered : List (List Answered)) (reported : List ReportedExchange) →
    ReportInputs inputs answered reported → answered_frames (joined answered) ≡ input_frames inputs
frames_reported [] [] [] reports = refl
frames_reported [] [] (t ∷ reported) reports = absurd reports
frames_reported [] (a ∷ answered) reported reports = absurd reports
frames_reported (i ∷ inputs) [] reported reports = absurd reports
frames_reported (i ∷ inputs) (a ∷ answered) [] reports = absurd reports
frames_reported (i ∷ inputs) (a ∷ answered) (t ∷ reported) reports =
    map-append (λ (x : Answered). x.frame) a (joined answered)
    ∙ (ap (λ (fs : List Frame). fs ++ answered_frames (joined answered))
    (sym (ap (λ (s : List Frame × End). s.0) reports.0.stream))
    ∙ ap (λ (fs : List Frame). (stream_of Second i).0 ++ fs) (frames_reported inputs answered reported reports.1))

-- if no failure is reported, none was answered
none_reported : (inputs : List (List ℕ)) (answered : List (List Answered)) (reported : List ReportedExchange) →
    ReportInputs inputs answered reported → list_any reports_failure (replies_reported reported) ≡ false →
    list_any reports_failure (replies_of (joined answered)) ≡ false
none_reported [] [] [] reports none = refl
none_reported [] [] (t ∷ reported) reports none = absurd reports
none_reported [] (a ∷ answered) reported reports none = absurd reports
none_reported (i ∷ inputs) [] reported reports none = absurd reports
none_reported (i ∷ inputs) (a ∷ answered) [] reports none = absurd reports
none_reported (i ∷ inputs) (a ∷ answered) (t ∷ reported) reports none =
    let parts = or_parts (list_any reports_failure t.replies) (list_any reports_failure (replies_reported reported))
    (sym (list_any-append reports_failure t.replies (replies_reported reported)) ∙ none) in
    let here = or_parts (list_any reports_failure (replies_of a)) (list_any reports_failure (last_reply t.end))
    (sym (ap (list_any reports_failure) reports.0.replies
    ∙ list_any-append reports_failure (replies_of a) (last_reply t.end)) ∙ parts.0) in
    ap (list_any reports_failure) (flat_map-append (λ (x : Answered). x.replies) a (joined answered))
    ∙ (list_any-append reports_failure (replies_of a) (replies_of (joined answered))
    ∙ (ap (λ (b : Bool). b || list_any reports_failure (replies_of (joined answered))) here.0
    ∙ none_reported inputs answered reported reports.1 parts.1))

-- Runs in which no store call failed.

-- the answers of such a run report no failed store
none_delayed : (existed : List ℕ → Bool) (before after : ℕ) (book : Book) (answered : List Answered) (later : Book) →
    IsRun' existed before after book answered later → after ≡ 0 → list_any is_delayed (replies_of answered) ≡ false
none_delayed existed before after book [] later h none = refl
none_delayed existed before after book (a ∷ rest) later h none =
    let one = counted_up before h.0 _ h.2.count in
    let more = run_rises existed h.0 after h.1 rest later h.3 in
    list_any-append is_delayed a.replies (replies_of rest)
    ∙ (ap (λ (b : Bool). b || list_any is_delayed (replies_of rest))
    (here (list_any is_delayed a.replies) refl one more)
    ∙ none_delayed existed h.0 after h.1 rest later h.3 none)
  where
    here : (b : Bool) → list_any is_delayed a.replies ≡ b → before ≤ h.0 → h.0 ≤ after → b ≡ false
    here false e one more = refl
    here true e one more =
        let below : before < last_count = omega (arith, one, more, none) in
        let rose = delays_counted existed before h.0 book a.frame a.replies h.1 h.2 below e in
        absurd (omega (arith, rose, more, none))

last_not_delayed : (end : End) → list_any is_delayed (last_reply end) ≡ false
last_not_delayed EndOfInput = refl
last_not_delayed SaidBye = refl
last_not_delayed (BadFrame reason place) = refl

-- if none was answered, none is reported
delays_reported : (inputs : List (List ℕ)) (answered : List (List Answered)) (reported : List ReportedExchange) →
    ReportInputs inputs answered reported → list_any is_delayed (replies_of (joined answered)) ≡ false →
    list_any is_delayed (replies_reported reported) ≡ false
delays_reported [] [] [] reports none = refl
delays_reported [] [] (t ∷ reported) reports none = absurd reports
delays_reported [] (a ∷ answered) reported reports none = absurd reports
delays_reported (i ∷ inputs) [] reported reports none = absurd reports
delays_reported (i ∷ inputs) (a ∷ answered) [] reports none = absurd reports
delays_reported (i ∷ inputs) (a ∷ answered) (t ∷ reported) reports none =
    let parts = or_parts (list_any is_delayed (replies_of a)) (list_any is_delayed (replies_of (joined answered)))
    (sym (ap (list_any is_delayed) (flat_map-append (λ (x : Answered). x.replies) a (joined answered))
    ∙ list_any-append is_delayed (replies_of a) (replies_of (joined answered))) ∙ none) in
    list_any-append is_delayed t.replies (replies_reported reported)
    ∙ (ap (λ (b : Bool). b || list_any is_delayed (replies_reported reported))
    (ap (list_any is_delayed) reports.0.replies
    ∙ (list_any-append is_delayed (replies_of a) (last_reply t.end)
    ∙ (ap (λ (b : Bool). b || list_any is_delayed (last_reply t.end)) parts.0
    ∙ last_not_delayed t.end)))
    ∙ delays_reported inputs answered reported reports.1 parts.1)

-- a count of one failure at most
small_count : (n : ℕ) → n ≤ 1 → failed_calls n 0 ≡ n
small_count n few = omega (arith, few)

pub one_at_most : (fuse : Option ℕ) (calls : ℕ) → failures_under fuse calls ≤ 1
one_at_most None calls = omega arith
one_at_most (Some k) calls = go (nat_lt k calls)
  where
    go : (b : Bool) → cond b 1 0 ≤ 1
    go true = omega arith
    go false = omega arith

-- if the run goes well, they are reported as the definitions' exchanges
reported_well : (book : Book) (inputs : List (List ℕ)) (answered : List (List Answered)) (reported : List ReportedExchange)
    (later : Book) → ReportInputs inputs answered reported → GoesWell nothing_stands book (joined answered) later →
    reported ≡ map reported_of (exchanges nothing_stands book inputs)
reported_well book [] [] [] later reports well = refl
reported_well book [] [] (t ∷ reported) later reports well = absurd reports
reported_well book [] (a ∷ answered) reported later reports well = absurd reports
reported_well book (i ∷ inputs) [] reported later reports well = absurd reports
reported_well book (i ∷ inputs) (a ∷ answered) [] later reports well = absurd reports
reported_well book (i ∷ inputs) (a ∷ answered) (t ∷ reported) later reports well =
    let parts = well_parts nothing_stands book a (joined answered) later well in
    let left : (exchange nothing_stands book i).book ≡ following nothing_stands book a =
    ap (λ (s : List Frame × End). book_after nothing_stands book (run_without_faults s.0)) reports.0.stream in
    let replies : (exchange nothing_stands book i).replies ≡ t.replies =
    ap (λ (s : List Frame × End). flat_map (λ x. x.replies) (run nothing_stands book (run_without_faults s.0))
    ++ last_reply s.1) reports.0.stream
    ∙ (ap (λ (rs : List Reply). rs ++ last_reply t.end)
    (replies_well nothing_stands book a (following nothing_stands book a) parts.first)
    ∙ sym reports.0.replies) in
    ap (λ (ts : List ReportedExchange). t ∷ ts)
    (reported_well (following nothing_stands book a) inputs answered reported later reports.1 parts.then
    ∙ ap (λ (b : Book). map reported_of (exchanges nothing_stands b inputs)) (sym left))
    ∙ (ap (λ (rs : List Reply). record { replies = rs; end = t.end }
    ∷ map reported_of (exchanges nothing_stands (exchange nothing_stands book i).book inputs)) (sym replies)
    ∙ ap (λ (s : List Frame × End). record { replies = (exchange nothing_stands book i).replies; end = s.1 }
    ∷ map reported_of (exchanges nothing_stands (exchange nothing_stands book i).book inputs)) (sym reports.0.stream))

-- bytes that are short one by one
short_each : (inputs : List (Vec ℕ Global)) → All (λ x. length x.items ≤ longest_input) inputs →
    AllByRecursion (λ xs. length xs ≤ longest_input) (map (λ x. x.items) inputs)
short_each [] short = tt
short_each (x ∷ inputs) short = (
  All-head (λ y. length y.items ≤ longest_input) x inputs short,
  short_each inputs (All-tail (λ y. length y.items ≤ longest_input) x inputs short),
)

-- a run over a store that was empty and honest, and what it reports
pub record Replayed (limit : ℕ) (inputs : List (List ℕ)) (failures calls : ℕ) (rs : List (Vec ℕ Global))
    (es : List ExchangeEnd) (contents : List ℕ → Option (List ℕ)) : Type 0 where
  pub reported : List ReportedExchange
  pub run : IsReplayRun limit inputs failures reported contents
  pub kept : AllReport rs es reported
  pub most : calls ≤ 4 * (all_done run.book + failures)

module _ {X : Type 0} (S : StoreGhosts X) (limit : ℕ) (before : X) (inputs : List (Vec ℕ Global)) (ran : Run X)
    (honest : IsTrue (S.honest before)) (still : S.honest ran.store ≡ S.honest before)
    (empty : (name : List ℕ) → S.contents before name ≡ None)
    (short : All (λ x. length x.items ≤ longest_input) inputs)
    (failures : ℕ) (few : failures ≤ 1) (started : S.failures before ≡ 0) (unasked : S.calls before ≡ 0)
    (failed : S.failures ran.store ≡ failures)
    (went : List ServedInput)
    (are : AreServed went (map (λ x. x.items) inputs) (input_bytes ran.replies.items) ran.ends.items)
    (ran_so : IsTrue (S.honest before) → LeavesRun S limit before (answered_in went) ran.store) where
  leaves : LeavesRun S limit before (answered_in went) ran.store
  leaves = ran_so honest

  abbrev first : List ℕ → Option (List ℕ)
  first = S.contents before

  none_first : first ≡ empty_contents
  none_first = fun_ext empty

  abbrev lists : List (List Answered)
  lists = map (λ x. x.answered) went

  one_list : answered_in went ≡ joined lists
  one_list = sym (flat_map-map (λ (a : List Answered). a) (λ (x : ServedInput). x.answered) went)

  all_short : AllByRecursion (λ xs. length xs ≤ longest_input) (map (λ x. x.input) went)
  all_short = subst (AllByRecursion (λ xs. length xs ≤ longest_input)) (sym are.inputs_are) (short_each inputs short)

  print_diagnostic : ReportAll went ran.replies.items ran.ends.items
  print_diagnostic = report_all went ran.replies.items ran.ends.items are.each all_short are.written_is are.ends_are

  reports : ReportInputs (map (λ x. x.items) inputs) lists print_diagnostic.reported
  reports = subst (λ (is : List (List ℕ)). ReportInputs is lists print_diagnostic.reported) are.inputs_are print_diagnostic.streams

  counted : IsRun' nothing_stands (failed_calls (S.failures before) 0) (failed_calls (S.failures ran.store) 0) []
      (joined lists) leaves.book
  counted =
      subst (λ (all : List Answered). IsRun' nothing_stands (failed_calls (S.failures before) 0)
      (failed_calls (S.failures ran.store) 0) [] all leaves.book) one_list
      (subst (λ (f : List ℕ → Option (List ℕ)). IsRun' (λ name. is_some (f name)) (failed_calls (S.failures before) 0)
      (failed_calls (S.failures ran.store) 0) [] (answered_in went) leaves.book) none_first leaves.run)

  from_none : IsRun' nothing_stands 0 failures [] (joined lists) leaves.book
  from_none =
      subst (λ (n : ℕ). IsRun' nothing_stands 0 n [] (joined lists) leaves.book)
      (ap (λ (n : ℕ). failed_calls n 0) failed ∙ small_count failures few)
      (subst (λ (n : ℕ). IsRun' nothing_stands n (failed_calls (S.failures ran.store) 0) [] (joined lists) leaves.book)
      (ap (λ (n : ℕ). failed_calls n 0) started) counted)

  at_most : failures ≡ 0 → failures ≤ 0
  at_most none = omega (arith, none)

  contents_are : (name : List ℕ) → (is_pending (log_of leaves.book name) ≡ false)
      ⊎ ((take_in false leaves.book name).closed ≡ true) →
      S.contents ran.store name ≡ content_in empty_contents limit leaves.book name
  contents_are name settled = leaves.files name settled
      ∙ ap (λ (f : List ℕ → Option (List ℕ)). content_in f limit leaves.book name) none_first

  holds : Holds limit (record { contents = S.contents ran.store; first = empty_contents; honest = true })
      leaves.kept_of leaves.book
  holds = subst (λ (b : Bool). Holds limit (record { contents = S.contents ran.store; first = empty_contents; honest = b })
      leaves.kept_of leaves.book) (still ∙ honest)
      (subst (λ (f : List ℕ → Option (List ℕ)). Holds limit
      (record { contents = S.contents ran.store; first = f; honest = S.honest ran.store })
      leaves.kept_of leaves.book) none_first leaves.held)

  in_order : AreInOrder [] (input_frames (map (λ x. x.items) inputs)) →
      list_any reports_failure (replies_reported print_diagnostic.reported) ≡ false →
      AreExchangesOf limit (map (λ x. x.items) inputs) print_diagnostic.reported (S.contents ran.store)
  in_order near none =
      let frames = frames_reported (map (λ x. x.items) inputs) lists print_diagnostic.reported reports in
      let well = in_order_well nothing_stands _ _ (joined lists) leaves.book counted
      (subst (AreInOrder []) (sym frames) near)
      (none_reported (map (λ x. x.items) inputs) lists print_diagnostic.reported reports none) in
      let left : leaves.book ≡ book_after nothing_stands [] (run_without_faults (input_frames (map (λ x. x.items) inputs))) =
      sym (good_run nothing_stands [] (joined lists) leaves.book well.0).left
      ∙ ap (λ (fs : List Frame). book_after nothing_stands [] (run_without_faults fs)) frames in
      record {
        reported_is = reported_well [] (map (λ x. x.items) inputs) lists print_diagnostic.reported leaves.book reports well.0;
        files = λ name. contents_are name (inl (well.1 name))
            ∙ ap (λ (b : Book). content_in empty_contents limit b name) left;
      }

  called : S.calls ran.store ≤ 4 * (all_done leaves.book + failures)
  called =
      let below : S.failures ran.store < last_count = omega (arith, failed, few) in
      let bound = leaves.calls below in
      omega (arith, bound, unasked, failed)

  pub replayed : Replayed limit (map (λ x. x.items) inputs) failures (S.calls ran.store) ran.replies.items ran.ends.items
      (S.contents ran.store)
  replayed = record {
    reported = print_diagnostic.reported;
    run = record {
      answered = lists;
      reports = reports;
      book = leaves.book;
      run = turns_are_runs nothing_stands _ _ [] leaves.book (joined lists) counted;
      counted = from_none;
      delays = λ none. delays_reported (map (λ x. x.items) inputs) lists print_diagnostic.reported reports
          (none_delayed nothing_stands 0 failures [] (joined lists) leaves.book from_none none);
      kept_of = leaves.kept_of;
      held = holds;
      files = contents_are;
      whole = λ none name. contents_are name (inl (quiet_run nothing_stands 0 failures [] (joined lists) leaves.book
          from_none (at_most none) (λ n. refl) name));
      in_order = in_order;
    };
    kept = print_diagnostic.kept;
    most = called;
  }

-- what follows where a call succeeded, by two of its facts
pub with_ok : {T E : Type 0} (r : Result T E) (P Q : T → Type 0) (N : Type 0) → ((x : T) → N → P x → Q x) →
    IfOk r P → OnOk r N → IfOk r Q
with_ok (Ok x) P Q N f p n = f x n p
with_ok (Err e) P Q N f p n = tt

-- the text of such a run, over these files of a store in memory
pub text_replayed : (limit : ℕ) (fuse : Option ℕ) (calls : ℕ) (inputs : List (List ℕ)) (rs : List (Vec ℕ Global))
    (es : List ExchangeEnd) (store reported_from : MemoryStore) (text : List ℕ) →
    Replayed limit inputs (failures_under fuse calls) calls rs es (content_under store.files) →
    SufficeForAll (content_under store.files) calls →
    reported_from ≡ store → AreNames (names_of reported_from) (content_under reported_from.files) →
    ((reported : List ReportedExchange) → AllReport rs es reported →
    text ≡ exchanges_text 0 reported ++ files_text (content_under reported_from.files) (names_of reported_from)) →
    IsRunText limit fuse inputs text
text_replayed limit fuse calls inputs rs es store reported_from text kept took same names is =
    let h = subst (λ (s : MemoryStore). Replayed limit inputs (failures_under fuse calls) calls rs es
    (content_under s.files)) (sym same) kept in
    record {
      reported = h.reported;
      contents = content_under reported_from.files;
      calls = calls;
      failures = failures_under fuse calls;
      failed = refl;
      run = h.run;
      most = h.most;
      names = names_of reported_from;
      ordered = names;
      took = subst (λ (s : MemoryStore). SufficeForAll (content_under s.files) calls) (sym same) took
          (names_of reported_from) names.ordered;
      is = is h.reported h.kept;
    }
