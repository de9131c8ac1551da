-- A server's turns are a run, and one in number order depends on no fault.
use Rattle.std.proofs.Common.{◌≡◌, ℕ, Bool, true, false, List, [], ◌∷◌, ◌++◌, Option, Some, None}
use Rattle.std.proofs.Common.{refl, sym, ◌∙◌, ap, subst, ◌||◌}
use Rattle.std.specs.Prelude.{map}
use Rattle.std.specs.List.{list_any}
use Rattle.std.specs.Option.{option_map_or}
use Rattle.std.proofs.lemmas.List.{map-append, append-nil, append_assoc}
use Rattle.std.proofs.lemmas.List.Sums.{fold-append}
use Rattle.std.proofs.lemmas.List.Folds.{list_any-append}
use Rattle.std.proofs.lemmas.Bool.{or_parts}
use Rattle.bw_model.specs.Wire.{Frame, Says, Asks, Bye}
use Rattle.bw_model.specs.Replies.{Reply}
use Rattle.bw_model.specs.Book.{Log, Book, log_of}
use Rattle.bw_model.specs.Turn.{Faults, Turn, good, turn, turn_on, with_change, book_after_turn, run, book_after}
use Rattle.bw_model.specs.CountedTurn.{IsTurn, IsWithoutRoom, is_pending, stops_short, log_after_frame}
use Rattle.bw_model.specs.NumberOrder.{AreInOrder, IsNextOrReceived, reports_failure, lacks}
use Rattle.bw_model.proofs.BookLemmas.{log-with_log_same}
use Rattle.bw_model.proofs.OrderLaws.{nothing_pends}
use Rattle.bw_exchange.specs.AnsweredFrames.{Answered, answered_frames, replies_of}
use Rattle.bw_exchange.specs.TurnRuns.{IsRun, TurnsAreRuns, IsGoodRun, OrderHoldsUnderFaults, answers_in, run_without_faults}

pub turns_are_runs : TurnsAreRuns
turns_are_runs existed before after book later [] h = record { received = []; answers = refl; left = sym h.1 }
turns_are_runs existed before after book later (a ∷ rest) h =
    let t = h.2 in
    let more = turns_are_runs existed h.0 after h.1 later rest h.3 in
    record {
      received = (a.frame, t.faults) ∷ more.received;
      answers = ap (λ (rs : List Reply). record { frame = a.frame; replies = rs }
          ∷ answers_in (run existed (turn existed book a.frame t.faults).1 more.received)) t.answered
          ∙ ap (λ (more : List Answered). a ∷ more)
          (ap (λ (b : Book). answers_in (run existed b more.received)) t.left ∙ more.answers);
      left = ap (λ (b : Book). book_after existed b more.received) t.left ∙ more.left;
    }

-- Faults that are reported, or leave something pending.

not_refused : (book : Book) (f : Frame) (replies : List Reply) → IsWithoutRoom book f replies →
    list_any reports_failure replies ≡ false → true ≡ false
not_refused book (Says m) replies w reported = sym (ap (list_any reports_failure) w.1) ∙ reported
not_refused book (Asks name n) replies w reported = absurd w
not_refused book Bye replies w reported = absurd w

-- a turn that leaves nothing pending doesn't stop short
not_short : (existed : List ℕ → Bool) (book : Book) (f : Frame) (faults : Faults) →
    ((name : List ℕ) → is_pending (log_of (turn existed book f faults).1 name) ≡ false) →
    stops_short existed book f faults ≡ false
unfolding turn
not_short existed book (Says m) faults quiet = go (log_after_frame existed book (Says m) faults) (quiet m.name)
  where
    go : (o : Option Log) → is_pending (log_of (with_change book m.name o) m.name) ≡ false →
        option_map_or is_pending o false ≡ false
    go None q = refl
    go (Some log) q = sym (ap is_pending (log-with_log_same book m.name log)) ∙ q
not_short existed book (Asks name n) faults quiet = refl
not_short existed book Bye faults quiet = refl

-- a turn that reports no failure and leaves nothing pending met no fault
are_none : (existed : List ℕ → Bool) (before after : ℕ) (book : Book) (f : Frame) (replies : List Reply)
    (later : Book) → (t : IsTurn existed before after book f replies later) → list_any reports_failure replies ≡ false →
    ((name : List ℕ) → is_pending (log_of later name) ≡ false) → t.faults ≡ good
are_none existed before after book f replies later t reported quiet =
    ap (λ (b : Bool). record { refused = b; stop = t.faults.stop }) (given t.faults.refused refl)
    ∙ ap (λ (o : Option ℕ). record { refused = false; stop = o })
    (t.stop (not_short existed book f t.faults
    (λ name. ap (λ (b : Book). is_pending (log_of b name)) t.left ∙ quiet name)))
  where
    given : (b : Bool) → t.faults.refused ≡ b → b ≡ false
    given false e = refl
    given true e = not_refused book f replies (t.room e) reported

-- Good runs, one turn after another.

abbrev pub GoesWell : (List ℕ → Bool) → Book → List Answered → Book → Type 0
GoesWell existed book [] later = later ≡ book
GoesWell existed book (a ∷ rest) later =
    ((turn existed book a.frame good).0 ≡ a.replies) × GoesWell existed (turn existed book a.frame good).1 rest later

pub good_run : (existed : List ℕ → Bool) (book : Book) (answered : List Answered) (later : Book) →
    GoesWell existed book answered later → IsGoodRun existed book answered later
good_run existed book [] later h = record { answers = refl; left = sym h }
good_run existed book (a ∷ rest) later h =
    let more = good_run existed (turn existed book a.frame good).1 rest later h.1 in
    record {
      answers = ap (λ (rs : List Reply). record { frame = a.frame; replies = rs }
          ∷ answers_in (run existed (turn existed book a.frame good).1 (run_without_faults (answered_frames rest)))) h.0
          ∙ ap (λ (more : List Answered). a ∷ more) more.answers;
      left = more.left;
    }

-- one frame more, at the end

run-last : (existed : List ℕ → Bool) (book : Book) (ts : List (Frame × Faults)) (t : Frame × Faults) →
    run existed book (ts ++ t ∷ []) ≡ run existed book ts ++ turn_on existed (book_after existed book ts) t ∷ []
run-last existed book [] t = refl
run-last existed book (x ∷ ts) t =
    ap (λ (more : List Turn). turn_on existed book x ∷ more) (run-last existed (book_after_turn existed book x) ts t)

order-last : (before frames : List Frame) (f : Frame) → AreInOrder before frames →
    IsNextOrReceived (before ++ frames) f → AreInOrder before (frames ++ f ∷ [])
order-last before [] f h next = (subst (λ (fs : List Frame). IsNextOrReceived fs f) (append-nil before) next, tt)
order-last before (g ∷ frames) f h next = (
  h.0,
  order-last (before ++ g ∷ []) frames f h.1
      (subst (λ (fs : List Frame). IsNextOrReceived fs f) (sym (append_assoc before (g ∷ []) frames)) next),
)

-- what came so far, in order and with no failure reported
record SoFar (existed : List ℕ → Bool) (received : List (Frame × Faults)) (frames : List Frame) (book : Book) : Type 0 where
  frames_are : map (λ t. t.0) received ≡ frames
  left : book_after existed [] received ≡ book
  near : AreInOrder [] frames
  well : list_any lacks (run existed [] received) ≡ false

-- and one turn more
one_more : (existed : List ℕ → Bool) (received : List (Frame × Faults)) (frames : List Frame) (book : Book) (f : Frame)
    (faults : Faults) → SoFar existed received frames book → IsNextOrReceived frames f →
    list_any reports_failure (turn existed book f faults).0 ≡ false →
    SoFar existed (received ++ (f, faults) ∷ []) (frames ++ f ∷ []) (turn existed book f faults).1
one_more existed received frames book f faults h next reported = record {
  frames_are = map-append (λ t. t.0) received ((f, faults) ∷ []) ∙ ap (λ (fs : List Frame). fs ++ f ∷ []) h.frames_are;
  left = fold-append (book_after_turn existed) [] received ((f, faults) ∷ [])
      ∙ ap (λ (b : Book). (turn existed b f faults).1) h.left;
  near = order-last [] frames f h.near next;
  well = ap (list_any lacks) (run-last existed [] received (f, faults))
      ∙ list_any-append lacks (run existed [] received) (turn_on existed (book_after existed [] received) (f, faults) ∷ [])
      ∙ ap (λ (b : Bool). b || list_any lacks (turn_on existed (book_after existed [] received) (f, faults) ∷ [])) h.well
      ∙ ap (λ (b : Book). list_any lacks (turn_on existed b (f, faults) ∷ [])) h.left
      ∙ ap (λ (b : Bool). b || false) reported;
}

nothing_waits : (existed : List ℕ → Bool) (received : List (Frame × Faults)) (frames : List Frame) (book : Book) →
    SoFar existed received frames book → (name : List ℕ) → is_pending (log_of book name) ≡ false
nothing_waits existed received frames book h name =
    ap (λ (b : Book). is_pending (log_of b name)) (sym h.left)
    ∙ nothing_pends existed received (subst (AreInOrder []) (sym h.frames_are) h.near) h.well name

-- a run in order goes well, and leaves nothing pending
goes_well : (existed : List ℕ → Bool) (before after : ℕ) (received : List (Frame × Faults)) (frames : List Frame)
    (book : Book) (answered : List Answered) (later : Book) → SoFar existed received frames book →
    IsRun existed before after book answered later → AreInOrder frames (answered_frames answered) →
    list_any reports_failure (replies_of answered) ≡ false →
    GoesWell existed book answered later × ((name : List ℕ) → is_pending (log_of later name) ≡ false)
goes_well existed before after received frames book [] later so h near reported = (
  h.1,
  λ name. ap (λ (b : Book). is_pending (log_of b name)) h.1 ∙ nothing_waits existed received frames book so name,
)
goes_well existed before after received frames book (a ∷ rest) later so h near reported =
    let t = h.2 in
    let parts = or_parts (list_any reports_failure a.replies) (list_any reports_failure (replies_of rest))
    (sym (list_any-append reports_failure a.replies (replies_of rest)) ∙ reported) in
    let next = one_more existed received frames book a.frame t.faults so near.0
    (ap (list_any reports_failure) t.answered ∙ parts.0) in
    let quiet = nothing_waits existed (received ++ (a.frame, t.faults) ∷ []) (frames ++ a.frame ∷ [])
    (turn existed book a.frame t.faults).1 next in
    let met = are_none existed before h.0 book a.frame a.replies h.1 t parts.0
    (λ name. ap (λ (b : Book). is_pending (log_of b name)) (sym t.left) ∙ quiet name) in
    let same : (turn existed book a.frame good).1 ≡ h.1 =
    ap (λ (l : Faults). (turn existed book a.frame l).1) (sym met) ∙ t.left in
    let more = goes_well existed h.0 after (received ++ (a.frame, t.faults) ∷ []) (frames ++ a.frame ∷ []) h.1 rest later
    (subst (SoFar existed (received ++ (a.frame, t.faults) ∷ []) (frames ++ a.frame ∷ [])) t.left next) h.3 near.1 parts.1 in (
      (
        ap (λ (l : Faults). (turn existed book a.frame l).0) (sym met) ∙ t.answered,
        subst (λ (b : Book). GoesWell existed b rest later) (sym same) more.0,
      ),
      more.1,
    )

-- from the empty book
pub in_order_well : (existed : List ℕ → Bool) (before after : ℕ) (answered : List Answered) (later : Book) →
    IsRun existed before after [] answered later → AreInOrder [] (answered_frames answered) →
    list_any reports_failure (replies_of answered) ≡ false →
    GoesWell existed [] answered later × ((name : List ℕ) → is_pending (log_of later name) ≡ false)
in_order_well existed before after answered later h near reported =
    goes_well existed before after [] [] [] answered later
    (record { frames_are = refl; left = refl; near = tt; well = refl }) h near reported

pub order_holds_under_faults : OrderHoldsUnderFaults
order_holds_under_faults existed before after answered later h near reported =
    good_run existed [] answered later (in_order_well existed before after answered later h near reported).0
