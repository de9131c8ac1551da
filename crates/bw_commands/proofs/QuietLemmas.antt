-- Runs and rehearsals in which no store call failed leave nothing pending.
use Rattle.std.proofs.Common.{◌≡◌, ◌∙◌, ℕ, ◌<◌, ◌≤◌, Bool, true, false, List, [], ◌∷◌, Option, Some, None, refl}
use Rattle.std.proofs.Common.{sym, ap, subst, arith}
use Rattle.std.specs.Prelude.{slice_get}
use Rattle.std.specs.Option.{option_map_or}
use Rattle.std.specs.Str.{bytes_eq}
use Rattle.bw_model.specs.Counts.{Counts, last_count}
use Rattle.bw_model.specs.Wire.{Message, Frame, Says, Asks, Bye}
use Rattle.bw_model.specs.Book.{Log, Book, log_of, with_log}
use Rattle.bw_model.specs.CountedTurn.{is_pending, stops_short, log_after_frame}
use Rattle.bw_model.specs.Turn.{Faults, turn, with_change}
use Rattle.bw_model.specs.Exchange.{nothing_stands}
use Rattle.bw_model.specs.World.{World, Event, Offer, Send, Deliver, Bring, Ask, Foreign, deliver}
use Rattle.bw_model.specs.World.{pending, happens, world_after}
use Rattle.bw_model.proofs.BookLemmas.{same_name, log-with_log_same, log-with_log_other}
use Rattle.bw_commands.specs.FaultRuns.{AreFaultsOf, AreFaultsOfDelivery, AreFaultsOfRuns}
use Rattle.bw_commands.proofs.FaultLaws.{counted_up, event_up, schedule_up}
use Rattle.bw_commands.proofs.Staging.{sent_book, brought_book}
use Rattle.bw_exchange.specs.AnsweredFrames.{Answered}
use Rattle.bw_exchange.specs.TurnRuns.{IsRun}

-- Counts.

-- at 0 nothing was counted
not_counted : (a b : ℕ) (x : Bool) → Counts a b x → a ≤ 0 → b ≤ 0 → x ≡ false
not_counted a b false h zero_a zero_b = refl
not_counted a b true h zero_a zero_b =
    let below : a < last_count = omega (arith, zero_a) in
    let more = h.rises refl below in
    absurd (omega (arith, more, zero_b))

pub run_rises : (existed : List ℕ → Bool) (before after : ℕ) (book : Book) (answered : List Answered) (later : Book) →
    IsRun existed before after book answered later → before ≤ after
run_rises existed before after book [] later h = let same = h.0 in omega (arith, same)
run_rises existed before after book (a ∷ rest) later h =
    let one = counted_up before h.0 _ h.2.count in
    let more = run_rises existed h.0 after h.1 rest later h.3 in
    omega (arith, one, more)

-- Books.

-- no name has a number that waits for its verdict
abbrev pub NonePends : Book → Type 0
NonePends book = (name : List ℕ) → is_pending (log_of book name) ≡ false

-- a turn that doesn't stop short leaves none
quiet_turn : (existed : List ℕ → Bool) (book : Book) (f : Frame) (faults : Faults) → NonePends book →
    stops_short existed book f faults ≡ false → NonePends (turn existed book f faults).1
unfolding turn
quiet_turn existed book (Says m) faults none quiet name = go (log_after_frame existed book (Says m) faults) quiet
  where
    go : (o : Option Log) → option_map_or is_pending o false ≡ false →
        is_pending (log_of (with_change book m.name o) name) ≡ false
    go None q = none name
    go (Some log) q = at_name (bytes_eq m.name name) refl
      where
        at_name : (b : Bool) → bytes_eq m.name name ≡ b →
            is_pending (log_of (with_log book m.name log) name) ≡ false
        at_name true e =
            ap (λ (x : List ℕ). is_pending (log_of (with_log book m.name log) x)) (sym (same_name m.name name e))
            ∙ (ap is_pending (log-with_log_same book m.name log) ∙ q)
        at_name false e = ap is_pending (log-with_log_other book m.name name log e) ∙ none name
quiet_turn existed book (Asks x n) faults none quiet name = none name
quiet_turn existed book Bye faults none quiet name = none name

pub quiet_run : (existed : List ℕ → Bool) (before after : ℕ) (book : Book) (answered : List Answered) (later : Book) →
    IsRun existed before after book answered later → after ≤ 0 → NonePends book → NonePends later
quiet_run existed before after book [] later h zero none = subst NonePends (sym h.1) none
quiet_run existed before after book (a ∷ rest) later h zero none =
    let one = counted_up before h.0 _ h.2.count in
    let more = run_rises existed h.0 after h.1 rest later h.3 in
    let mid : h.0 ≤ 0 = omega (arith, more, zero) in
    let first : before ≤ 0 = omega (arith, one, mid) in
    quiet_run existed h.0 after h.1 rest later h.3 zero
    (subst NonePends h.2.left (quiet_turn existed book a.frame h.2.faults none
    (not_counted before h.0 _ h.2.count first mid)))

quiet_delivery : (before after : ℕ) (w : World) (o : Option Message) (faults : Faults) →
    AreFaultsOfDelivery before after w.book o faults → before ≤ 0 → after ≤ 0 → NonePends w.book →
    NonePends (deliver nothing_stands w o faults).book
quiet_delivery before after w None faults h first last none = none
quiet_delivery before after w (Some m) faults h first last none =
    quiet_turn nothing_stands w.book (Says m) faults none (not_counted before after _ h.count first last)

quiet_event : (before after : ℕ) (w : World) (e : Event) (faults : Faults) → AreFaultsOf before after w e faults →
    before ≤ 0 → after ≤ 0 → NonePends w.book → NonePends (happens nothing_stands w e faults).book
unfolding happens
quiet_event before after w (Offer r) faults h first last none = none
quiet_event before after w (Send i) faults h first last none =
    subst NonePends (sym (sent_book w (pending w.sender i))) none
quiet_event before after w (Deliver k) faults h first last none =
    quiet_delivery before after w (slice_get w.sent k) faults h first last none
quiet_event before after w (Bring k) faults h first last none =
    subst NonePends (sym (brought_book w (slice_get w.replies k))) none
quiet_event before after w Ask faults h first last none =
    quiet_turn nothing_stands w.book (Asks w.sender.name 0) faults none refl
quiet_event before after w (Foreign f) faults h first last none = absurd h

pub quiet_world : (before after : ℕ) (w : World) (es : List (Event × Faults)) → AreFaultsOfRuns before after w es →
    after ≤ 0 → NonePends w.book → NonePends (world_after nothing_stands w es).book
quiet_world before after w [] h zero none = none
quiet_world before after w (e ∷ es) h zero none =
    let one = event_up before h.0 w e.0 e.1 h.1 in
    let more = schedule_up h.0 after (happens nothing_stands w e.0 e.1) es h.2 in
    let mid : h.0 ≤ 0 = omega (arith, more, zero) in
    let first : before ≤ 0 = omega (arith, one, mid) in
    quiet_world h.0 after (happens nothing_stands w e.0 e.1) es h.2 zero
    (quiet_event before h.0 w e.0 e.1 h.1 first mid none)
