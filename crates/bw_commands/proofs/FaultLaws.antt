-- A fault that is reported nowhere didn't happen.
use Rattle.std.proofs.Common.{◌≡◌, ℕ, ◌<◌, ◌≤◌, ◌⊎◌, inl, inr, Bool, true, false, List, [], ◌∷◌, ◌++◌, Option, Some}
use Rattle.std.proofs.Common.{None, cond, refl, sym, ◌∙◌, ap, subst, arith}
use Rattle.std.specs.Prelude.{slice_get, map}
use Rattle.std.specs.List.{list_any}
use Rattle.std.proofs.lemmas.Bool.{cases_lt, false≢true, or_parts}
use Rattle.std.proofs.lemmas.List.Folds.{list_any-append}
use Rattle.bw_model.specs.Counts.{Counts, last_count}
use Rattle.bw_model.specs.Take.{Request}
use Rattle.bw_model.specs.Wire.{Message, Frame, Says, Asks}
use Rattle.bw_model.specs.Replies.{Reply}
use Rattle.bw_model.specs.Turn.{Faults, good, turn, is_of}
use Rattle.bw_model.specs.CountedTurn.{stops_short}
use Rattle.bw_model.specs.NumberOrder.{reports_failure}
use Rattle.bw_model.specs.Exchange.{nothing_stands}
use Rattle.bw_model.specs.World.{World, Event, Offer, Send, Deliver, Bring, Ask, Foreign, happens, world_after}
use Rattle.bw_model.specs.World.{new_world, comes, send, deliver, bring, pending}
use Rattle.bw_commands.specs.FaultRuns.{AreReported, AreFaultsOf, AreFaultsOfDelivery, AreFaultsOfRuns, UnreportedFaultsAreNone}
use Rattle.bw_commands.specs.RehearsedWorlds.{event_meaning, without_faults, QuietRehearsalsHaveOneWorld}
use Rattle.bw_commands.specs.declared.event.Event.{Event as Played}

-- Counts only rise.

-- a count never falls
pub counted_up : (before after : ℕ) (b : Bool) → Counts before after b → before ≤ after
counted_up before after false c = let e = c.quiet refl in omega (arith, e)
counted_up before after true c = go (cases_lt before last_count)
  where
    go : (before < last_count) ⊎ (last_count ≤ before) → before ≤ after
    go (inl below) = let e = c.rises refl below in omega (arith, e)
    go (inr past) = let e = c.stays past in omega (arith, e)

delivered_up : (before after : ℕ) (w : World) (o : Option Message) (faults : Faults) →
    AreFaultsOfDelivery before after w.book o faults → before ≤ after
delivered_up before after w None faults h = let e = h.count in omega (arith, e)
delivered_up before after w (Some m) faults h =
    counted_up before after (stops_short nothing_stands w.book (Says m) faults) h.count

pub event_up : (before after : ℕ) (w : World) (e : Event) (faults : Faults) → AreFaultsOf before after w e faults → before ≤ after
event_up before after w (Offer r) faults h = let e = h.count in omega (arith, e)
event_up before after w (Send i) faults h = let e = h.count in omega (arith, e)
event_up before after w (Deliver k) faults h = delivered_up before after w (slice_get w.sent k) faults h
event_up before after w (Bring k) faults h = let e = h.count in omega (arith, e)
event_up before after w Ask faults h = let e = h.count in omega (arith, e)
event_up before after w (Foreign f) faults h = absurd h

pub schedule_up : (before after : ℕ) (w : World) (es : List (Event × Faults)) → AreFaultsOfRuns before after w es → before ≤ after
schedule_up before after w [] h = omega (arith, h)
schedule_up before after w (e ∷ es) h =
    let first = event_up before h.0 w e.0 e.1 h.1 in
    let rest = schedule_up h.0 after (happens nothing_stands w e.0 e.1) es h.2 in
    omega (arith, first, rest)

-- Replies stay.

prefix_none : (xs ys : List Reply) → list_any reports_failure (xs ++ ys) ≡ false → list_any reports_failure xs ≡ false
prefix_none xs ys none =
    (or_parts (list_any reports_failure xs) (list_any reports_failure ys) (sym (list_any-append reports_failure xs ys) ∙ none)).0

back_none : (xs ys : List Reply) → list_any reports_failure (xs ++ ys) ≡ false → list_any reports_failure ys ≡ false
back_none xs ys none =
    (or_parts (list_any reports_failure xs) (list_any reports_failure ys) (sym (list_any-append reports_failure xs ys) ∙ none)).1

sent_none : (w : World) (o : Option (ℕ × Request)) → list_any reports_failure (send w o).replies ≡ false →
    list_any reports_failure w.replies ≡ false
sent_none w None none = none
sent_none w (Some p) none = none

delivered_none : (w : World) (o : Option Message) (faults : Faults) →
    list_any reports_failure (deliver nothing_stands w o faults).replies ≡ false → list_any reports_failure w.replies ≡ false
delivered_none w None faults none = none
delivered_none w (Some m) faults none = prefix_none w.replies (turn nothing_stands w.book (Says m) faults).0 none

brought_none : (w : World) (o : Option Reply) → list_any reports_failure (bring w o).replies ≡ false →
    list_any reports_failure w.replies ≡ false
brought_none w None none = none
brought_none w (Some r) none = none

foreign_none : (w : World) (f : Frame) (faults : Faults) (own : Bool) →
    list_any reports_failure (cond own w (comes nothing_stands w f faults)).replies ≡ false →
    list_any reports_failure w.replies ≡ false
foreign_none w f faults true none = none
foreign_none w f faults false none = prefix_none w.replies (turn nothing_stands w.book f faults).0 none

event_none : (w : World) (e : Event) (faults : Faults) →
    list_any reports_failure (happens nothing_stands w e faults).replies ≡ false → list_any reports_failure w.replies ≡ false
unfolding happens
event_none w (Offer r) faults none = none
event_none w (Send i) faults none = sent_none w (pending w.sender i) none
event_none w (Deliver k) faults none = delivered_none w (slice_get w.sent k) faults none
event_none w (Bring k) faults none = brought_none w (slice_get w.replies k) none
event_none w Ask faults none =
    prefix_none w.replies (turn nothing_stands w.book (Asks w.sender.name 0) faults).0 none
event_none w (Foreign f) faults none = foreign_none w f faults (is_of w.sender.name f) none

schedule_none : (w : World) (es : List (Event × Faults)) →
    list_any reports_failure (world_after nothing_stands w es).replies ≡ false → list_any reports_failure w.replies ≡ false
schedule_none w [] none = none
schedule_none w (e ∷ es) none =
    event_none w e.0 e.1 (schedule_none (happens nothing_stands w e.0 e.1) es none)

-- One event's faults.

same_faults : (l : Faults) → l.refused ≡ false → l.stop ≡ None → l ≡ good
same_faults l room stop =
    ap (λ (b : Bool). record { refused = b; stop = l.stop }) room
    ∙ ap (λ (o : Option ℕ). record { refused = false; stop = o }) stop

message_good : (after : ℕ) (w : World) (m : Message) (faults : Faults) → AreReported 0 after w.book (Says m) faults →
    after ≡ 0 → list_any reports_failure (turn nothing_stands w.book (Says m) faults).0 ≡ false → faults ≡ good
message_good after w m faults h zero none =
    same_faults faults (room faults.refused refl)
    (h.stop (stop (stops_short nothing_stands w.book (Says m) faults) h.count))
  where
    room : (b : Bool) → faults.refused ≡ b → faults.refused ≡ false
    room false e = e
    room true e = absurd (false≢true (sym none ∙ ap (list_any reports_failure) (h.room e).1))

    stop : (b : Bool) → Counts 0 after b → b ≡ false
    stop false c = refl
    stop true c = let e = c.rises refl (omega arith) in absurd (omega (arith, e, zero))

delivered_good : (after : ℕ) (w : World) (o : Option Message) (faults : Faults) →
    AreFaultsOfDelivery 0 after w.book o faults → after ≡ 0 →
    list_any reports_failure (deliver nothing_stands w o faults).replies ≡ false → faults ≡ good
delivered_good after w None faults h zero none = h.faults_are
delivered_good after w (Some m) faults h zero none =
    message_good after w m faults h zero (back_none w.replies (turn nothing_stands w.book (Says m) faults).0 none)

event_good : (after : ℕ) (w : World) (e : Event) (faults : Faults) → AreFaultsOf 0 after w e faults → after ≡ 0 →
    list_any reports_failure (happens nothing_stands w e faults).replies ≡ false → faults ≡ good
unfolding happens
event_good after w (Offer r) faults h zero none = h.faults_are
event_good after w (Send i) faults h zero none = h.faults_are
event_good after w (Deliver k) faults h zero none = delivered_good after w (slice_get w.sent k) faults h zero none
event_good after w (Bring k) faults h zero none = h.faults_are
event_good after w Ask faults h zero none = h.faults_are
event_good after w (Foreign f) faults h zero none = absurd h

pub unreported_good : UnreportedFaultsAreNone
unreported_good w [] h none = refl
unreported_good w (e ∷ es) h none =
    let next : World = happens nothing_stands w e.0 e.1 in
    let up = schedule_up h.0 0 next es h.2 in
    let zero : h.0 ≡ 0 = omega (arith, up) in
    let now = event_good h.0 w e.0 e.1 h.1 zero (schedule_none next es none) in
    let rest = unreported_good next es (subst (λ (n : ℕ). AreFaultsOfRuns n 0 next es) zero h.2) none in
    ap (λ (l : Faults). (e.0, l) ∷ es) now
    ∙ ap (λ (xs : List (Event × Faults)). (e.0, good) ∷ xs) rest

-- Whole rehearsals.

abbrev with_good : List Event → List (Event × Faults)
with_good es = map (λ (e : Event). (e, good)) es

first_good : (es : List (Event × Faults)) →
    map (λ (x : Event × Faults). (x.0, good)) es ≡ with_good (map (λ (x : Event × Faults). x.0) es)
first_good [] = refl
first_good (e ∷ es) = ap (λ (xs : List (Event × Faults)). (e.0, good) ∷ xs) (first_good es)

meant_good : (events : List Played) → with_good (map event_meaning events) ≡ without_faults events
meant_good [] = refl
meant_good (e ∷ events) =
    ap (λ (xs : List (Event × Faults)). (event_meaning e, good) ∷ xs) (meant_good events)

pub one_world : QuietRehearsalsHaveOneWorld
one_world name events world led none =
    let start : World = new_world name in
    let all = unreported_good start led.schedule led.fault_runs
    (ap (λ (w : World). list_any reports_failure w.replies) led.reached ∙ none) in
    sym led.reached
    ∙ ap (world_after nothing_stands start)
    (all ∙ first_good led.schedule ∙ ap with_good led.meant ∙ meant_good events)
