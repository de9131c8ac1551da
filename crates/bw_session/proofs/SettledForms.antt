-- A turn in which nothing is to be done.
use Rattle.std.proofs.Common.{◌≡◌, ℕ, ◌+◌, ◌-◌, ◌<◌, ◌≤◌, min, Bool, false, true, cond, not, ◌&&◌, List, ◌++◌}
use Rattle.std.proofs.Common.{drop, Option, Some, None, sym, ◌∙◌, ap, arith, ◌⊎◌, inl, inr}
use Rattle.std.specs.Prelude.{is_some, nat_le}
use Rattle.std.proofs.lemmas.Bool.{cases_lt}
use Rattle.bw_model.specs.Bytes.{at, put, first_free}
use Rattle.bw_model.specs.Take.{Request}
use Rattle.bw_model.specs.Wire.{Message}
use Rattle.bw_model.specs.Replies.{Reply, TooFar, TableFull, NoRoom}
use Rattle.bw_model.specs.Book.{Log, log_of, is_known, run_end}
use Rattle.bw_model.specs.Turn.{Faults, turn, turn_by, served, own_reply, verdicts_from, drained_to, admitted_after}
use Rattle.bw_model.specs.Turn.{is_admissible, is_full, with_change, notice, window}
use Rattle.bw_model.proofs.MapLemmas.{at-first_free, at-drop}
use Rattle.bw_session.specs.QuietTurns.{SettledTurnsMeetNoFaults}

no_request : {A : Type 0} {r : Request} → Some r ≡ None → A
no_request e = cc

no_false : {A : Type 0} → true ≡ false → A
no_false e = cc

-- if nothing waits, the run ends at once
run_settled : (s : List (Option Request)) (done : ℕ) → is_some (at s done) ≡ false → run_end s done ≡ done
run_settled s done quiet = go (cases_lt 0 (first_free (drop done s)))
  where
    go : (0 < first_free (drop done s)) ⊎ (first_free (drop done s) ≤ 0) → run_end s done ≡ done
    go (inl more) =
        let x = at-first_free (drop done s) 0 more in
        let place : done ≡ done + 0 = omega arith in
        no_false (sym (ap is_some (sym (at-drop done 0 done s place) ∙ x.1)) ∙ quiet)
    go (inr none) = omega (arith, none)

-- and draining at once, whatever the store does
drained_settled : (s : List (Option Request)) (done : ℕ) (stop : Option ℕ) → is_some (at s done) ≡ false →
    drained_to done (run_end s done) stop ≡ done
drained_settled s done None quiet = run_settled s done quiet
drained_settled s done (Some k) quiet =
    let end = run_settled s done quiet in
    let least : min (done + k) (run_end s done) ≡ done = omega (arith, end) in
    least

abbrev served_to : Bool → Log → Message → ℕ → List Reply × Log
served_to taken log m later = (
  verdicts_from taken (admitted_after log m) m.name log.done (later - log.done)
      ++ own_reply taken (admitted_after log m) log.done later (run_end (admitted_after log m) log.done) m,
  record { admitted = admitted_after log m; done = later },
)

served_settled : (taken : Bool) (log : Log) (m : Message) (stop other : Option ℕ) →
    is_admissible log m.number ≡ false → is_some (at log.admitted log.done) ≡ false →
    served taken log m stop ≡ served taken log m other
unfolding served
served_settled taken log m stop other old quiet =
    let same : is_some (at (admitted_after log m) log.done) ≡ false =
    ap (λ (b : Bool). is_some (at (cond b (put log.admitted m.number m.request) log.admitted) log.done)) old
    ∙ quiet in
    ap (served_to taken log m)
    (drained_settled (admitted_after log m) log.done stop same
    ∙ sym (drained_settled (admitted_after log m) log.done other same))

turn_settled : (taken known full : Bool) (log : Log) (m : Message) (faults other : Faults) →
    is_admissible log m.number ≡ false → is_some (at log.admitted log.done) ≡ false →
    turn_by taken known full log m faults ≡ turn_by taken known full log m other
unfolding turn_by
turn_settled taken known full log m faults other old quiet =
    rest faults ∙ ap (λ (x : List Reply × Log). cond (not known && nat_le window m.number) (notice m TooFar 0, None)
    (cond (not known && full) (notice m TableFull 0, None) (x.0, Some x.1)))
    (served_settled taken log m faults.stop other.stop old quiet) ∙ sym (rest other)
  where
    rest : (l : Faults) → turn_by taken known full log m l
        ≡ cond (not known && nat_le window m.number) (notice m TooFar 0, None)
        (cond (not known && full) (notice m TableFull 0, None)
        ((served taken log m l.stop).0, Some (served taken log m l.stop).1))
    rest l = ap (λ (b : Bool). cond (not known && nat_le window m.number) (notice m TooFar 0, None)
        (cond (not known && full) (notice m TableFull 0, None)
        (cond (b && l.refused) (notice m NoRoom log.done, None)
        ((served taken log m l.stop).0, Some (served taken log m l.stop).1)))) old

pub settled_turns : SettledTurnsMeetNoFaults
unfolding turn
settled_turns existed book m faults other old quiet =
    ap (λ (x : List Reply × Option Log). (x.0, with_change book m.name x.1))
    (turn_settled (existed m.name) (is_known book m.name) (is_full book) (log_of book m.name) m faults other old quiet)
