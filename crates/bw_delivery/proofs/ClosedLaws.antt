-- Closed takes stay as they are, whatever turns follow.
use Rattle.std.proofs.Common.{◌≡◌, ℕ, suc, zero, ◌≤◌, Bool, true, false, not, cond, ◌&&◌, List, [], ◌∷◌}
use Rattle.std.proofs.Common.{take, Option, Some, None, refl, ◌∙◌, ap, subst, arith}
use Rattle.std.specs.Prelude.{fold}
use Rattle.std.specs.List.{list_any, list_all}
use Rattle.std.specs.Str.{bytes_eq}
use Rattle.bw_model.specs.Take.{Take, Request, Open, Block, Mark, SetField, Verdict, Stored, Closed, BadFormat, NameTaken}
use Rattle.bw_model.specs.Take.{new_take, after, verdict}
use Rattle.bw_model.specs.Take.{is_stored, is_format, is_history_byte, judge, judge_open, parts, with_request}
use Rattle.bw_model.specs.Take.{Close as CloseRequest}
use Rattle.bw_model.specs.Wire.{Message, Frame, Says, Asks, Bye}
use Rattle.bw_model.specs.Book.{Log, Book, log_of, is_known, step, run_end}
use Rattle.bw_model.specs.Turn.{Faults, turn, turn_by, served, admitted_after, is_full, with_change, book_after}
use Rattle.bw_model.specs.World.{is_close}
use Rattle.bw_model.proofs.BookLemmas.{same_name, log-with_log_same, log-with_log_other}
use Rattle.bw_delivery.proofs.TurnCases.{by_case, ends_between}

-- Takes.

-- nothing is stored on a closed take
closed_after : (t : Take) (r : Request) → t.closed ≡ true → after t r ≡ t
unfolding judge
closed_after t r closed =
    ap (λ (v : Bool). cond (is_stored (cond v Closed (judge_open (parts t) t.format r))) (with_request t r) t) closed

closed_step : (t : Take) (o : Option Request) → t.closed ≡ true → step t o ≡ t
closed_step t None closed = refl
closed_step t (Some r) closed = closed_after t r closed

closed_steps : (t : Take) (os : List (Option Request)) → t.closed ≡ true → fold step t os ≡ t
closed_steps t [] closed = refl
closed_steps t (o ∷ os) closed =
    closed_steps (step t o) os (ap (λ (u : Take). u.closed) (closed_step t o closed) ∙ closed) ∙ closed_step t o closed

-- more numbers change nothing
pub closed_made : (t : Take) (s : List (Option Request)) (n k : ℕ) → n ≤ k →
    (fold step t (take n s)).closed ≡ true → fold step t (take k s) ≡ fold step t (take n s)
closed_made t s zero k h closed = closed_steps t (take k s) closed
closed_made t s (suc n) zero h closed = absurd (omega arith)
closed_made t [] (suc n) (suc k) h closed = refl
closed_made t (o ∷ s) (suc n) (suc k) h closed = closed_made (step t o) s n k (omega arith) closed

closed_afters : (t : Take) (rs : List Request) → t.closed ≡ true → (fold after t rs).closed ≡ true
closed_afters t [] closed = closed
closed_afters t (r ∷ rs) closed =
    closed_afters (after t r) rs (ap (λ (u : Take). u.closed) (closed_after t r closed) ∙ closed)

-- each of these requests is stored, in its turn
abbrev pub AreStored : Take → List Request → Type 0
AreStored t [] = Unit {0}
AreStored t (r ∷ rs) = (verdict t r ≡ Stored) × AreStored (after t r) rs

-- one of them is a CLOSE
pub stored_closes : (t : Take) (rs : List Request) → AreStored t rs → list_any is_close rs ≡ true →
    (fold after t rs).closed ≡ true
stored_closes t [] h any = absurd cc
stored_closes t (Open f history ∷ rs) h any = stored_closes (after t (Open f history)) rs h.1 any
stored_closes t (Block bytes ∷ rs) h any = stored_closes (after t (Block bytes)) rs h.1 any
stored_closes t (Mark id frame ∷ rs) h any = stored_closes (after t (Mark id frame)) rs h.1 any
stored_closes t (SetField tag value ∷ rs) h any = stored_closes (after t (SetField tag value)) rs h.1 any
stored_closes t (CloseRequest total ∷ rs) h any = closed_afters (after t (CloseRequest total)) rs
    (ap (λ (v : Verdict). (cond (is_stored v) (with_request t (CloseRequest total)) t).closed) h.0)

-- a name that was in the store has nothing stored
pub taken_refuses : (r : Request) → verdict (new_take true) r ≡ Stored → ⊥
unfolding judge
taken_refuses (Open f history) e = go (not (is_format f && list_all is_history_byte history)) e
  where
    go : (v : Bool) → cond v BadFormat NameTaken ≡ Stored → ⊥
    go true e = cc
    go false e = cc
taken_refuses (Block bytes) e = cc
taken_refuses (Mark id frame) e = cc
taken_refuses (SetField tag value) e = cc
taken_refuses (CloseRequest total) e = cc

-- Done numbers.

served_done : (taken : Bool) (log : Log) (m : Message) (stop : Option ℕ) → log.done ≤ (served taken log m stop).1.done
unfolding served
served_done taken log m stop = (ends_between log.done (run_end (admitted_after log m) log.done) stop (omega arith)).0

own_done : (existed : List ℕ → Bool) (b : Book) (m : Message) (faults : Faults) →
    (log_of b m.name).done ≤ (log_of (turn existed b (Says m) faults).1 m.name).done
unfolding turn
own_done existed b m faults =
    let log : Log = log_of b m.name in
    let more = served_done (existed m.name) log m faults.stop in
    by_case (existed m.name) (is_known b m.name) (is_full b) log m faults
    (λ y. log.done ≤ (log_of (with_change b m.name y.1) m.name).done) (λ code next. omega arith)
    (omega (
      arith,
      more,
      ap (λ (z : Log). z.done)
          (log-with_log_same b m.name (served (existed m.name) log m faults.stop).1),
    ))

turn_done : (existed : List ℕ → Bool) (b : Book) (f : Frame) (faults : Faults) (name : List ℕ) →
    (log_of b name).done ≤ (log_of (turn existed b f faults).1 name).done
unfolding turn
turn_done existed b (Says m) faults name = go (bytes_eq m.name name) refl
  where
    other : (o : Option Log) → bytes_eq m.name name ≡ false →
        (log_of b name).done ≤ (log_of (with_change b m.name o) name).done
    other None off = omega arith
    other (Some l) off = omega (arith, ap (λ (z : Log). z.done) (log-with_log_other b m.name name l off))

    go : (v : Bool) → bytes_eq m.name name ≡ v →
        (log_of b name).done ≤ (log_of (turn existed b (Says m) faults).1 name).done
    go true own = subst (λ (z : List ℕ). (log_of b z).done ≤ (log_of (turn existed b (Says m) faults).1 z).done)
        (same_name m.name name own) (own_done existed b m faults)
    go false off = other (turn_by (existed m.name) (is_known b m.name) (is_full b) (log_of b m.name) m faults).1 off
turn_done existed b (Asks x n) faults name = omega arith
turn_done existed b Bye faults name = omega arith

pub done_stays : (existed : List ℕ → Bool) (b : Book) (ts : List (Frame × Faults)) (name : List ℕ) →
    (log_of b name).done ≤ (log_of (book_after existed b ts) name).done
done_stays existed b [] name = omega arith
done_stays existed b (t ∷ ts) name =
    let first = turn_done existed b t.0 t.1 name in
    let rest = done_stays existed (turn existed b t.0 t.1).1 ts name in
    omega (arith, first, rest)
