-- The reply to a message itself, by cases, and where the drain before it ends.
use Rattle.std.proofs.Common.{◌≡◌, ℕ, ◌+◌, ◌≤◌, Bool, true, false, not, cond, ◌&&◌, List, [], ◌∷◌, Option, Some, None}
use Rattle.std.proofs.Common.{refl, arith}
use Rattle.std.specs.Prelude.{nat_le, nat_lt}
use Rattle.bw_model.specs.Take.{Request}
use Rattle.bw_model.specs.Wire.{Message}
use Rattle.bw_model.specs.Replies.{Reply, Judged, Noticed, Held, TooFar, Conflict, DelayedStore}
use Rattle.bw_model.specs.Book.{verdict_at}
use Rattle.bw_model.specs.Turn.{drained_to, is_repeat, own_reply, window}

-- what holds of each of six values, where the test before it passes, holds of the one that five tests choose
chosen : {X : Type 0} (P : X → Type 0) (a b c d e f : X) (v w x y z : Bool) → (v ≡ true → P a) → (w ≡ true → P b)
    → (x ≡ true → P c) → (y ≡ true → P d) → (z ≡ true → P e) → (z ≡ false → P f)
    → P (cond v a (cond w b (cond x c (cond y d (cond z e f)))))
chosen P a b c d e f true w x y z of_a of_b of_c of_d of_e of_f = of_a refl
chosen P a b c d e f false true x y z of_a of_b of_c of_d of_e of_f = of_b refl
chosen P a b c d e f false false true y z of_a of_b of_c of_d of_e of_f = of_c refl
chosen P a b c d e f false false false true z of_a of_b of_c of_d of_e of_f = of_d refl
chosen P a b c d e f false false false false true of_a of_b of_c of_d of_e of_f = of_e refl
chosen P a b c d e f false false false false false of_a of_b of_c of_d of_e of_f = of_f refl

-- what holds of each reply that a message itself may get, where the test for it passes
pub own_cases : (P : List Reply → Type 0) (taken : Bool) (s : List (Option Request)) (done later end : ℕ) (m : Message)
    → (nat_le (done + window) m.number ≡ true → P (Noticed m.name m.number TooFar later ∷ []))
    → (not (is_repeat s m) ≡ true → P (Noticed m.name m.number Conflict later ∷ []))
    → (nat_le done m.number && nat_lt m.number later ≡ true → P [])
    → (nat_lt m.number done ≡ true → P (Judged m.name m.number (verdict_at taken s m.number) ∷ []))
    → (nat_lt later end ≡ true → P (Noticed m.name m.number DelayedStore later ∷ []))
    → (nat_lt later end ≡ false → P (Noticed m.name m.number Held later ∷ []))
    → P (own_reply taken s done later end m)
unfolding own_reply
own_cases P taken s done later end m too_far conflict drained judged delayed held =
    chosen P _ _ _ _ _ _ (nat_le (done + window) m.number) (not (is_repeat s m))
    (nat_le done m.number && nat_lt m.number later) (nat_lt m.number done) (nat_lt later end)
    too_far conflict drained judged delayed held

-- where draining ends
pub record IsDrained (done end later : ℕ) : Type 0 where
  pub from : done ≤ later
  pub to : later ≤ end

pub drained : (done end : ℕ) (stop : Option ℕ) → done ≤ end → IsDrained done end (drained_to done end stop)
drained done end None h = record { from = h; to = omega arith }
drained done end (Some k) h = record { from = omega arith; to = omega arith }
