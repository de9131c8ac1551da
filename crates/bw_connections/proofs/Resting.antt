-- A quantum of a place where nothing can be done.
use Rattle.std.proofs.Common.{◌≡◌, inl, ℕ, Bool, true, false, Option, Some, None, List, [], ◌∷◌, length}
use Rattle.std.proofs.Common.{refl, sym, ap, ◌∙◌, arith}
use Rattle.std.specs.Prelude.{is_some, slice_get}
use Rattle.bw_model.specs.Wire.{Frame}
use Rattle.bw_model.specs.Replies.{Reply}
use Rattle.bw_exchange.specs.declared.exchange.Exchange.{Exchange}
use Rattle.bw_exchange.specs.declared.step.StreamEnd.{StreamEnd}
use Rattle.bw_exchange.specs.Parts.{end_of, waiting_in, wants_piece}
use Rattle.bw_exchange.proofs.Going.{does_none}
use Rattle.bw_connections.specs.declared.connection.Connection.{Connection}
use Rattle.bw_connections.specs.declared.connection.Phase.{Phase}
use Rattle.bw_connections.specs.declared.connection.Phase.TheVariants as phases
use Rattle.bw_connections.specs.declared.connections.Connections.{Connections}
use Rattle.bw_connections.specs.ConnectionTables.{HoldsConnectionAt}
use Rattle.bw_connections.specs.Lives.{Moved, has_just_ended, quiet_since, rests_by, rests_now}
use Rattle.bw_connections.specs.Places.{rests_at}
use Rattle.bw_connections.specs.Quanta.{WorksAt}
use Rattle.bw_connections.proofs.Going.{finished_at, learns_at, leaves_at, leaves_of_none, moved_at, not_served, quiet_at}
use Rattle.bw_connections.proofs.Standing.{adds_none, at_is, closes_none}
use Rattle.bw_ports.specs.declared.link.Link.{Ghosts as LinkGhosts}

-- what is known of a connection that rests
record IsResting {L : Type 0} (c : Connection L) : Type 0 where
  pub serving : c.phase ≡ phases.Serving
  pub none : waiting_in c.exchange ≡ []
  pub wants : wants_piece c.exchange ≡ true
  pub dry : c.readable ≡ false

known : (p : Phase) (waiting : List ℕ) (wants bytes : Bool) → rests_by p waiting wants bytes ≡ true →
    (p ≡ phases.Serving) × (waiting ≡ []) × (wants ≡ true) × (bytes ≡ false)
known phases.Serving [] true false is = (refl, refl, refl, refl)
known phases.Serving [] true true is = absurd cc
known phases.Serving [] false bytes is = absurd cc
known phases.Serving (b ∷ bs) wants bytes is = absurd cc
known (phases.Draining fault) waiting wants bytes is = absurd cc

resting : {L : Type 0} (c : Connection L) → rests_now c ≡ true → IsResting c
resting c is =
    let k = known c.phase (waiting_in c.exchange) (wants_piece c.exchange) c.readable is in
    record { serving = k.0; none = k.1; wants = k.2; dry = k.3 }

-- the one at a place that rests
rests_there : {L : Type 0} (m : Connections L) (place : ℕ) (c : Connection L) → rests_at m place ≡ true →
    HoldsConnectionAt m place c → IsResting c
rests_there m place c is at =
    let same : rests_at m place ≡ rests_now c = rw at refl in resting c (sym same ∙ is)

-- its stream has not ended
not_ended : (e : Exchange) → wants_piece e ≡ true → end_of e ≡ None
not_ended e wants = go (end_of e) (e.«open» wants)
  where
    go : (x : Option StreamEnd) → is_some x ≡ false → x ≡ None
    go None h = refl
    go (Some end) h = absurd cc

-- nor does one end while it stays
none_ends : (e : Option StreamEnd) → has_just_ended e e ≡ false
none_ends None = refl
none_ends (Some end) = refl

-- the number of the connection at a place, if there is one
abbrev number_in : {L : Type 0} → Option (Option (Connection L)) → ℕ
number_in (Some (Some c)) = c.number
number_in _ = 0

-- nothing moves
still_moved : {L : Type 0} (G : LinkGhosts L) (c : Connection L) → IsResting c → Moved G c [] c
still_moved G c h = record {
  piece = [];
  bytes = [];
  left = waiting_in c.exchange;
  waited = refl;
  most = omega arith;
  does = does_none c.exchange;
  reads = λ bytes wants none. absurd (let e = sym h.dry ∙ bytes in cc);
  held = λ some. refl;
  between = c.exchange;
  answers = does_none c.exchange;
  feeds = does_none c.exchange;
  waits = λ few. inl (inl h.wants);
  sends = λ room some. absurd (let none = ap (λ (x : List ℕ). length x) h.none in omega (arith, none, some));
}

pub rests_through : {L S : Type 0} (G : LinkGhosts L) (answers : S → Frame → List Reply → S → Type 0) (place now : ℕ)
    (m : Connections L) (s : S) → rests_at m place ≡ true → WorksAt G answers place now None m m s s
rests_through {L} G answers place now m s is = record {
  number = number_in (slice_get m.places.items place);
  answered = [];
  by_server = refl;
  most = omega arith;
  is_its = λ d at. sym (ap number_in at);
  ends_its = λ d at. tt;
  existed = λ d at. (d, at, refl, (λ p from. from));
  nobody = λ empty. (refl, refl);
  adds = adds_none G m m (λ over trace k. k);
  others = (record { others = λ j other. refl; count = refl }, refl, refl);
  unended = λ d at serving none. not_ended d.exchange (rests_there m place d is at).wants;
  since = λ d e at there. quiet_at now d d d e [] refl (at_is d e at there)
      (sym (ap (λ (b : Bool). quiet_since now d.since d.phase d.phase b) (none_ends (end_of d.exchange))
      ∙ ap (λ (p : Phase). quiet_since now d.since p p false) (rests_there m place d is at).serving));
  moved = λ d e at there. moved_at G d d d e [] refl (at_is d e at there)
      (λ serving. still_moved G d (rests_there m place d is at));
  leaves = λ d e at there. leaves_at G d d d e refl (at_is d e at there)
      (leaves_of_none G (waiting_in d.exchange) d.link d.link (λ ys taken. taken));
  lets_go = λ d e fault at there draining. absurd (not_served d fault draining (rests_there m place d is at).serving);
  learns = λ d e at there. learns_at G d d d e refl (at_is d e at there) (record { bytes = inl refl; room = inl refl });
  finished = λ d e at there. finished_at G d d d e refl (at_is d e at there) (λ h. h);
  closes = closes_none G place m m;
}

-- and that is so of a quantum that answers nothing
pub rests_unanswered : {L S : Type 0} (G : LinkGhosts L) (answers : S → Frame → List Reply → S → Type 0) (place now : ℕ)
    (m : Connections L) (s : S) → rests_at m place ≡ true →
    (works : WorksAt G answers place now None m m s s) × (works.answered ≡ [])
unfolding rests_through
rests_unanswered G answers place now m s is = (rests_through G answers place now m s is, refl)
