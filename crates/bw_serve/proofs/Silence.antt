-- Which connections are ended as silent, and which aren't.
use Rattle.std.proofs.Common.{◌≡◌, ℕ, ◌-◌, ◌≤◌, ◌<◌, Bool, true, false, Option, Some, None, List, [], ◌∷◌}
use Rattle.std.proofs.Common.{refl, sym, ap, subst, ◌∙◌, arith, nat_lt, if◌then◌else◌}
use Rattle.std.proofs.lemmas.Bool.{ltb-true}
use Rattle.bw_wire.specs.Framings.{is_decided}
use Rattle.bw_exchange.specs.AnsweredFrames.{Answered}
use Rattle.bw_exchange.specs.Parts.{end_of, pending_of, waiting_in}
use Rattle.bw_exchange.specs.declared.serving.ExchangeEnd.{ExchangeEnd}
use Rattle.bw_exchange.specs.declared.serving.ExchangeEnd.TheVariants as ends
use Rattle.bw_connections.specs.declared.connection.Connection.{Connection}
use Rattle.bw_connections.specs.declared.connection.ConnectionEnd.{ConnectionEnd}
use Rattle.bw_connections.specs.declared.connection.ConnectionEnd.TheVariants.{Idle, Over}
use Rattle.bw_connections.specs.declared.connection.Phase.{Phase}
use Rattle.bw_connections.specs.declared.connection.Phase.TheVariants as phases
use Rattle.bw_connections.specs.declared.connections.Closed.{Closed}
use Rattle.bw_connections.specs.declared.connections.Connections.{Connections}
use Rattle.bw_connections.specs.ConnectionTables.{HoldsConnectionAt}
use Rattle.bw_connections.specs.Lives.{IsNoSilence, expired_at, expired_by, has_just_ended, is_heard, longest_drain}
use Rattle.bw_connections.specs.Lives.{quiet_since, silence_by, silence_of}
use Rattle.bw_connections.specs.Places.{end_of_connection, expired_there}
use Rattle.bw_connections.proofs.Standing.{not_some}
use Rattle.bw_serve.proofs.Quanta.{expired_stands}

-- what is looked at is the connection there
expired_is : {L : Type 0} (now idle place : ℕ) (m : Connections L) (d : Connection L) → HoldsConnectionAt m place d →
    expired_there now idle m place ≡ expired_at now idle d
expired_is now idle place m d at = rw at refl

-- one that is there after it isn't quiet for too long
pub not_expired : {L : Type 0} (now idle place : ℕ) (m : Connections L) →
    end_of_connection {L = L} None ≡ expired_there now idle m place →
    (d : Connection L) → HoldsConnectionAt m place d → expired_at now idle d ≡ None
not_expired now idle place m is d at = sym (is ∙ expired_is now idle place m d at)

not_over : (end : ExchangeEnd) → Some Idle ≡ Some (Over end) → ⊥
not_over end e = cc

-- only one that is served ends for its silence, and only after so long
idle_by : (p : Phase) (idle quiet : ℕ) → Some Idle ≡ expired_by p idle quiet → (p ≡ phases.Serving) × (idle < quiet)
idle_by phases.Serving idle quiet is = go (nat_lt idle quiet) refl
  where
    go : (b : Bool) → nat_lt idle quiet ≡ b → (phases.Serving ≡ phases.Serving) × (idle < quiet)
    go true e = (refl, ltb-true idle quiet e)
    go false e = absurd (not_some Idle (sym (is ∙ ap (λ (b : Bool). if b then Some Idle else None) e)))
idle_by (phases.Draining fault) idle quiet is = go (nat_lt longest_drain quiet) refl
  where
    end : Bool → Option ConnectionEnd
    end b = if b then Some (Over (ends.BadFrame fault)) else None

    go : (b : Bool) → nat_lt longest_drain quiet ≡ b → (phases.Draining fault ≡ phases.Serving) × (idle < quiet)
    go true e = absurd (not_over (ends.BadFrame fault) (is ∙ ap end e))
    go false e = absurd (not_some Idle (sym (is ∙ ap end e)))

-- it answered nothing, for so long
quiet_for : (now since idle : ℕ) (p : Phase) (answered : List Answered) (ended : Bool) →
    idle < now - quiet_since now since p phases.Serving (is_heard answered ended) → (answered ≡ []) × (idle < now - since)
quiet_for now since idle p [] false long = (refl, long)
quiet_for now since idle p [] true long = absurd (omega (arith, long))
quiet_for now since idle p (x ∷ xs) ended long = absurd (omega (arith, long))

-- a frame that is held makes it no longer
silence_most : (p : Phase) (waiting : List ℕ) (whole : Bool) (quiet : ℕ) → silence_by p waiting whole quiet ≤ quiet
silence_most phases.Serving [] true quiet = omega arith
silence_most phases.Serving [] false quiet = omega arith
silence_most phases.Serving (b ∷ bs) whole quiet = omega arith
silence_most (phases.Draining fault) waiting whole quiet = omega arith

longer : (idle silence quiet : ℕ) → idle < silence → silence ≤ quiet → idle < quiet
longer idle silence quiet long most = omega (arith, long, most)

pub silent_long : {L : Type 0} (now idle place : ℕ) (a mid : Connections L) (y : Closed L) (answered : List Answered) →
    ((d c : Connection L) → HoldsConnectionAt a place d → HoldsConnectionAt mid place c →
    c.since ≡ quiet_since now d.since d.phase c.phase
    (is_heard answered (has_just_ended (end_of d.exchange) (end_of c.exchange)))) →
    end_of_connection (Some y) ≡ expired_there now idle mid place → y.end ≡ Idle →
    (d : Connection L) → HoldsConnectionAt a place d → (answered ≡ []) × (idle < now - d.since)
silent_long {L} now idle place a mid y answered since is idles d at =
    let x = expired_stands now idle place mid y is in
    let by = idle_by x.0.phase idle (silence_of now x.0)
    (ap (λ (e : ConnectionEnd). Some e) (sym idles) ∙ (is ∙ expired_is now idle place mid x.0 x.1)) in
    let ended = has_just_ended (end_of d.exchange) (end_of x.0.exchange) in
    let long : idle < now - quiet_since now d.since d.phase phases.Serving (is_heard answered ended) =
    subst (λ (p : Phase). idle < now - quiet_since now d.since d.phase p (is_heard answered ended)) by.0
    (subst (λ (n : ℕ). idle < now - n) (since d x.0 at x.1)
    (longer idle (silence_of now x.0) (now - x.0.since) by.1
    (silence_most x.0.phase (waiting_in x.0.exchange) (is_decided (pending_of x.0.exchange).bytes) (now - x.0.since)))) in
    quiet_for now d.since idle d.phase answered ended long

-- no quantum ends one for its silence
pub spoken_not_idle : (end : ConnectionEnd) → end ≡ Idle → IsNoSilence end → ⊥
spoken_not_idle end idles spoken = subst IsNoSilence idles spoken
