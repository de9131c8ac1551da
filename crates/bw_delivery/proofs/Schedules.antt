-- Events that are played one after another.
use Rattle.std.proofs.Common.{◌≡◌, ℕ, ◌+◌, ◌<◌, Bool, List, [], ◌∷◌, ◌++◌, length, take, get_or, refl, sym, ◌∙◌, ap, subst}
use Rattle.std.proofs.lemmas.List.{append-nil, append_assoc, take_more}
use Rattle.bw_model.specs.Exchange.{nothing_stands}
use Rattle.bw_model.specs.World.{World}
use Rattle.bw_delivery.specs.StoppedWorlds.{WorldStep, WorldStepsTo, after_world_step}
use Rattle.bw_delivery.specs.PlayedEvents.{IsPlayed}
use Rattle.bw_delivery.specs.Rehearsals.{ArePlayed}
use Rattle.bw_delivery.specs.declared.event.StopEvent.{StopEvent}

-- steps after steps
pub steps_more : (existed : List ℕ → Bool) (w : World) (steps : List WorldStep) (mid : World) (more : List WorldStep)
    (later : World) → WorldStepsTo existed w steps mid → WorldStepsTo existed mid more later →
    WorldStepsTo existed w (steps ++ more) later
steps_more existed w [] mid more later same went =
    subst (λ (x : World). WorldStepsTo existed x more later) same went
steps_more existed w (s ∷ steps) mid more later h went =
    (h.0, steps_more existed (after_world_step existed w s) steps mid more later h.1 went)

one_more : (w : World) (was : Bool) (es : List StopEvent) (steps : List WorldStep) (mid : World) (between : Bool)
    (e : StopEvent) (next : List WorldStep) (later : World) (on : Bool) → ArePlayed w was es steps mid between →
    IsPlayed mid between e next on → WorldStepsTo nothing_stands mid next later →
    ArePlayed w was (es ++ e ∷ []) (steps ++ next) later on
one_more w was [] steps mid between e next later on h played went = (
  next,
  [],
  later,
  on,
  ap (λ (ss : List WorldStep). ss ++ next) h.0 ∙ sym (append-nil next),
  subst (λ (x : World). IsPlayed x was e next on) h.1 (subst (λ (b : Bool). IsPlayed mid b e next on) h.2 played),
  subst (λ (x : World). WorldStepsTo nothing_stands x next later) h.1 went,
  (refl, refl, refl),
)
one_more w was (x ∷ es) steps mid between e next later on h played went = (
  h.0,
  h.1 ++ next,
  h.2,
  h.3,
  ap (λ (ss : List WorldStep). ss ++ next) h.4 ∙ append_assoc h.0 h.1 next,
  h.5,
  h.6,
  one_more h.2 h.3 es h.1 mid between e next later on h.7 played went,
)

-- the event at a place is played after those before it
pub play_next : (w : World) (was : Bool) (events : List StopEvent) (i : ℕ) (e : StopEvent) (steps : List WorldStep)
    (mid : World) (between : Bool) (next : List WorldStep) (later : World) (on : Bool) → i < length events →
    e ≡ get_or events i e → ArePlayed w was (take i events) steps mid between → IsPlayed mid between e next on →
    WorldStepsTo nothing_stands mid next later → ArePlayed w was (take (i + 1) events) (steps ++ next) later on
play_next w was events i e steps mid between next later on below is h played went =
    subst (λ (es : List StopEvent). ArePlayed w was es (steps ++ next) later on)
    (ap (λ (x : StopEvent). take i events ++ x ∷ []) is ∙ sym (take_more events i e below))
    (one_more w was (take i events) steps mid between e next later on h played went)
