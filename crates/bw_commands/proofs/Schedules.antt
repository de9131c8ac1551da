-- A schedule with one more event.
use Rattle.std.proofs.Common.{◌≡◌, ℕ, ◌+◌, ◌<◌, Bool, List, [], ◌∷◌, ◌++◌, length, take, get_or, refl, sym, ◌∙◌, ap}
use Rattle.std.proofs.Common.{subst}
use Rattle.std.specs.Prelude.{map}
use Rattle.std.proofs.lemmas.List.{map-append, take_more}
use Rattle.bw_model.specs.Turn.{Faults}
use Rattle.bw_model.specs.Exchange.{nothing_stands}
use Rattle.bw_model.specs.World.{World, Event, happens, world_after, new_world}
use Rattle.bw_commands.specs.FaultRuns.{AreFaultsOf, AreFaultsOfRuns}
use Rattle.bw_commands.specs.RehearsedWorlds.{LeadsTo, event_meaning}
use Rattle.bw_commands.specs.declared.event.Event.{Event as Played}

world_more : (existed : List ℕ → Bool) (w : World) (es : List (Event × Faults)) (e : Event) (faults : Faults) →
    world_after existed w (es ++ (e, faults) ∷ []) ≡ happens existed (world_after existed w es) e faults
world_more existed w [] e faults = refl
world_more existed w (x ∷ es) e faults = world_more existed (happens existed w x.0 x.1) es e faults

more_faults : (before between after : ℕ) (w : World) (es : List (Event × Faults)) (e : Event) (faults : Faults) →
    AreFaultsOfRuns before between w es → AreFaultsOf between after (world_after nothing_stands w es) e faults →
    AreFaultsOfRuns before after w (es ++ (e, faults) ∷ [])
more_faults before between after w [] e faults same is =
    (after, subst (λ (n : ℕ). AreFaultsOf n after w e faults) same is, refl)
more_faults before between after w (x ∷ es) e faults h is =
    (h.0, h.1, more_faults h.0 between after (happens nothing_stands w x.0 x.1) es e faults h.2 is)

pub leads_nowhere : (name : List ℕ) (failures : ℕ) → failures ≡ 0 → LeadsTo name [] failures (new_world name)
leads_nowhere name failures none = record { schedule = []; meant = refl; reached = refl; fault_runs = none }

pub leads_on : (name : List ℕ) (events : List Played) (i : ℕ) (e : Played) (w : World) (faults : Faults)
    (before after : ℕ) → i < length events → e ≡ get_or events i e → AreFaultsOf before after w (event_meaning e) faults →
    LeadsTo name (take i events) before w →
    LeadsTo name (take (i + 1) events) after (happens nothing_stands w (event_meaning e) faults)
leads_on name events i e w faults before after below is reported h = record {
  schedule = h.schedule ++ (event_meaning e, faults) ∷ [];
  meant = map-append (λ (x : Event × Faults). x.0) h.schedule ((event_meaning e, faults) ∷ [])
      ∙ ap (λ (es : List Event). es ++ event_meaning e ∷ []) h.meant
      ∙ ap (λ (x : Played). map event_meaning (take i events) ++ event_meaning x ∷ []) is
      ∙ sym (map-append event_meaning (take i events) (get_or events i e ∷ []))
      ∙ sym (ap (map event_meaning) (take_more events i e below));
  reached = world_more nothing_stands (new_world name) h.schedule (event_meaning e) faults
      ∙ ap (λ (x : World). happens nothing_stands x (event_meaning e) faults) h.reached;
  fault_runs = more_faults 0 before after (new_world name) h.schedule (event_meaning e) faults h.fault_runs
      (subst (λ (x : World). AreFaultsOf before after x (event_meaning e) faults) (sym h.reached) reported);
}
