-- What operators are shown in a run: its server, as each of its rounds left it.
use Rattle.std.specs.Prelude.{◌≡◌, ◌<◌, ℕ, Option, List}
use Rattle.std.specs.List.{AllByRecursion}
use Rattle.bw_model.specs.Book.{Book}
use Rattle.bw_model.specs.Wire.{Frame}
use Rattle.bw_model.specs.Replies.{Reply}
use Rattle.bw_exchange.specs.AnsweredFrames.{Answered, AnswersAll}
use Rattle.bw_ports.specs.declared.link.Link.{Ghosts as LinkGhosts}
use Rattle.bw_operators.specs.AllowLists.{AllowRules}
use Rattle.bw_operators.specs.OperatorPlaces.{IsFreeAt, place_count}
use Rattle.bw_operators.specs.declared.port.StatusPort.{Ghosts as PortGhosts}
use Rattle.bw_serve.specs.Guards.{FromPeer, Guarded, LeavesAllowed}
use Rattle.bw_serve.specs.Observations.{LooksAfterEach, RoundLeft}
use Rattle.bw_serve_status.specs.Growths.{no_growth}
use Rattle.bw_serve_status.specs.Looks.{Looks}
use Rattle.bw_serve_status.specs.Tallies.{none_tallied, tallied_all}
use Rattle.bw_serve_status.specs.declared.observer.StatusObserver.{StatusObserver}
use Rattle.bw_serve_status.specs.declared.tallied.Tallied.{Tallied}

-- This server has counted those of these that were allowed, and so came to it; what was turned away
-- isn't counted.
pub record HasCounted {T : Type 0} (rules : AllowRules) (server : T) (answered : List Answered)
    (counted : Tallied T) : Type 0 where
  pub server_is : counted.server ≡ server
  pub own : List Answered
  pub allowed : LeavesAllowed rules answered own
  pub tallies_are : counted.tallies ≡ tallied_all none_tallied own

-- an observer that has this port, at which nobody is connected yet; it knows how many takes the
-- server found and which names may come, and no name has grown
pub record BeginsToShow {P K : Type 0} (opened : P) (takes : Option ℕ) (rules : AllowRules)
    (observer : StatusObserver P K) : Type 0 where
  pub port : observer.port ≡ opened
  pub places : place_count observer.operators ≡ 32
  pub free : (place : ℕ) → place < 32 → IsFreeAt observer.operators place
  pub resumed : observer.resumed ≡ takes
  pub allow : observer.allow.now ≡ rules
  pub growth : observer.growth.items ≡ no_growth

module _ {T : Type 0} (answers : T → Frame → List Reply → T → Type 0)
    (holds : T → (List ℕ → Option (List ℕ)) → Book → Type 0) (rules : AllowRules) where
  -- Operators who come to this port are shown a server as each of these rounds left it, with the counts
  -- of all that had come to it until then: one observer looked once after each round, in their order,
  -- and nothing else happened to it.
  pub record ShowsEachRound {L P K : Type 0} (port : PortGhosts P K) (link : LinkGhosts K) (opened : P)
      (takes : Option ℕ) (server : T) (rounds : List (RoundLeft L T)) : Type 0 where
    pub answered_so : AllByRecursion
        (λ (left : RoundLeft L T). AnswersAll (FromPeer (Guarded answers rules)) server left.answered
        left.server) rounds
    pub before : StatusObserver P K
    pub begins : BeginsToShow opened takes rules before
    pub after : StatusObserver P K
    pub looked : LooksAfterEach (Looks holds port link) (HasCounted rules) rounds before after
