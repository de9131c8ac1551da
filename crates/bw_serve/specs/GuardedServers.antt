-- Servers that are given only what their peers may say.
use Rattle.std.specs.Prelude.{◌≡◌, List, Result}
use Rattle.bw_model.specs.Wire.{Frame}
use Rattle.bw_model.specs.Replies.{Reply}
use Rattle.bw_exchange.specs.MeteredServers.{AnswersCounted, metered_server}
use Rattle.bw_exchange.specs.declared.link_stats.Metered.{Metered}
use Rattle.bw_exchange.specs.declared.turns.NotKept.{NotKept}
use Rattle.bw_serve.specs.Guards.{Guarded, GuardedOverCommits, is_kept_out, turning_away}
use Rattle.bw_serve.specs.declared.guarded.GuardedQuantum.{GuardedQuantum}
use Rattle.bw_serve.specs.declared.guarded.GuardedExchange.{GuardedExchange}

-- the server that counts commits so
abbrev pub metered_commits : {T : Type 0} → (T → Result (Unit {0}) NotKept → T → Type 0) →
    Metered T →
    Result (Unit {0}) NotKept → Metered T → Type 0
metered_commits commits t result t' = commits (metered_server t) result (metered_server t')

-- in a quantum it is guarded, and counts what comes, and what is turned away; the peer and the list
-- stay
pub record AnswersInQuantum {T : Type 0} (answers : T → Frame → List Reply → T → Type 0)
    (g : GuardedQuantum T) (frame : Frame) (replies : List Reply) (g' : GuardedQuantum T) : Type 0 where
  pub answered : AnswersCounted (Guarded answers g.gate.allow.now g.gate.peer) g.metered.now frame replies
      g'.metered.now
  pub reference : g'.metered.ghost_name ≡ g.metered.ghost_name
  pub gate : g'.gate ≡ g.gate
  pub counted : g'.turned_away
      ≡ turning_away (is_kept_out g.gate.allow.now g.gate.peer) g.turned_away frame

-- the same in an exchange, in which it commits
pub record AnswersInExchange {T : Type 0} (answers : T → Frame → List Reply → T → Type 0)
    (committed : T → Type 0) (g : GuardedExchange T) (frame : Frame) (replies : List Reply)
    (g' : GuardedExchange T) : Type 0 where
  pub answered : AnswersCounted (GuardedOverCommits answers committed g.gate.allow.now g.gate.peer)
      g.metered.now frame replies g'.metered.now
  pub reference : g'.metered.ghost_name ≡ g.metered.ghost_name
  pub gate : g'.gate ≡ g.gate

pub record CommitsInExchange {T : Type 0} (commits : T → Result (Unit {0}) NotKept → T → Type 0)
    (g : GuardedExchange T) (result : Result (Unit {0}) NotKept) (g' : GuardedExchange T)
    : Type 0 where
  pub committed : metered_commits commits g.metered.now result g'.metered.now
  pub reference : g'.metered.ghost_name ≡ g.metered.ghost_name
  pub gate : g'.gate ≡ g.gate
