-- Numbers that are drained in a row.
use Rattle.std.specs.Prelude.{◌≡◌, ℕ, ◌+◌, Bool, Option, None, is_some, List, length, map}
use Rattle.bw_model.specs.Bytes.{at}
use Rattle.bw_model.specs.Limits.{window}
use Rattle.bw_model.specs.Book.{Log}
use Rattle.bw_model.specs.Turn.{verdicts_from}
use Rattle.bw_wire.specs.declared.reply.Reply.{Reply}
use Rattle.bw_wire.specs.Replies.{reply_of}
use Rattle.bw_session.specs.Sessions.{Part, HoldsLog}

-- the log with this many more numbers done
abbrev pub with_more_done : Log → ℕ → Log
with_more_done log count = record log { done = log.done + count }

-- As many numbers of the log as there are replies were drained, and these report their verdicts.
pub record HasDrained (first : Option (List ℕ)) (log : Log) (replies : List Reply) (p : Part)
    (found : Option (List ℕ)) : Type 0 where
  pub left : HoldsLog first (with_more_done log (length replies)) p found
  pub reported : map reply_of replies
      ≡ verdicts_from (is_some first) log.admitted p.growing.name log.done (length replies)
  -- nothing is admitted past the window that the log had
  pub none_past : at log.admitted (log.done + window) ≡ None

-- Draining ended there: at a fault, where the next number is admitted, and else where it isn't.
pub record EndsDraining (first : Option (List ℕ)) (log : Log) (stopped : Bool)
    (replies : List Reply) (p : Part) (found : Option (List ℕ)) : Type 0 where
  pub drained : HasDrained first log replies p found
  pub end : is_some (at log.admitted (log.done + length replies)) ≡ stopped
