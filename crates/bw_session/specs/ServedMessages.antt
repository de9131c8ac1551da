-- A message of a name that has a session.
use Rattle.std.specs.Prelude.{◌≡◌, ℕ, Bool, false, IsTrue, IsFalse, Option, None, is_some}
use Rattle.std.specs.Prelude.{unwrap_or, List, map, if◌then◌else◌}
use Rattle.std.specs.Option.{option_map_or}
use Rattle.std.specs.List.{All}
use Rattle.bw_model.specs.Counts.{Counts}
use Rattle.bw_model.specs.Wire.{Message}
use Rattle.bw_model.specs.Replies.{Reply as ModelReply, NoRoom}
use Rattle.bw_model.specs.Book.{Log}
use Rattle.bw_model.specs.CountedTurn.{is_pending}
use Rattle.bw_model.specs.Turn.{Faults, served, turn_by, admitted_after, is_admissible, notice}
use Rattle.bw_model.specs.Turn.{is_turned_away}
use Rattle.bw_wire.specs.declared.reply.Reply.{Reply}
use Rattle.bw_wire.specs.Replies.{reply_of}
use Rattle.bw_store.specs.declared.store.TakeStore.{Ghosts as StoreGhosts}
use Rattle.bw_journal.specs.declared.journal.Journal.{Ghosts as JournalGhosts}
use Rattle.bw_session.specs.NextNumbers.{KeepsBoth}
use Rattle.bw_session.specs.ServedReplies.{IsTimely}
use Rattle.bw_session.specs.Sessions.{Part, HoldsLog, CallsFew}

-- the log with the message admitted, if it is new in the window, and this many numbers done
abbrev pub log_after : Log → Message → ℕ → Log
log_after log m done = record { admitted = admitted_after log m; done = done }

-- the log after a message that was answered so
abbrev pub log_reported : Log → Message → List ModelReply → ℕ → Log
log_reported log m replies done = if is_turned_away replies then log else log_after log m done

-- The message is served as the definitions serve it, where draining stops after this many numbers,
-- or goes to its end: it stops short exactly if a failure was counted.
pub record ServesMessage (first : Option (List ℕ)) (log : Log) (m : Message) (before after : ℕ)
    (replies : List Reply) (p : Part) (found : Option (List ℕ)) : Type 0 where
  pub stop : Option ℕ
  pub answered : (served (is_some first) log m stop).0 ≡ map reply_of replies
  pub left : HoldsLog first (served (is_some first) log m stop).1 p found
  pub count : Counts before after (is_pending (served (is_some first) log m stop).1)
  pub whole : IsFalse (is_pending (served (is_some first) log m stop).1) → stop ≡ None

-- The message is turned as the definitions turn it, with some faults: a growth is refused only if
-- NoRoom is the answer, and a failure is counted exactly if draining stops short.
pub record Answers (known full : Bool) (first : Option (List ℕ)) (log : Log) (m : Message)
    (before after : ℕ) (replies : List Reply) (p : Part) (found : Option (List ℕ)) : Type 0 where
  pub faults : Faults
  pub answered : (turn_by (is_some first) known full log m faults).0 ≡ map reply_of replies
  pub left : HoldsLog first (unwrap_or (turn_by (is_some first) known full log m faults).1 log) p found
  pub room : IsTrue faults.refused →
      IsTrue (is_admissible log m.number) × (map reply_of replies ≡ notice m NoRoom log.done)
  pub count : Counts before after
      (option_map_or is_pending (turn_by (is_some first) known full log m faults).1 false)
  pub whole : IsFalse
      (option_map_or is_pending (turn_by (is_some first) known full log m faults).1 false) →
      faults.stop ≡ None

-- What a turn asks of store and journal, over any of them, where a call of them failed or none did:
-- that failure is counted, all else is kept as KeepsBoth says, the store is called a few times for
-- each number that was done, and no reply reports a failure that didn't come.
abbrev pub UsesBoth : {X Y : Type 0} → StoreGhosts X → JournalGhosts Y → List ℕ → X → X →
    Y → Y → ℕ → ℕ → List Reply → Type 0
UsesBoth S J name store store' journal journal' done later replies =
    (failed : Bool) × KeepsBoth S J failed name store store' journal journal'
    × CallsFew (S.calls store) (S.calls store') done later failed
    × All (IsTimely failed) replies
