-- The replies to messages that are served.
use Rattle.std.specs.Prelude.{◌≡◌, Bool, false, IsTrue, [], ◌∷◌}
use Rattle.bw_model.specs.Turn.{is_turned_away}
use Rattle.bw_model.specs.CountedTurn.{is_delayed}
use Rattle.bw_wire.specs.declared.reply.Reply.{Reply}
use Rattle.bw_wire.specs.Replies.{reply_of, HasWireNumbers}

-- Its numbers are those of messages, and it turns no message away for lack of room.
pub record IsServing (r : Reply) : Type 0 where
  pub numbers : HasWireNumbers r
  pub served : is_turned_away (reply_of r ∷ []) ≡ false

-- It says that the store or the journal failed only if a call of them did.
abbrev pub IsTimely : Bool → Reply → Type 0
IsTimely failed r = IsTrue (is_delayed (reply_of r)) → IsTrue failed
