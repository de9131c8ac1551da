-- The worked rows compute: turns in which the store fails, memory is refused, or the table of names is full.
use Rattle.std.proofs.Common.{refl}
use Rattle.bw_model.proofs.Computing.{computing}
use Rattle.bw_model.specs.ExamplesOfTurns.{FailedBlockExample, OtherBehindFailureExample, FailedTwiceExample, StoppedDrainExample}
use Rattle.bw_model.specs.ExamplesOfTurns.{SeventeenRepliesExample, FailedAnywhereExample, FullTableExample, FullTableTooFarExample}
use Rattle.bw_model.specs.ExamplesOfTurns.{FullTableAskExample, NoRoomExample, NameTakenExample}

pub failed_block : FailedBlockExample
unfolding computing
failed_block = (refl, refl)

pub other_after_failure : OtherBehindFailureExample
unfolding computing
other_after_failure = (refl, refl)

pub failed_twice : FailedTwiceExample
unfolding computing
failed_twice = (refl, refl)

pub stopped_drain : StoppedDrainExample
unfolding computing
stopped_drain = (refl, refl)

pub seventeen_replies : SeventeenRepliesExample
unfolding computing
seventeen_replies = refl

pub failed_anywhere : FailedAnywhereExample
unfolding computing
failed_anywhere = refl

pub full_table : FullTableExample
unfolding computing
full_table = refl

pub full_table_too_far : FullTableTooFarExample
unfolding computing
full_table_too_far = refl

pub full_table_ask : FullTableAskExample
unfolding computing
full_table_ask = refl

pub no_room : NoRoomExample
unfolding computing
no_room = refl

pub name_taken : NameTakenExample
unfolding computing
name_taken = (refl, refl)

-- all of them
pub ruleset rows = (
  failed_block,
  other_after_failure,
  failed_twice,
  stopped_drain,
  seventeen_replies,
  failed_anywhere,
  full_table,
  full_table_too_far,
  full_table_ask,
  no_room,
  name_taken,
)
