-- The worked rows compute: bytes in, bytes out, and the file that they leave.
use Rattle.std.proofs.Common.{refl}
use Rattle.bw_model.proofs.Computing.{computing}
use Rattle.bw_model.specs.ExamplesOfExchanges.{OpenAloneExample, InOrderExample, EmptyTakeExample, OddDataExample, OddHistoryExample}
use Rattle.bw_model.specs.ExamplesOfExchanges.{FileLengthsExample, AnyOrderExample, RepeatedExample, ConflictExample, ConflictHeldExample}
use Rattle.bw_model.specs.ExamplesOfExchanges.{ConflictOfClosesExample, WindowExample}
use Rattle.bw_model.specs.ExamplesOfExchanges.{FullWindowExample, TwoExchangesExample}
use Rattle.bw_model.specs.ExamplesOfExchanges.{BadBlockExample}
use Rattle.bw_model.specs.ExamplesOfExchanges.{WrongTotalExample, CueExample, DescriptionExample, LoudnessExample, NoLoudnessExample}
use Rattle.bw_model.specs.ExamplesOfExchanges.{AskEmptyExample, AskExample, AskAheadExample, ByeExample, CutExchangeExample}

pub open_alone : OpenAloneExample
unfolding computing
open_alone = refl

pub in_order : InOrderExample
unfolding computing
in_order = refl

pub empty_take : EmptyTakeExample
unfolding computing
empty_take = refl

pub odd_data : OddDataExample
unfolding computing
odd_data = refl

pub odd_history : OddHistoryExample
unfolding computing
odd_history = refl

pub file_lengths : FileLengthsExample
unfolding computing
file_lengths = refl

pub any_order : AnyOrderExample
unfolding computing
any_order = refl

pub repeated : RepeatedExample
unfolding computing
repeated = refl

pub conflict : ConflictExample
unfolding computing
conflict = refl

pub conflict_held : ConflictHeldExample
unfolding computing
conflict_held = refl

pub conflict_of_closes : ConflictOfClosesExample
unfolding computing
conflict_of_closes = refl

pub window : WindowExample
unfolding computing
window = refl

pub full_window : FullWindowExample
unfolding computing
full_window = refl

pub two_exchanges : TwoExchangesExample
unfolding computing
two_exchanges = refl

pub bad_block : BadBlockExample
unfolding computing
bad_block = refl

pub wrong_total : WrongTotalExample
unfolding computing
wrong_total = refl

pub cue : CueExample
unfolding computing
cue = refl

pub description : DescriptionExample
unfolding computing
description = refl

pub loudness : LoudnessExample
unfolding computing
loudness = refl

pub no_loudness : NoLoudnessExample
unfolding computing
no_loudness = refl

pub ask_empty : AskEmptyExample
unfolding computing
ask_empty = refl

pub ask : AskExample
unfolding computing
ask = refl

pub ask_ahead : AskAheadExample
unfolding computing
ask_ahead = refl

pub bye : ByeExample
unfolding computing
bye = refl

pub cut_exchange : CutExchangeExample
unfolding computing
cut_exchange = refl

-- all of them
pub ruleset rows = (
  open_alone,
  in_order,
  empty_take,
  odd_data,
  odd_history,
  file_lengths,
  any_order,
  repeated,
  conflict,
  conflict_held,
  conflict_of_closes,
  window,
  full_window,
  two_exchanges,
  bad_block,
  wrong_total,
  cue,
  description,
  loudness,
  no_loudness,
  ask_empty,
  ask,
  ask_ahead,
  bye,
  cut_exchange,
)
