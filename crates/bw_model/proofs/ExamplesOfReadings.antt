-- The worked rows compute: forms that are read, and forms that are refused.
use Rattle.std.proofs.Common.{refl}
use Rattle.bw_model.proofs.Computing.{computing}
use Rattle.bw_model.specs.ExamplesOfReadings.{ReadsSmallExample, ReadsWithoutPadExample}
use Rattle.bw_model.specs.ExamplesOfReadings.{ReadsRf64Example, ReadsTabledExample}
use Rattle.bw_model.specs.ExamplesOfReadings.{CutOuterExample}
use Rattle.bw_model.specs.ExamplesOfReadings.{CutChunksExample, NoDs64Example}
use Rattle.bw_model.specs.ExamplesOfReadings.{WrongFormSizeExample, WrongDataSizeExample}
use Rattle.bw_model.specs.ExamplesOfReadings.{WrongTableExample}
use Rattle.bw_model.specs.ExamplesOfReadings.{UntoldSizeExample, UnsaidRiffExample, WrongCueExample, ShortChunksExample}

pub reads_small : ReadsSmallExample
unfolding computing
reads_small = refl

pub reads_without_pad : ReadsWithoutPadExample
unfolding computing
reads_without_pad = refl

pub reads_rf64 : ReadsRf64Example
unfolding computing
reads_rf64 = refl

pub reads_tabled : ReadsTabledExample
unfolding computing
reads_tabled = refl

pub cut_outer : CutOuterExample
unfolding computing
cut_outer = refl

pub cut_chunks : CutChunksExample
unfolding computing
cut_chunks = refl

pub no_ds64 : NoDs64Example
unfolding computing
no_ds64 = refl

pub wrong_form_size : WrongFormSizeExample
unfolding computing
wrong_form_size = refl

pub wrong_data_size : WrongDataSizeExample
unfolding computing
wrong_data_size = refl

pub wrong_table : WrongTableExample
unfolding computing
wrong_table = refl

pub unreported_size : UntoldSizeExample
unfolding computing
unreported_size = refl

pub unsaid_riff : UnsaidRiffExample
unfolding computing
unsaid_riff = refl

pub wrong_cue : WrongCueExample
unfolding computing
wrong_cue = refl

pub short_chunks : ShortChunksExample
unfolding computing
short_chunks = refl

-- all of them
pub ruleset rows = (
  reads_small,
  reads_without_pad,
  reads_rf64,
  reads_tabled,
  cut_outer,
  cut_chunks,
  no_ds64,
  wrong_form_size,
  wrong_data_size,
  wrong_table,
  unreported_size,
  unsaid_riff,
  wrong_cue,
  short_chunks,
)
