-- The worked rows compute: frames that are whole, too long, cut or misspelt, and replies.
use Rattle.std.proofs.Common.{refl}
use Rattle.bw_model.proofs.Computing.{computing}
use Rattle.bw_model.specs.ExamplesOfFrames.{ZeroLengthExample, TooLongExample, CutLengthExample, ByeAndMoreExample, AskPayloadExample}
use Rattle.bw_model.specs.ExamplesOfFrames.{LargeNumberExample, TooLargeNumberExample, MisspeltExample, KindsExample, RequestKindsExample}
use Rattle.bw_model.specs.ExamplesOfFrames.{LongestBlockExample, LongestFrameExample}
use Rattle.bw_model.specs.ExamplesOfFrames.{LongestBlockReadExample, BlockTooLongExample}
use Rattle.bw_model.specs.ExamplesOfFrames.{NextExample}
use Rattle.bw_model.specs.ExamplesOfFrames.{CodesExample}

pub zero_length : ZeroLengthExample
unfolding computing
zero_length = refl

pub too_long : TooLongExample
unfolding computing
too_long = refl

pub cut_length : CutLengthExample
unfolding computing
cut_length = refl

pub bye_and_more : ByeAndMoreExample
unfolding computing
bye_and_more = refl

pub ask_payload : AskPayloadExample
unfolding computing
ask_payload = refl

pub large_number : LargeNumberExample
unfolding computing
large_number = refl

pub too_large_number : TooLargeNumberExample
unfolding computing
too_large_number = refl

pub misspelt : MisspeltExample
unfolding computing
misspelt = refl

pub kinds : KindsExample
unfolding computing
kinds = refl

pub request_kinds : RequestKindsExample
unfolding computing
request_kinds = refl

pub longest_block : LongestBlockExample
unfolding computing
longest_block = refl

pub longest_frame : LongestFrameExample
unfolding computing
longest_frame = refl

pub longest_block_read : LongestBlockReadExample
unfolding computing
longest_block_read = refl

pub block_too_long : BlockTooLongExample
unfolding computing
block_too_long = refl

pub next : NextExample
unfolding computing
next = refl

pub codes : CodesExample
unfolding computing
codes = refl

-- all of them
pub ruleset rows = (
  zero_length,
  too_long,
  cut_length,
  bye_and_more,
  ask_payload,
  large_number,
  too_large_number,
  misspelt,
  kinds,
  request_kinds,
  longest_block,
  longest_frame,
  longest_block_read,
  block_too_long,
  next,
  codes,
)
