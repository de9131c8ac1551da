-- The worked rows compute: what is stored of a take, and its file at the limit.
use Rattle.std.proofs.Common.{refl}
use Rattle.bw_model.proofs.Computing.{computing}
use Rattle.bw_model.specs.ExamplesOfTakes.{FormatsExample, HistoryBytesExample, BeforeAndAfterExample, ManyMarkersExample}
use Rattle.bw_model.specs.ExamplesOfTakes.{AllowedFieldsExample, FieldLengthsExample, FieldBytesExample, LargestRiffExample}
use Rattle.bw_model.specs.ExamplesOfTakes.{LargestOddRiffExample, SmallestWideExample, AtLimitExample, MarkedExample, OverLimitExample}

pub formats : FormatsExample
unfolding computing
formats = refl

pub history_bytes : HistoryBytesExample
unfolding computing
history_bytes = refl

pub before_and_after : BeforeAndAfterExample
unfolding computing
before_and_after = refl

pub many_markers : ManyMarkersExample
unfolding computing
many_markers = refl

pub allowed_fields : AllowedFieldsExample
unfolding computing
allowed_fields = refl

pub field_lengths : FieldLengthsExample
unfolding computing
field_lengths = refl

pub field_bytes : FieldBytesExample
unfolding computing
field_bytes = refl

pub largest_riff : LargestRiffExample
unfolding computing
largest_riff = refl

pub largest_odd_riff : LargestOddRiffExample
unfolding computing
largest_odd_riff = refl

pub smallest_wide : SmallestWideExample
unfolding computing
smallest_wide = refl

pub at_limit : AtLimitExample
unfolding computing
at_limit = refl

pub marked : MarkedExample
unfolding computing
marked = (refl, refl)

pub over_limit : OverLimitExample
unfolding computing
over_limit = refl

-- all of them
pub ruleset rows = (
  formats,
  history_bytes,
  before_and_after,
  many_markers,
  allowed_fields,
  field_lengths,
  field_bytes,
  largest_riff,
  largest_odd_riff,
  smallest_wide,
  at_limit,
  marked,
  over_limit,
)
