-- The worked rows compute.
use Rattle.std.proofs.Common.{◌≡◌, refl, ap, ℕ, List, [], Result, Ok, Err}
use Rattle.bw_model.specs.ExampleWords.{hex}
use Rattle.bw_plan.proofs.Computing.{computing}
use Rattle.bw_plan.specs.Recordings.{Recording, FaultAt, value_under}
use Rattle.bw_end_to_end.specs.ExamplesOfCopies.{SameFileExample, ExtensibleCopyExample, CleanedCopyExample}
use Rattle.bw_end_to_end.specs.ExamplesOfCopies.{NotGivenExample, PcmCopyExample, ReadAgainExample}

pub same_file : SameFileExample
unfolding computing
same_file = (refl, refl)

pub extensible : ExtensibleCopyExample
unfolding computing
extensible = refl

pub cleaned : CleanedCopyExample
unfolding computing
cleaned = (refl, refl)

pub read_again : ReadAgainExample
unfolding computing
read_again = refl

-- the time of a recording
abbrev time_in : Result Recording FaultAt → List ℕ
time_in (Ok r) = value_under r.outline.values 6
time_in (Err fault) = []

pub not_given : NotGivenExample
unfolding computing
not_given = (refl, refl, λ same. apart (ap time_in same))
  where
    apart : hex "0000000000000000" ≡ [] → ⊥
    apart e = cc

pub pcm : PcmCopyExample
unfolding computing
pcm = refl
