use Rattle.std.proofs.Common.{refl}
use Rattle.bw_args.proofs.bad_value.BadValue.text.Goals as goal

pub returns-in-Mixed : goal.returns-in-Mixed
returns-in-Mixed c = rw c.in-Mixed.is refl

pub returns-in-MixedSamples : goal.returns-in-MixedSamples
returns-in-MixedSamples c = rw c.in-MixedSamples.is refl
