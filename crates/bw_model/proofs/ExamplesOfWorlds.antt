-- The worked rows compute: what a sender counts, and a rehearsal.
use Rattle.std.proofs.Common.{refl}
use Rattle.bw_model.proofs.Computing.{computing}
use Rattle.bw_model.specs.ExamplesOfWorlds.{BatchExample, HearsExample, RefusedExample, NoticesExample, OffersExample, RehearsalExample}
use Rattle.bw_model.specs.ExamplesOfWorlds.{RehearsalRepliesExample, RehearsalAskExample}

pub batch : BatchExample
unfolding computing
batch = (refl, refl)

pub hears : HearsExample
unfolding computing
hears = (refl, refl, refl, refl)

pub refused : RefusedExample
unfolding computing
refused = (refl, refl, refl, refl)

pub notices : NoticesExample
unfolding computing
notices = refl

pub offers : OffersExample
unfolding computing
offers = refl

pub rehearsal : RehearsalExample
unfolding computing
rehearsal = (refl, refl, refl)

pub rehearsal_replies : RehearsalRepliesExample
unfolding computing
rehearsal_replies = refl

pub rehearsal_ask : RehearsalAskExample
unfolding computing
rehearsal_ask = (refl, refl)

-- all of them
pub ruleset rows = (batch, hears, refused, notices, offers, rehearsal, rehearsal_replies, rehearsal_ask)
