use Rattle.std.proofs.Common.{refl}
use Rattle.bw_session.specs.Ledgers.{entries_in, HaveCodes}
use Rattle.bw_session.proofs.ledger.Ledger.new.Goals as goal

pub returns : goal.returns
unfolding entries_in
returns c = rw (c.new.ensures.items) refl

pub invariant_of-result : goal.invariant_of-result
unfolding HaveCodes
invariant_of-result c = rw (c.new.ensures.items) (record { whole = refl; coded = tt })
