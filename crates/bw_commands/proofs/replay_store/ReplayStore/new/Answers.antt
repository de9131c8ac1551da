use Rattle.bw_commands.proofs.CallLemmas.{none_needed}
use Rattle.bw_commands.proofs.replay_store.ReplayStore.new.Goals as goal

pub invariant_of-result-clause-took : goal.invariant_of-result-clause-took
invariant_of-result-clause-took c = none_needed _ _ (rw c.new-2.ensures.inner c.new.ensures.empty)
