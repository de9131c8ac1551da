use Rattle.std.proofs.Common.{refl}
use Rattle.bw_commands.proofs.CallLemmas.{one_call, same_content}
use Rattle.bw_commands.proofs.replay_store.ReplayStoreTakeStore.finish.Goals as goal

pub invariant_of-self-clause-took : goal.invariant_of-self-clause-took
invariant_of-self-clause-took c =
    one_call _ _ c.args.name.now _ _ c.args.self.now.took c.finish-answer.ensures.calls
    (λ other ne. c.finish-answer.ensures.unchanged refl other)
    (same_content _ _ (c.finish-answer.ensures.unchanged refl c.args.name.now))
