use Rattle.std.proofs.Common.{refl}
use Rattle.bw_commands.proofs.CallLemmas.{one_call, create_step}
use Rattle.bw_commands.proofs.replay_store.ReplayStoreTakeStore.create.Goals as goal

pub invariant_of-self-clause-took : goal.invariant_of-self-clause-took
invariant_of-self-clause-took c =
    one_call _ _ c.args.name.now _ _ c.args.self.now.took c.create-answer.ensures.calls
    (c.create-answer.ensures.others refl)
    (create_step c.create-answer.result _ _ (c.create-answer.ensures.created refl) (c.create-answer.ensures.failed refl))
