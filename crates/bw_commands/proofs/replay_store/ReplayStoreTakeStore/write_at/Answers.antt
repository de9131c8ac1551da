use Rattle.std.proofs.Common.{refl}
use Rattle.bw_commands.proofs.CallLemmas.{one_call, write_step}
use Rattle.bw_commands.proofs.replay_store.ReplayStoreTakeStore.write_at.Goals as goal

pub invariant_of-self-clause-took : goal.invariant_of-self-clause-took
invariant_of-self-clause-took c =
    one_call _ _ c.args.name.now _ _ c.args.self.now.took c.write_at-answer.ensures.calls
    (c.write_at-answer.ensures.others refl)
    (write_step c.write_at-answer.result _ _ _ _ _ (c.write_at-answer.ensures.all refl)
    (c.write_at-answer.ensures.failed refl))
