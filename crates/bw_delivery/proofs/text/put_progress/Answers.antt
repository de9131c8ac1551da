use Rattle.std.proofs.Common.{◌∙◌}
use Rattle.bw_commands.proofs.WorldLemmas.{on_ok, same_progress}
use Rattle.bw_delivery.proofs.StopTexts.{while_it_runs}
use Rattle.bw_delivery.proofs.text.put_progress.Goals as goal

pub returns-in-Runs : goal.returns-in-Runs
returns-in-Runs c =
    on_ok c.put_progress_of.result c.put_progress_of.ensures (λ put limit w name sender.
    while_it_runs c.args.it.now.machine c.in-Runs._life c.in-Runs.is limit w name c.args.it.now.done
    c.args.out.now.items _
    (λ same. put ∙ same_progress c.args.out.now.items _ _ _ _ _ _ same
    (c.settled-settled.ensures.value w.sender sender) (c.stored-stored.ensures w.sender sender)))
