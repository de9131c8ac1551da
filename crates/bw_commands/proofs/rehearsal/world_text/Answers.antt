use Rattle.bw_commands.proofs.ReplayLemmas.{with_ok}
use Rattle.bw_commands.proofs.WorldLemmas.{rehearsed_text}
use Rattle.bw_commands.proofs.rehearsal.world_text.Goals as goal

pub returns : goal.returns
returns c =
    with_ok c.text_of_world.result _ _ _
    (λ text names put. rehearsed_text c.args.name c.copy.result c.args.limit c.args.events.now c.in_ok-world.world
    text.items c.copy.ensures c.in_ok-world.ensures put names) c.text_of_world.ensures.text c.text_of_world.ensures.names
