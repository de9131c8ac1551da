use Rattle.bw_commands.proofs.WorldLemmas.{world_put}
use Rattle.bw_commands.proofs.world_text.text_of_world.Goals as goal

pub returns-clause-text : goal.returns-clause-text
returns-clause-text c = λ w h named.
    world_put w c.args.world.now c.store.result.now _ c.new-text.result.items c.put_counts.new.out.items
    c.put_progress.new.out.items c.put_files.new.out.items h c.new-text.ensures.items c.in_ok-put_counts.ensures
    (c.in_ok-put_progress.ensures w h named) c.in_ok-put_files.ensures.files c.store.ensures
