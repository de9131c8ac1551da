use Rattle.std.proofs.Common.{ℕ, List}
use Rattle.bw_recovery.proofs.SortedNames.{put_name}
use Rattle.bw_takes.specs.TakeNames.{IsFileOf}
use Rattle.bw_takes.proofs.naming.add_take.Goals as goal

pub returns-in-Ok-clause-added : goal.returns-in-Ok-clause-added
returns-in-Ok-clause-added c =
    put_name (λ (n : List ℕ). IsFileOf n c.args.file.now) c.args.names.now c.insert.new.self c.in-Some.name
    c.in-Some.ensures.some c.in-Some.ensures.each c.in-Ok.ensures.updates
