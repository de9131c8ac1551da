use Rattle.std.proofs.Common.{ap}
use Rattle.std.proofs.Math.Seq.{map-set_same}
use Rattle.bw_folder.proofs.folder.FolderStoreTakeStore.write_at.Goals as goal

pub returns-clause-opened : goal.returns-clause-opened
returns-clause-opened g c =
    map-set_same (λ take. take.name) _ _ _ c.index_mut-take.result.now
    (ap (λ take. take.name) c.index_mut-take.ensures.value)
