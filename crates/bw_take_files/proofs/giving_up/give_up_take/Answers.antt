use Rattle.std.proofs.Common.{subst, sym}
use Rattle.bw_take_files.specs.GivenUp.{AreTakePathsApart}
use Rattle.bw_take_files.proofs.GiveUpLemmas.{paths_apart}
use Rattle.bw_take_files.proofs.giving_up.give_up_take.Goals as goal

pub put_aside_all-requires : goal.put_aside_all-requires
put_aside_all-requires g c =
    record { apart = subst AreTakePathsApart (sym c.in-Ok.ensures) (paths_apart c.args.folder.now c.args.name.now) }
