use Rattle.std.proofs.Common.{◌≡◌, false, take}
use Rattle.std.specs.List.{All}
use Rattle.bw_session.specs.TableChanges.{forgettable_kept}
use Rattle.bw_kept.specs.FoundNames.{OnlyForgets}
use Rattle.bw_kept.specs.declared.room.Leaving.TheVariants as leaving
use Rattle.bw_kept.proofs.room.drop_first.Given as goal

abbrev pub invariant-loop-name : goal.invariant-loop-name
invariant-loop-name g l = record {
  forgets : OnlyForgets leaving.NoneMay l.fn.server l.server;
  unable : l.refused ≡ false →
      All (λ name. forgettable_kept l.fn.server name ≡ false) (take l.name-index l.names);
}
