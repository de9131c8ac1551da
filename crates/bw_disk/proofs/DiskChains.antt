-- What calls in a row leave of a disk.
use Rattle.std.proofs.Common.{◌≡◌, ◌∙◌, subst, sym, IsTrue}
use Rattle.bw_disk.specs.DiskSteps.{StaysWhole}
use Rattle.bw_disk.specs.Volumes.{KeepsEach}
use Rattle.bw_disk.specs.declared.disk.Disk.{Ghosts}

-- a disk that stays whole twice
pub stays_twice : {D F : Type 0} (G : Ghosts D F) (old middle new : D) → StaysWhole G old middle →
    StaysWhole G middle new → StaysWhole G old new
stays_twice G old middle new first second = record {
  honest = second.honest ∙ first.honest;
  contents = λ h path. second.contents (subst IsTrue (sym first.honest) h) path ∙ first.contents h path;
  synced = λ h path. second.synced (subst IsTrue (sym first.honest) h) path ∙ first.synced h path;
}

-- a disk that stayed whole, and a call that keeps all
pub stays_on : {D F : Type 0} (G : Ghosts D F) (old middle new : D) → StaysWhole G old middle →
    G.honest new ≡ G.honest middle →
    (IsTrue (G.honest middle) → KeepsEach (G.contents middle) (G.contents new)) →
    (IsTrue (G.honest middle) → KeepsEach (G.synced middle) (G.synced new)) → StaysWhole G old new
stays_on G old middle new so_far honest contents synced =
    stays_twice G old middle new so_far (record { honest = honest; contents = contents; synced = synced })
