-- Disks that die.
use Rattle.std.specs.Prelude.{◌≡◌, ℕ, Bool, List, Result, IsTrue, OnOk}
use Rattle.bw_store.specs.Stores.{Written}
use Rattle.bw_disk.specs.Disks.{IsOneCall}
use Rattle.bw_disk.specs.DiskSteps.{LivesUntil, WritesItsShare}
use Rattle.bw_disk.specs.declared.disk.Disk.{Ghosts}

-- What is seen of such a disk: the inner one, in which call it dies, how many bytes that call may
-- write, and the counts.
pub record Mortal (X : Type 0) : Type 0 where
  pub inner : X
  pub life : ℕ
  pub reached : ℕ
  pub calls : ℕ
  pub failures : ℕ

-- One call is counted, and all else stays.
pub record IsCallCounted {D : Type 0} (old new : Mortal D) (fails : Bool) : Type 0 where
  pub inner : new.inner ≡ old.inner
  pub life : new.life ≡ old.life
  pub reached : new.reached ≡ old.reached
  pub call : IsOneCall (λ (d : Mortal D). d.calls) (λ (d : Mortal D). d.failures) old new fails

-- One call is counted, the inner disk is called as long as the disk lives, and it dies when it was
-- to die.
pub record IsMortalCall {D F : Type 0} (G : Ghosts D F) (old new : Mortal D) (fails : Bool) :
    Type 0 where
  pub call : IsOneCall (λ (d : Mortal D). d.calls) (λ (d : Mortal D). d.failures) old new fails
  pub lives : LivesUntil G old.life old.calls fails old.inner new.inner
  pub life : new.life ≡ old.life
  pub reached : new.reached ≡ old.reached

-- A write: all bytes are written if it succeeds, and their share in the call in which the disk dies.
pub record IsMortalWrite {D F T E : Type 0} (G : Ghosts D F) (answer : Result T E) (path : List ℕ)
    (offset : ℕ) (bytes : List ℕ) (old new : Mortal D) : Type 0 where
  pub written : IsTrue (G.honest old.inner) → OnOk answer
      (Written (G.contents old.inner path) offset bytes (G.contents new.inner path))
  pub share : old.calls ≡ old.life →
      WritesItsShare G path offset bytes old.reached old.inner new.inner
