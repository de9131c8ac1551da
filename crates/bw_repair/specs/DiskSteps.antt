-- What each call leaves of the disk on which OUT is made.
use Rattle.std.specs.Prelude.{◌≡◌, ℕ, Bool, IsTrue, List, Some}
use Rattle.bw_store.specs.Stores.{Counts, KeepsOthers}
use Rattle.bw_disk.specs.declared.disk.Disk.{Ghosts}

-- The disk is as honest as it was, a failure of it is counted, and what is at other paths stays, synced
-- or not.
pub record IsStep {D F : Type 0} (G : Ghosts D F) (path : List ℕ) (fails : Bool) (old new : D) : Type 0
  where
    pub honest : G.honest new ≡ G.honest old
    pub failed : Counts (G.failures old) (G.failures new) fails
    pub others : IsTrue (G.honest old) → KeepsOthers (G.contents old) (G.contents new) path
    pub synced : IsTrue (G.honest old) → KeepsOthers (G.synced old) (G.synced new) path

-- if an honest disk has these bytes at the path before, it has those after
abbrev pub GrowsTo : {D F : Type 0} → Ghosts D F → List ℕ → List ℕ → List ℕ → D → D →
    Type 0
GrowsTo G path before after old new =
    IsTrue (G.honest old) → G.contents old path ≡ Some before → G.contents new path ≡ Some after
