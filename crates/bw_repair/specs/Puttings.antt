-- What putting bytes into a file leaves of it, which may have them already.
use Rattle.std.specs.Prelude.{◌≡◌, ◌≢◌, ◌⊎◌, ℕ, IsTrue, List, Option, Some, None}
use Rattle.bw_disk.specs.declared.disk.Disk.{Ghosts}
use Rattle.bw_store.specs.Stores.{overwritten}
use Rattle.bw_repair.specs.Makings.{IsMakeFault, LeavesOut}
use Rattle.bw_repair.specs.declared.conversions.fault.ConvertFault.{ConvertFault}
use Rattle.bw_repair.specs.declared.conversions.fault.ConvertKind.TheVariants.{Exists}

-- the file at the path has these bytes, which are synced: it is new, or had them
pub record IsThere {D F : Type 0} (G : Ghosts D F) (path bytes : List ℕ) (old new : D) : Type 0 where
  pub before : (G.contents old path ≡ None) ⊎ (G.contents old path ≡ Some bytes)
  pub has : G.contents new path ≡ Some bytes
  pub lasts : G.synced new path ≡ Some bytes

-- .. those of w with an id in the place of the first
abbrev pub IsPut : {D F : Type 0} → Ghosts D F → List ℕ → List ℕ → List ℕ → D → D → Type 0
IsPut G path w id old new = IsTrue (G.honest old) → IsThere G path (overwritten w 0 id) old new

-- w wasn't put for this reason, which left this; Exists says that the file has other bytes
pub record StopsPutting {D F : Type 0} (G : Ghosts D F) (path w id : List ℕ) (f : ConvertFault)
    (old new : D) : Type 0 where
  pub reason : IsMakeFault w f
  pub leaves : IsTrue (G.honest old) →
      LeavesOut id w f.kind (G.contents old path) (G.contents new path)
  pub other : IsTrue (G.honest old) → f.kind ≡ Exists → G.contents old path ≢ Some (overwritten w 0 id)
