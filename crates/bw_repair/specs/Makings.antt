-- What making OUT leaves of it.
use Rattle.std.specs.Prelude.{◌≡◌, ◌⊎◌, ℕ, IsTrue, List, Option, Some, None, IsSome, [], length, take}
use Rattle.bw_disk.specs.declared.disk.Disk.{Ghosts}
use Rattle.bw_inspect.specs.declared.fault.InspectKind.{InspectKind}
use Rattle.bw_inspect.specs.declared.fault.InspectKind.TheVariants.{Read}
use Rattle.bw_store.specs.Stores.{overwritten}
use Rattle.bw_repair.specs.Copies.{IsCopyFault}
use Rattle.bw_repair.specs.DiskSteps.{GrowsTo}
use Rattle.bw_repair.specs.declared.conversions.fault.ConvertKind.{ConvertKind}
use Rattle.bw_repair.specs.declared.conversions.fault.ConvertKind.TheVariants.{Unread, Riff, SameForm}
use Rattle.bw_repair.specs.declared.conversions.fault.ConvertKind.TheVariants.{TooLong}
use Rattle.bw_repair.specs.declared.conversions.fault.ConvertKind.TheVariants.{Exists, Unwritten}
use Rattle.bw_repair.specs.declared.conversions.fault.ConvertFault.{ConvertFault}

-- w with the first n bytes of an id in the place of as many of its own
abbrev pub named_in_part : List ℕ → ℕ → List ℕ → List ℕ
named_in_part id n w = overwritten w 0 (take n id)

-- OUT is new, and has these bytes, which are synced
pub record IsMade {D F : Type 0} (G : Ghosts D F) (path bytes : List ℕ) (old new : D) : Type 0 where
  pub fresh : G.contents old path ≡ None
  pub has : G.contents new path ≡ Some bytes
  pub lasts : G.synced new path ≡ Some bytes

-- what w leaves where it isn't written and named whole: a prefix of w, or w with a prefix of the id
pub data Leftover (id w : List ℕ) (content : Option (List ℕ)) : Type 0 where
  Part : (n : ℕ) → content ≡ Some (take n w) → Leftover id w content
  Named : (n : ℕ) → content ≡ Some (named_in_part id n w) → Leftover id w content

-- OUT isn't made, or it is new and not whole
abbrev pub MayLeaveOver : List ℕ → List ℕ → Option (List ℕ) → Option (List ℕ) → Type 0
MayLeaveOver id w before after = (after ≡ before) ⊎ ((before ≡ None) × Leftover id w after)

-- a read fails before OUT is made or after it; any other fault of FILE is found before
abbrev pub LeavesUnread : List ℕ → List ℕ → InspectKind → Option (List ℕ) →
    Option (List ℕ) → Type 0
LeavesUnread id w Read before after = MayLeaveOver id w before after
LeavesUnread id w _ before after = after ≡ before

-- what OUT is before and after a fault of this kind
abbrev pub LeavesOut : List ℕ → List ℕ → ConvertKind → Option (List ℕ) → Option (List ℕ) →
    Type 0
LeavesOut id w (Unread kind) before after = LeavesUnread id w kind before after
LeavesOut id w Riff before after = after ≡ before
LeavesOut id w SameForm before after = after ≡ before
LeavesOut id w TooLong before after = MayLeaveOver id w before after
LeavesOut id w Exists before after = IsSome before × (after ≡ before)
LeavesOut id w Unwritten before after = MayLeaveOver id w before after

-- a file with any bytes got an id, and is synced
abbrev pub IsNamed : {D F : Type 0} → Ghosts D F → List ℕ → List ℕ → D → D → Type 0
IsNamed G path id old new =
    (w : List ℕ) → IsTrue (G.honest old) → G.contents old path ≡ Some w →
    (G.contents new path ≡ Some (overwritten w 0 id))
    × (G.synced new path ≡ Some (overwritten w 0 id))

-- .. or a prefix of the id
abbrev pub LeavesName : {D F : Type 0} → Ghosts D F → List ℕ → List ℕ → D → D → Type 0
LeavesName G path id old new =
    (w : List ℕ) → IsTrue (G.honest old) → G.contents old path ≡ Some w →
    (n : ℕ) × (G.contents new path ≡ Some (named_in_part id n w))

-- a file that was empty has all n bytes of w, under the id, and is synced
pub record IsFilled {D F : Type 0} (G : Ghosts D F) (path w id : List ℕ) (n : ℕ)
    (old new : D) : Type 0 where
  pub counts : n ≡ length w
  pub has : GrowsTo G path [] (overwritten w 0 id) old new
  pub lasts : IsTrue (G.honest old) → G.contents old path ≡ Some [] →
      G.synced new path ≡ Some (overwritten w 0 id)

-- filling a file that was empty stopped for this reason, and left this
pub record StopsFilling {D F : Type 0} (G : Ghosts D F) (path w id : List ℕ)
    (kind : ConvertKind) (old new : D) : Type 0 where
  pub reason : IsCopyFault w kind
  pub leaves : IsTrue (G.honest old) → G.contents old path ≡ Some [] →
      Leftover id w (G.contents new path)

-- OUT is made of all n bytes of w
pub record IsMadeOf {D F : Type 0} (G : Ghosts D F) (path w id : List ℕ) (n : ℕ)
    (old new : D) : Type 0 where
  pub counts : n ≡ length w
  pub makes : IsTrue (G.honest old) → IsMade G path (overwritten w 0 id) old new

-- why OUT isn't made of w: something is at the path, or w isn't copied
abbrev pub IsMakeFault : List ℕ → ConvertFault → Type 0
IsMakeFault w f = ((f.kind ≡ Exists) × (f.offset ≡ 0)) ⊎ IsCopyFault w f.kind

-- making OUT of w stopped for this reason, and left this
pub record StopsMaking {D F : Type 0} (G : Ghosts D F) (path w id : List ℕ)
    (f : ConvertFault) (old new : D) : Type 0 where
  pub reason : IsMakeFault w f
  pub leaves : IsTrue (G.honest old) →
      LeavesOut id w f.kind (G.contents old path) (G.contents new path)
