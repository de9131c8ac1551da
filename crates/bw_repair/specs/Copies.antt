-- What copying bytes into a file leaves of it.
use Rattle.std.specs.Prelude.{◌≡◌, ℕ, ◌+◌, ◌^◌, ◌≤◌, ◌<◌, IsTrue, List, [], Option, Some, length, take, drop}
use Rattle.bw_disk.specs.declared.disk.Disk.{Ghosts}
use Rattle.bw_inspect.specs.declared.fault.InspectKind.TheVariants.{Read}
use Rattle.bw_repair.specs.DiskSteps.{GrowsTo}
use Rattle.bw_repair.specs.declared.conversions.fault.ConvertKind.{ConvertKind}
use Rattle.bw_repair.specs.declared.conversions.fault.ConvertKind.TheVariants.{Unread, Riff, SameForm}
use Rattle.bw_repair.specs.declared.conversions.fault.ConvertKind.TheVariants.{TooLong}
use Rattle.bw_repair.specs.declared.conversions.fault.ConvertKind.TheVariants.{Exists, Unwritten}

-- the next n bytes of w were read from a place on and written at it; none only at the end
pub record IsPieceCopied {D F : Type 0} (G : Ghosts D F) (path w : List ℕ) (place n : ℕ) (old new : D)
    (left : Option (List ℕ)) : Type 0 where
  pub within : place + n ≤ length w
  pub rest : left ≡ Some (drop (place + n) w)
  pub ended : n ≡ 0 → place ≡ length w
  pub puts : GrowsTo G path (take place w) (take (place + n) w) old new

-- all of w, which has n bytes, was written into a file that was empty
pub record IsCopiedWhole {D F : Type 0} (G : Ghosts D F) (path w : List ℕ) (n : ℕ) (old new : D)
    : Type 0 where
  pub counts : n ≡ length w
  pub puts : GrowsTo G path [] w old new

-- the file has a prefix of w, if it had the bytes up to a place
abbrev pub LeavesPart : {D F : Type 0} → Ghosts D F → List ℕ → List ℕ → ℕ → D → D → Type 0
LeavesPart G path w place old new =
    IsTrue (G.honest old) → G.contents old path ≡ Some (take place w) →
    (n : ℕ) × (G.contents new path ≡ Some (take n w))

-- why w isn't copied: a read failed, w is too long, or a write failed
abbrev pub IsCopyFault : List ℕ → ConvertKind → Type 0
IsCopyFault w (Unread kind) = kind ≡ Read
IsCopyFault w Riff = ⊥
IsCopyFault w SameForm = ⊥
IsCopyFault w TooLong = 2 ^ 62 < length w
IsCopyFault w Exists = ⊥
IsCopyFault w Unwritten = Unit {0}

-- copying w stopped for this reason, with a prefix of w in the file
pub record StopsCopy {D F : Type 0} (G : Ghosts D F) (path w : List ℕ) (place : ℕ) (kind : ConvertKind)
    (old new : D) : Type 0 where
  pub reason : IsCopyFault w kind
  pub part : LeavesPart G path w place old new
