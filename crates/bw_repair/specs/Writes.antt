-- What the writing of sizes leaves of a file.
use Rattle.std.specs.Prelude.{◌≡◌, ℕ, ◌+◌, ◌<◌, ◌≤◌, List, Option, Some, take}
use Rattle.bw_model.specs.Bytes.{le32}
use Rattle.bw_store.specs.Stores.{overwritten}
use Rattle.bw_repair.specs.RepairedFiles.{with_sizes}
use Rattle.bw_repair.specs.declared.plan.SizePlan.{SizePlan}

-- the file has the new sizes, and nothing else is changed
abbrev pub GivesSizes : SizePlan → Option (List ℕ) → Option (List ℕ) → Type 0
GivesSizes p before after = (b : List ℕ) → before ≡ Some b → after
    ≡ Some (with_sizes b p.place p.new)

-- So many bytes of the samples' size are written, and so many of the form's: none of these before
-- all of the others.
pub record HasSizesInPart (b : List ℕ) (p : SizePlan) (after : Option (List ℕ)) : Type 0 where
  pub size : ℕ
  pub form : ℕ
  pub ordered : 0 < form → 4 ≤ size
  pub is : after ≡ Some (overwritten
      (overwritten b (p.place + 4) (take size (le32 p.new.«data»))) 4 (take form (le32 p.new.form)))

abbrev pub GivesSizesInPart : SizePlan → Option (List ℕ) → Option (List ℕ) → Type 0
GivesSizesInPart p before after = (b : List ℕ) → before ≡ Some b → HasSizesInPart b p after
