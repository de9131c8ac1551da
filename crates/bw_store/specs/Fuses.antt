-- Which calls of a store with fuses fail.
use Rattle.std.specs.Prelude.{◌≡◌, ◌<◌, ℕ, ◌/◌, Bool, true, false, IsTrue, IsFalse, List, [], length, take}
use Rattle.std.specs.Prelude.{◌==◌, Option, None, if◌then◌else◌}
use Rattle.std.specs.List.{list_any}
use Rattle.bw_store.specs.Stores.{Counts}
use Rattle.bw_store.specs.Calls.{StoreCall}
use Rattle.bw_store.specs.Stores.{Written, last_count}
use Rattle.bw_store.specs.Calls.{Asks}
use Rattle.bw_store.specs.declared.store.TakeStore.{Ghosts}

-- the call of this number is to fail
abbrev pub has_fuse : List ℕ → ℕ → Bool
has_fuse fuses call = list_any (λ f. f == call) fuses

-- What is seen of a store with fuses: the inner store, the numbers of the calls that are still to
-- fail, whether one has failed so, how many bytes calls that succeeded have written, and the counts.
pub record Fused (X : Type 0) : Type 0 where
  pub inner : X
  pub fuses : List ℕ
  pub blown : Bool
  pub written : ℕ
  pub calls : ℕ
  pub failures : ℕ

-- A call fails at its fuse; without one it fails exactly if the inner store's call fails.
pub record Blows (fused fails : Bool) (inner_before inner_after : ℕ) : Type 0 where
  pub at_fuse : IsTrue fused → IsTrue fails
  pub elsewhere : IsFalse fused → Counts inner_before inner_after fails

-- what a store with fuses notes: what the inner one does, as long as no fuse has blown
abbrev pub passed_on : Bool → Option (List StoreCall) → Option (List StoreCall)
passed_on true noted = None
passed_on false noted = noted

-- these calls are the last that it notes
abbrev pub AsksPassed : List StoreCall → Bool → Option (List StoreCall) → Bool →
    Option (List StoreCall) → Type 0
AsksPassed plan was_blown before is_blown after =
    Asks plan (passed_on was_blown before) (passed_on is_blown after)

-- the calls that reach the inner store: none at a fuse
abbrev pub unless_fused : Bool → List StoreCall → List StoreCall
unless_fused fused plan = if fused then [] else plan

-- the first half of some bytes, rounded down
abbrev pub first_half : List ℕ → List ℕ
first_half bytes = take (length bytes / 2) bytes

-- the bytes of a write that reach the inner store: half of them at a fuse
abbrev pub let_through : Bool → List ℕ → List ℕ
let_through fused bytes = if fused then first_half bytes else bytes

-- An honest inner store whose count of failures didn't rise took the first half of the bytes.
abbrev pub WritesHalf : {X : Type 0} → Ghosts X → List ℕ → ℕ → List ℕ → X → X → Type 0
WritesHalf S name offset bytes old new =
    IsTrue (S.honest old) → S.failures old < last_count → S.failures new ≡ S.failures old →
    Written (S.contents old name) offset (first_half bytes) (S.contents new name)
