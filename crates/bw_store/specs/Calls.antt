-- The calls that a store gets, in their order.
use Rattle.std.specs.Prelude.{◌≡◌, ℕ, ◌≤◌, List, ◌++◌, length, take, Option, Some}
use Rattle.bw_store.specs.Stores.{raised}

-- a call on a name; for a write, its offset and how many bytes
pub data StoreCall : Type 0 where
  Create : List ℕ → StoreCall
  WriteAt : List ℕ → ℕ → ℕ → StoreCall
  Finish : List ℕ → StoreCall

-- these calls are the last of all
pub record Ends (plan all : List StoreCall) (before : Option (List StoreCall)) : Type 0 where
  pub noted : List StoreCall
  pub were : before ≡ Some noted
  pub are : all ≡ noted ++ plan

-- If the store has noted all its calls, these came last.
abbrev pub Asks : List StoreCall → Option (List StoreCall) → Option (List StoreCall) → Type 0
Asks plan before after = (all : List StoreCall) → after ≡ Some all → Ends plan all before

-- The store got these calls: its count rose by as many, and its notes end with them.
pub record Gets (plan : List StoreCall) (count_before count_after : ℕ)
    (before after : Option (List StoreCall)) : Type 0 where
  pub counted : count_after ≡ raised count_before (length plan)
  pub noted : Asks plan before after

-- It got the first of these, up to one that failed.
pub record GetsFirst (plan : List StoreCall) (count_before count_after : ℕ)
    (before after : Option (List StoreCall)) : Type 0 where
  pub count : ℕ
  pub within : count ≤ length plan
  pub gets : Gets (take count plan) count_before count_after before after
