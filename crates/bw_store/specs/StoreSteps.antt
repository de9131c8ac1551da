-- What calls leave of a store, whatever store it is.
use Rattle.std.specs.Prelude.{◌≡◌, ℕ, Bool, IsTrue, List, Option, Result, OnOk}
use Rattle.bw_store.specs.Stores.{Counts, KeepsOthers}
use Rattle.bw_store.specs.Calls.{StoreCall, Gets, GetsFirst}
use Rattle.bw_store.specs.declared.store.TakeStore.{Ghosts}
use Rattle.bw_store.specs.Stores.{MayTear}

-- A failure is counted, the store is as honest as it was and in the same folder, and each other
-- name has what it had.
pub record Shared {X : Type 0} (S : Ghosts X) (fails : Bool) (name : List ℕ) (old new : X) :
    Type 0 where
  pub failures : Counts (S.failures old) (S.failures new) fails
  pub honest : S.honest new ≡ S.honest old
  pub folder : S.folder new ≡ S.folder old
  pub others : IsTrue (S.honest old) → KeepsOthers (S.contents old) (S.contents new) name

-- the store got these calls
abbrev pub WasAsked : {X : Type 0} → Ghosts X → List StoreCall → X → X → Type 0
WasAsked S plan old new = Gets plan (S.calls old) (S.calls new) (S.asked old) (S.asked new)

-- the store got the first of these calls, up to one that failed
abbrev pub WasAskedFirst : {X : Type 0} → Ghosts X → List StoreCall → X → X → Type 0
WasAskedFirst S plan old new =
    GetsFirst plan (S.calls old) (S.calls new) (S.asked old) (S.asked new)

-- In an honest store the content of a name changes in these n bytes from a place on, and nowhere
-- else.
abbrev pub TearsIn : {X : Type 0} → Ghosts X → List ℕ → ℕ → ℕ → X → X → Type 0
TearsIn S name place n old new =
    IsTrue (S.honest old) → MayTear (S.contents old name) place n (S.contents new name)

-- What a success changes under a name in an honest store.
abbrev pub PutsIn : {X T E : Type 0} → Ghosts X → Result T E → List ℕ →
    (Option (List ℕ) → Option (List ℕ) → Type 0) → X → X → Type 0
PutsIn S answer name Changes old new =
    IsTrue (S.honest old) → OnOk answer (Changes (S.contents old name) (S.contents new name))
