-- What the calls of a disk leave.
use Rattle.std.specs.Prelude.{◌≡◌, ◌⊎◌, ℕ, List, Option, Some, None, Bool, true, false, Result}
use Rattle.std.specs.Prelude.{MatchResult}
use Rattle.bw_store.specs.Stores.{Counts, Creates, KeepsOthers}
use Rattle.bw_store.specs.declared.store.Created.TheVariants.{New, Exists}

-- what a path has before and after a `create_new` that succeeds: it returns the file that it made
abbrev pub Makes : {F : Type 0} → Option F → Option (List ℕ) → Option (List ℕ) → Type 0
Makes (Some file) before after = Creates New before after
Makes None before after = Creates Exists before after

-- One call of a disk is counted, and counted among the failures if it fails.
pub record IsOneCall {D : Type 0} (calls failures : D → ℕ) (old new : D) (fails : Bool) :
    Type 0 where
  pub counted : Counts (calls old) (calls new) true
  pub failed : Counts (failures old) (failures new) fails

-- A success made one call of the disk; a failure made one that failed, or none.
abbrev pub AsksOnce : {D T E : Type 0} → (D → ℕ) → (D → ℕ) → D → D → Result T E → Type 0
AsksOnce calls failures old new answer =
    MatchResult answer
    (λ _. IsOneCall calls failures old new false)
    (λ _. IsOneCall calls failures old new true ⊎ (new ≡ old))

-- The content of a name is synced if its sync succeeds; all else stays as it was synced.
pub record Syncs {T E : Type 0} (answer : Result T E) (content : Option (List ℕ))
    (before after : List ℕ → Option (List ℕ)) (name : List ℕ) : Type 0 where
  pub reported : MatchResult answer (λ _. after name ≡ content) (λ _. after name ≡ before name)
  pub others : KeepsOthers before after name
