-- What judging a request, and writing it where it is to be stored, leaves.
use Rattle.std.specs.Prelude.{◌≡◌, ◌⊎◌, Bool, true, false, Option, None, IsSome, List, [], ℕ, Result}
use Rattle.std.specs.Prelude.{MatchResult, IsTrue, IfOk, OnOk, OnErr, if◌then◌else◌}
use Rattle.bw_model.specs.Take.{Take, Parts, Request, Stored, is_stored, judge, parts, after}
use Rattle.bw_model.specs.VerdictMeanings.{verdict_meaning}
use Rattle.bw_model.specs.declared.verdict.Verdict.{Verdict}
use Rattle.bw_store.specs.Calls.{StoreCall}
use Rattle.bw_model.specs.Counts.{Counts}
use Rattle.bw_file.specs.GrowingFiles.{Growing}
use Rattle.bw_store.specs.declared.store.StoreFault.{StoreFault}
use Rattle.bw_store.specs.StoreSteps.{WasAsked, WasAskedFirst}
use Rattle.bw_store.specs.declared.store.TakeStore.{Ghosts as StoreGhosts}
use Rattle.bw_session.specs.RequestWrites.{is_mark, request_plan, HasOwnFile, HasWholeFile}

-- The request is to be stored, by a call of the file.
pub record Touches (p : Parts) (r : Request) : Type 0 where
  pub stored : judge p r ≡ Stored
  pub unmarked : is_mark r ≡ false

-- what the store is asked for a request that is judged first: nothing if the file has it already,
-- or it is refused
abbrev pub judged_plan : Growing → Parts → Request → Bool → List StoreCall
judged_plan g p r is_made =
    if g.ahead then [] else if is_stored (judge p r) then request_plan g p r is_made else []

-- A request was carried out, and its note failed: no call of the store did, which was asked all that
-- the judged request asks, and another try asks for nothing.
pub record WaitsForNote {X : Type 0} (S : StoreGhosts X) (p : Parts) (g : Growing) (r : Request)
    (q : Parts) (k : Growing) (old new : X) : Type 0 where
  pub counted : Counts (S.failures old) (S.failures new) false
  pub is_made : Bool
  pub asked : WasAsked S (judged_plan g p r is_made) old new
  pub again : (b : Bool) → judged_plan k q r b ≡ []

-- Where doing a number stopped: before anything was asked, as its journal couldn't be begun; in a
-- call of the store, which another try asks again; or only at its note.
abbrev pub StopsBeforeDone : {X : Type 0} → StoreGhosts X → Parts → Growing → Request → Parts →
    Growing → X → X → Type 0
StopsBeforeDone S p g r q k old new =
    ((new ≡ old) × (k ≡ g) × (q ≡ p))
    ⊎ (Counts (S.failures old) (S.failures new) true × (k.ahead ≡ false))
    ⊎ WaitsForNote S p g r q k old new

-- What a store was asked for a request that is judged first.
pub record AsksJudged {X : Type 0} (S : StoreGhosts X) (answer : Result Verdict StoreFault)
    (g : Growing) (p : Parts) (r : Request) (made tried : Bool) (old new : X) : Type 0 where
  -- nothing if it is refused
  pub refused : is_stored (judge p r) ≡ false → new ≡ old
  -- after a success all that the judged request asks
  pub order : OnOk answer (WasAsked S (judged_plan g p r made) old new)
  -- after a fault the first of it
  pub begun : OnErr answer (WasAskedFirst S (judged_plan g p r tried) old new)

-- All is kept of the take but what is known of its name, which is never forgotten.
pub record KeepsParts (p q : Parts) : Type 0 where
  pub parts : q ≡ record p { taken = q.taken }
  pub taken : IsTrue p.taken → IsTrue q.taken

-- What is there after a request was judged and written. If the name of an unopened take existed,
-- its file is left as it was, and the request is judged as for a taken name.
pub record Carries (answer : Result Verdict StoreFault) (r : Request) (p q : Parts)
    (old new : Growing) (before found : Option (List ℕ)) : Type 0 where
  pub own : (t : Take) → parts t ≡ p → HasOwnFile t r old before →
      MatchResult answer
      (λ _. (q ≡ p) × HasWholeFile (after t r) new found)
      (λ _. HasOwnFile t r new found)
  pub existed : p.format ≡ None → old.made ≡ false → old.ahead ≡ false → IsSome before →
      (found ≡ before) × (new.made ≡ false)
      × IfOk answer (λ v. verdict_meaning v ≡ judge (record p { taken = true }) r)
