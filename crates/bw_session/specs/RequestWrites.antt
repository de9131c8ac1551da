-- What a request that is to be stored does to the file of its take.
use Rattle.std.specs.Prelude.{◌≡◌, ℕ, Bool, true, false, Option, Some, None, IsSome, is_some}
use Rattle.std.specs.Prelude.{IsTrue, IsFalse, List, Result, MatchResult, IfOk, OnOk, OnErr}
use Rattle.std.specs.Prelude.{[], length}
use Rattle.std.specs.Bool.{MatchBool}
use Rattle.bw_model.specs.Take.{Take, Parts, Request, Open, Block, Mark, SetField, Close, parts}
use Rattle.bw_model.specs.Take.{with_request, with_field, after}
use Rattle.bw_model.specs.File.{file_of}
use Rattle.bw_model.specs.Holds.{IsInTheMiddle}
use Rattle.bw_file.specs.GrowingFiles.{Growing, is_new}
use Rattle.bw_store.specs.Calls.{StoreCall}
use Rattle.bw_file.specs.Plans.{begin_plan, append_plan, retouch_plan, close_plan}
use Rattle.bw_store.specs.declared.store.Created.{Created}
use Rattle.bw_store.specs.declared.store.StoreFault.{StoreFault}

-- a marker changes nothing in the file of an open take
abbrev pub is_mark : Request → Bool
is_mark (Open f history) = false
is_mark (Block bytes) = false
is_mark (Mark id frame) = true
is_mark (SetField tag value) = false
is_mark (Close total) = false

-- What a request that is to be stored asks of the store, in this order: to open a take whose name
-- existed, only for that name, and for a marker nothing.
abbrev pub request_plan : Growing → Parts → Request → Bool → List StoreCall
request_plan g p (Open f history) is_made = begin_plan g is_made (length history)
request_plan g p (Block bytes) is_made = append_plan g p (length bytes)
request_plan g p (Mark id frame) is_made = []
request_plan g p (SetField tag value) is_made =
    retouch_plan g p (with_field p.fields tag value) tag
request_plan g p (Close total) is_made = close_plan g p

-- The file of a name that did not exist: the take's, or on a dirty file what an earlier try of the
-- request that waits may have left.
pub record HasOwnFile (t : Take) (waits : Request) (g : Growing) (found : Option (List ℕ)) :
    Type 0 where
  pub whole : MatchBool g.dirty
      (IsInTheMiddle t g.limit (Some waits) found) (found ≡ file_of t g.limit)
  pub made_here : g.made ≡ is_some found
  -- one that is ahead is that of the take with the request
  pub ahead : IsTrue g.ahead → (g.dirty ≡ true) × (found ≡ file_of (after t waits) g.limit)

-- the take's file, whole
pub record HasWholeFile (t : Take) (g : Growing) (found : Option (List ℕ)) : Type 0 where
  pub whole : found ≡ file_of t g.limit
  pub made_here : g.made ≡ is_some found
  pub level : g.ahead ≡ false

-- the same file, which may be made, dirty or ahead now
abbrev pub IsSameFile : Growing → Growing → Type 0
IsSameFile old new =
    new ≡ record old { made = new.made; dirty = new.dirty; ahead = new.ahead }

-- What the growing file knows after a request was written: it is clean, or after a fault dirty.
pub record Knows (answer : Result Created StoreFault) (r : Request) (old new : Growing) :
    Type 0 where
  pub same : IsSameFile old new
  pub clean : OnOk answer (new.dirty ≡ false)
  pub dirty : OnErr answer ((new.dirty ≡ true) × (is_mark r ≡ false))
  -- no write makes it ahead
  pub ahead : IsTrue new.ahead → IsTrue old.ahead

-- What is there after a request was written. The name of an unopened take that existed is left as
-- it was.
pub record WritesRequest (answer : Result Created StoreFault) (r : Request) (p : Parts)
    (old new : Growing) (before after : Option (List ℕ)) : Type 0 where
  pub own : (t : Take) → parts t ≡ p → HasOwnFile t r old before →
      MatchResult answer
      (λ c. IsTrue (is_new c) × HasWholeFile (with_request t r) new after)
      (λ _. HasOwnFile t r new after)
  pub existed : p.format ≡ None → old.made ≡ false → IsSome before →
      (after ≡ before) × (new.made ≡ false) × IfOk answer (λ c. IsFalse (is_new c))
