-- What is written while requests are printed.
use Rattle.std.specs.Prelude.{◌≡◌, ◌≤◌, ◌<◌, ◌⊎◌, ◌+◌, ◌++◌, ◌∷◌, ℕ, List, [], Bool, true, false}
use Rattle.std.specs.Prelude.{Option, Some, Result, Ok, Err, drop, length, IsTrue}
use Rattle.bw_stream.specs.Moves.{Begins, Writes, one_more}
use Rattle.bw_stream.specs.declared.sink.Sink.{Ghosts as Writer}
use Rattle.bw_model.specs.Take.{Request}
use Rattle.bw_model.specs.Wire.{Second, last_number, is_request}
use Rattle.bw_inspect.specs.declared.fault.InspectFault.{InspectFault}
use Rattle.bw_inspect.specs.declared.fault.InspectKind.TheVariants.{Read}
use Rattle.bw_inspect.specs.declared.fault.InspectKind.TheVariants.{Memory as NoMemory}
use Rattle.bw_inspect.specs.Faults.{is_failed_read}
use Rattle.bw_console.specs.Text.{as_line}
use Rattle.bw_plan.specs.Progress.{Progress, IsSoundPlan, remaining}
use Rattle.bw_recorder.specs.RequestLines.{request_hex, request_lines}
use Rattle.bw_recorder.specs.declared.packing.PackFault.{PackFault}
use Rattle.bw_recorder.specs.declared.packing.PackFault.TheVariants.{Unread, Altered, Unsendable}
use Rattle.bw_recorder.specs.declared.packing.PackFault.TheVariants.{Unwritable, Memory}

-- the reader is where the plan goes on, in bytes that have its samples
pub record Stands (b : List ℕ) (p : Progress) (left : Option (List ℕ)) : Type 0 where
  pub sound : IsSoundPlan p.stage
  pub at : left ≡ Some (drop p.samples.place b)
  pub there : p.samples.place + p.samples.left ≤ length b

-- the writer has this text after what was there
pub record HasText {S : Type 0} (w : Writer S) (text : List ℕ) (old new : S) : Type 0 where
  pub wrote : Writes (w.written old) text (w.written new)
  pub counted : w.failures new ≡ w.failures old

-- the writer failed, and has a prefix of the text after what was there
pub record HasCutText {S : Type 0} (w : Writer S) (text : List ℕ) (old new : S) : Type 0 where
  pub wrote : Begins (w.written old) text (w.written new)
  pub counted : w.failures new ≡ one_more (w.failures old)

-- the lines of these requests were written, by a call with this result
abbrev pub HasPut : {S X : Type 0} → Writer S → List Request → Result X PackFault → S → S → Type 0
HasPut w given (Err Unwritable) old new = HasCutText w (request_lines given) old new
HasPut w given (Ok x) old new = HasText w (request_lines given) old new
HasPut w given (Err (Unread f)) old new = HasText w (request_lines given) old new
HasPut w given (Err Altered) old new = HasText w (request_lines given) old new
HasPut w given (Err Unsendable) old new = HasText w (request_lines given) old new
HasPut w given (Err Memory) old new = HasText w (request_lines given) old new

-- these requests are the first of those
abbrev pub AreFirst : List Request → List Request → Type 0
AreFirst given requests = (rest : List Request) × (given ++ rest ≡ requests)

-- no message carries one of these requests, or a sender has too few numbers for them
abbrev pub AreUnsendable : List Request → Type 0
AreUnsendable requests =
    ((before : List Request) × (r : Request) × (after : List Request)
    × (requests ≡ before ++ r ∷ after) × (is_request r ≡ false))
    ⊎ (last_number Second + 1 < length requests)

-- these were given of the requests to come, before this fault
abbrev pub GivesBefore : List Request → List Request → PackFault → Type 0
GivesBefore requests given (Unread f) = AreFirst given requests × IsTrue (is_failed_read f.kind)
GivesBefore requests given Altered = ⊥
GivesBefore requests given Unsendable = AreFirst given requests × AreUnsendable requests
GivesBefore requests given Unwritable = AreFirst given requests
GivesBefore requests given Memory = AreFirst given requests

-- .. by a call that gives all of them
abbrev pub GivesRequests : List Request → List Request → Result (Unit {0}) PackFault → Type 0
GivesRequests requests given (Ok x) = given ≡ requests
GivesRequests requests given (Err fault) = GivesBefore requests given fault

-- .. by a call that gives the next one, where there is one
abbrev pub GivesNextOf : List ℕ → List Request → List Request → Result Bool PackFault → Progress →
    Option (List ℕ) → Type 0
GivesNextOf b requests given (Ok true) p left = (given ≡ []) × (requests ≡ [])
GivesNextOf b requests given (Ok false) p left =
    (r : Request) × ((given ≡ r ∷ []) × ((requests ≡ r ∷ remaining p b) × Stands b p left))
GivesNextOf b requests given (Err fault) p left = GivesBefore requests given fault

-- how many requests a call with this result gives
abbrev pub count_given : Result Bool PackFault → List Request → Type 0
count_given (Ok true) given = length given ≡ 0
count_given (Ok false) given = length given ≡ 1
count_given (Err fault) given = Unit {0}

-- the call that gives them all is as far as this
pub record GivesSoFar (b : List ℕ) (requests given : List Request) (p : Progress)
    (left : Option (List ℕ)) : Type 0
  where
    pub whole : requests ≡ given ++ remaining p b
    pub stands : Stands b p left

-- a request's line is not, or not whole, written for this fault
abbrev pub PutsNoLine : {S : Type 0} → Writer S → Request → PackFault → S → S → Type 0
PutsNoLine w r (Unread f) old new = ⊥
PutsNoLine w r Altered old new = ⊥
PutsNoLine w r Unsendable old new = (is_request r ≡ false) × (new ≡ old)
PutsNoLine w r Unwritable old new = HasCutText w (as_line (request_hex r)) old new
PutsNoLine w r Memory old new = new ≡ old

-- why a recording doesn't go on, where its plan has this fault
abbrev pub fault_going_on : InspectFault → PackFault
fault_going_on f = elim f.kind [
  | Read ↦ Unread f
  | NoMemory ↦ Memory
  | _ ↦ Altered
]
