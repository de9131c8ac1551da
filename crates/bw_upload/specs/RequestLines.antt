-- The requests that an input's lines say.
use Rattle.std.specs.Prelude.{ℕ, ◌<◌, ◌≤◌, List, length}
use Rattle.bw_model.specs.Take.{Request}
use Rattle.bw_wire.specs.RequestTexts.{IsRequestText}
use Rattle.bw_console.specs.Input.{longest_input}
use Rattle.bw_console.specs.Lines.{SayEach, FirstWithout, lines_of}
use Rattle.bw_console.specs.declared.fault.Fault.{Fault}
use Rattle.bw_console.specs.declared.fault.Fault.TheVariants.{TooLong, NotHex, NotEvent}
use Rattle.bw_console.specs.declared.fault.Fault.TheVariants.{NotRequest, Unreadable}
use Rattle.bw_console.specs.declared.fault.Fault.TheVariants.{Unwritable, Memory}

-- each line is the hex of its request
abbrev pub SayRequests : List (List ℕ) → List Request → Type 0
SayRequests = SayEach IsRequestText

-- the line with this number, counted from n on, is the first that is no request's
abbrev pub FirstUnsaid : ℕ → List (List ℕ) → ℕ → Type 0
FirstUnsaid = FirstWithout IsRequestText

-- the input's lines are those of these requests
pub record AreRequestsOf (input : List ℕ) (requests : List Request) : Type 0 where
  pub within : length input ≤ longest_input
  pub said : SayRequests (lines_of input) requests

-- lack of memory, or the first line that is no request's
abbrev pub IsRequestFault : Fault → List (List ℕ) → Type 0
IsRequestFault (NotRequest number) lines = FirstUnsaid 1 lines number
IsRequestFault Memory lines = Unit {0}
IsRequestFault _ lines = ⊥

-- a fault that refuses is the one that the input has
abbrev pub RefusesRequests : Fault → List ℕ → Type 0
RefusesRequests TooLong input = longest_input < length input
RefusesRequests (NotRequest n) input =
    (length input ≤ longest_input) × FirstUnsaid 1 (lines_of input) n
RefusesRequests (NotHex n) input = ⊥
RefusesRequests (NotEvent n) input = ⊥
RefusesRequests Unreadable input = Unit {0}
RefusesRequests Unwritable input = Unit {0}
RefusesRequests Memory input = Unit {0}
