-- What is found at a state's path, and where a sender begins by it.
use Rattle.std.specs.Prelude.{◌≡◌, ◌⊎◌, ◌-◌, ℕ, zero, suc, Option, Some, List, [], ◌∷◌, nat_lt, take}
use Rattle.std.specs.Prelude.{unwrap_or, length, if◌then◌else◌, Bool, true, false, ◌||◌, ◌&&◌, ◌==◌}
use Rattle.std.specs.Prelude.{nat_eq, is_none, is_some, codes}
use Rattle.std.specs.List.{starts_with, slice_index}
use Rattle.bw_stream.specs.Moves.{Keeps}
use Rattle.bw_stream.specs.Readers.{Of}
use Rattle.bw_plan.specs.CleanedContents.{are_zero}
use Rattle.bw_ports.specs.StateReadings.{settled_in}
use Rattle.bw_ports.specs.States.{state_bytes}
use Rattle.bw_send_file.specs.declared.place.Found.{Found}

-- so many bytes of a state are read at most
abbrev pub most_bytes : ℕ
most_bytes = 16777216

-- these may be the first bytes of a state: they begin as one does, are cut before that, or are all
-- zero, as a loss of power may leave them
abbrev pub may_begin_state : List ℕ → Bool
may_begin_state bytes = starts_with nat_eq bytes (codes "bwingest-state-1 ")
    || starts_with nat_eq (codes "bwingest-state-1 ") bytes || are_zero bytes

-- how many requests are settled by the first bytes of a state, if its header is this one; else none
abbrev pub count_found : List ℕ → List ℕ → ℕ
count_found header bytes = unwrap_or (settled_in header (take most_bytes bytes)) 0

-- the file at the state's path says this for this header, if its bytes are reported
abbrev pub IsCountFound : Option (List ℕ) → List ℕ → ℕ → Type 0
IsCountFound file header found =
    (bytes : List ℕ) → file ≡ Some bytes → found ≡ count_found header bytes

-- the last of these bytes ends a line
abbrev pub ends_line : List ℕ → Bool
ends_line bytes = nat_lt 0 (length bytes) && (slice_index bytes (length bytes - 1) == 10)

-- What a state's first bytes say for a header: how many requests are settled; whether counts can be
-- written after them, as they are this take's, whole, and all of the file; and whether there is
-- another state.
pub record SaysOfTake (header bytes : List ℕ) (found : Found) : Type 0 where
  pub count : found.count ≡ unwrap_or (settled_in header bytes) 0
  pub whole : found.is_whole
      ≡ (is_some (settled_in header bytes) && (nat_lt (length bytes) most_bytes && ends_line bytes))
  pub other : found.is_other ≡ (is_none (settled_in header bytes) && nat_lt 0 (length bytes))

-- the file at the state's path may be a state, and says this for this header
abbrev pub IsStateFound : Option (List ℕ) → List ℕ → Found → Type 0
IsStateFound file header found = Of file (λ bytes.
    (may_begin_state (take most_bytes bytes) ≡ true) × SaysOfTake header (take most_bytes bytes) found)

-- A sender that found this count begins at that one: at 0 if none was found; else the server was
-- asked, and at 0 if it expects less.
abbrev pub ResumesAt : ℕ → (ℕ → Type 0) → ℕ → Type 0
ResumesAt found answers count = ((found ≡ 0) × (count ≡ 0))
    ⊎ ((next : ℕ) × answers next × (count ≡ (if nat_lt next found then 0 else found)))

-- the counts of a state that begins at this one
abbrev pub counts_begun : ℕ → List ℕ
counts_begun zero = []
counts_begun (suc n) = suc n ∷ []

-- whether a state is gone on with: it isn't, if nothing is passed over, or nothing can be written
-- after it
abbrev pub goes_on : Found → ℕ → Bool
goes_on found count = nat_lt 0 count && found.is_whole

-- The file of a state from which so many are passed over: the one that was there, or one with this
-- header and that count alone.
abbrev pub BeginsLog : Bool → Option (List ℕ) → List ℕ → ℕ → Option (List ℕ) → Type 0
BeginsLog true file header count log = Keeps file log
BeginsLog false file header count log = Of log (λ bytes. bytes ≡ state_bytes header (counts_begun count))
