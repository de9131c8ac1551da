-- Worked takes: the calls that their files make, from opening to closing.
use Rattle.std.specs.Prelude.{◌≡◌, ℕ, Bool, true, false, List, [], ◌∷◌, ◌++◌, Some, codes}
use Rattle.bw_model.specs.Take.{Parts, no_fields}
use Rattle.bw_store.specs.Calls.{StoreCall, Create, WriteAt, Finish}
use Rattle.bw_file.specs.GrowingFiles.{Growing, clean_file}
use Rattle.bw_file.specs.Plans.{begin_plan, append_plan, close_plan}

-- a take of 48,000 Hz, one channel, 16 bits, with this much data and these markers
abbrev pub row_parts : ℕ → List (ℕ × ℕ) → Parts
row_parts samples_len markers = record {
  format = Some (record { rate = 48000; channels = 1; bits = 16 });
  fields = no_fields;
  history = [];
  samples_len = samples_len;
  markers = markers;
  taken = false;
  closed = false;
}

-- its clean file
abbrev pub row_file : ℕ → Bool → Growing
row_file limit made = clean_file (codes "a1") limit made

-- the calls if it is opened, gets a block of this many bytes and is closed with these markers
abbrev pub row_calls : ℕ → ℕ → List (ℕ × ℕ) → List StoreCall
row_calls limit n markers =
    begin_plan (row_file limit false) true 0
    ++ append_plan (row_file limit true) (row_parts 0 []) n
    ++ close_plan (row_file limit true) (row_parts n markers)

-- two frames: six calls
abbrev pub SixCallsExample : Type 0
SixCallsExample =
    row_calls 4294967294 4 [] ≡
    Create (codes "a1")
    ∷ WriteAt (codes "a1") 0 690
    ∷ WriteAt (codes "a1") 690 4
    ∷ WriteAt (codes "a1") 4 4
    ∷ WriteAt (codes "a1") 686 4
    ∷ Finish (codes "a1")
    ∷ []

-- as many bytes as a RIFF file of this limit has, and a marker, which makes it BW64: eight calls
abbrev pub EightCallsExample : Type 0
EightCallsExample =
    row_calls 8192 7510 ((7, 0) ∷ []) ≡
    Create (codes "a1")
    ∷ WriteAt (codes "a1") 0 690
    ∷ WriteAt (codes "a1") 690 7510
    ∷ WriteAt (codes "a1") 4 4
    ∷ WriteAt (codes "a1") 686 4
    ∷ WriteAt (codes "a1") 8200 36
    ∷ WriteAt (codes "a1") 0 690
    ∷ Finish (codes "a1")
    ∷ []
