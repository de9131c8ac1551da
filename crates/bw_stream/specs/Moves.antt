-- What readers and writers do to the bytes that they report, and to their count of failures.
use Rattle.std.specs.Prelude.{◌≡◌, ℕ, ◌+◌, ◌-◌, ◌^◌, ◌<◌, ◌≤◌, List, [], ◌++◌, length, take, drop}
use Rattle.std.specs.Prelude.{min, Option, Some, Result, Ok, Err, IfOk, MatchResult, is_ok}
use Rattle.std.specs.Prelude.{if◌then◌else◌, nat_lt}
use Rattle.std.specs.Io.Seek.{MovesTo}

-- one more failure; the count stays at its last value
abbrev pub one_more : ℕ → ℕ
one_more n = if nat_lt n (2 ^ 64 - 1) then n + 1 else n

-- the count of failures after a call: it rises exactly if the call failed
abbrev pub failures_after : {X E : Type 0} → Result X E → ℕ → ℕ
failures_after result n = if is_ok result then n else one_more n

-- the number of bytes read or passed over, after a call that returns how many more there were;
-- the count stays at its last value
abbrev pub moved_after : {E : Type 0} → Result ℕ E → ℕ → ℕ
moved_after (Ok n) m = min (m + n) (2 ^ 64 - 1)
moved_after (Err e) m = m

-- bytes that are reported stay as they were
abbrev pub Keeps : Option (List ℕ) → Option (List ℕ) → Type 0
Keeps old new = (xs : List ℕ) → old ≡ Some xs → new ≡ Some xs

-- the next n of xs, at most the given number, are read into the prefix of a buffer; none of them
-- only at the end, or with no room
pub record IsRead (xs : List ℕ) (most n : ℕ) (buf : List ℕ) (left : Option (List ℕ)) : Type 0 where
  pub within : n ≤ length xs
  pub given : take n buf ≡ take n xs
  pub rest : left ≡ Some (drop n xs)
  pub end : n ≡ 0 → 0 < most → xs ≡ []

-- a reader that reports its bytes gave the next n of them
abbrev pub Reads : Option (List ℕ) → ℕ → ℕ → List ℕ → Option (List ℕ) → Type 0
Reads old most n buf new = (xs : List ℕ) → old ≡ Some xs → IsRead xs most n buf new

-- the next n of xs, at most the given number, are passed over; none of them only at the end, or
-- if none was wanted
pub record IsSkipped (xs : List ℕ) (most n : ℕ) (left : Option (List ℕ)) : Type 0 where
  pub within : n ≤ length xs
  pub rest : left ≡ Some (drop n xs)
  pub end : n ≡ 0 → 0 < most → xs ≡ []

-- a reader that reports its bytes passed over the next n of them
abbrev pub Skips : Option (List ℕ) → ℕ → ℕ → Option (List ℕ) → Type 0
Skips old most n new = (xs : List ℕ) → old ≡ Some xs → IsSkipped xs most n new

-- Within the known length a skip seeks: it passes over as many bytes as are wanted and there are,
-- and moves a known position to the place after them.
abbrev pub SeeksOver : {E : Type 0} → ℕ → ℕ → ℕ → Option ℕ → Option ℕ → Result ℕ E →
    Type 0
SeeksOver place len most old new result =
    let count = min most (len - place) in
    0 < count → IfOk result (λ n. n ≡ count) × MovesTo old new (place + count) result

-- Past the known length a skip reads: it passes over the next bytes that the reader itself has.
abbrev pub ReadsOn : {E : Type 0} → ℕ → ℕ → ℕ → Option (List ℕ) → Option (List ℕ) →
    Result ℕ E → Type 0
ReadsOn place len most old new result =
    min most (len - place) ≡ 0 → MatchResult result (λ n. Skips old most n new) (λ _. Keeps old new)

-- a writer that reports its bytes has these appended
abbrev pub Writes : Option (List ℕ) → List ℕ → Option (List ℕ) → Type 0
Writes old bytes new = (xs : List ℕ) → old ≡ Some xs → new ≡ Some (xs ++ bytes)

-- a prefix of these bytes comes after xs
pub record IsWrittenInPart (xs bytes : List ℕ) (written : Option (List ℕ)) : Type 0 where
  pub part : List ℕ
  pub rest : List ℕ
  pub whole : part ++ rest ≡ bytes
  pub stands : written ≡ Some (xs ++ part)

-- a writer that reports its bytes has a prefix of these appended
abbrev pub Begins : Option (List ℕ) → List ℕ → Option (List ℕ) → Type 0
Begins old bytes new = (xs : List ℕ) → old ≡ Some xs → IsWrittenInPart xs bytes new
