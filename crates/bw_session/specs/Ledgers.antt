-- Digests and verdicts of done numbers, packed into 33 bytes each.
use Rattle.std.specs.Prelude.{◌≡◌, ℕ, zero, suc, ◌%◌, ◌/◌, List, [], ◌∷◌, length, take, drop}
use Rattle.std.specs.Prelude.{slice_index, unwrap_or, IsSome}
use Rattle.bw_model.specs.Take.{Verdict, Stored}
use Rattle.bw_model.specs.Replies.{verdict_of}

-- what is kept of the done numbers, and for how many more there is room
pub record Entries : Type 0 where
  pub outcomes : List (List ℕ × Verdict)
  pub room : ℕ

-- the verdict with this code; no other code is ever packed
abbrev pub verdict_coded : ℕ → Verdict
verdict_coded code = unwrap_or (verdict_of code) Stored

-- the first n digests and verdicts that are packed into the bytes
unfoldable pub entries_in : ℕ → List ℕ → List (List ℕ × Verdict)
entries_in zero bytes = []
entries_in (suc n) bytes =
    (take 32 bytes, verdict_coded (slice_index bytes 32)) ∷ entries_in n (drop 33 bytes)

-- the first n codes are those of verdicts
unfoldable pub HaveCodes : ℕ → List ℕ → Type 0
HaveCodes zero bytes = Unit {0}
HaveCodes (suc n) bytes = IsSome (verdict_of (slice_index bytes 32)) × HaveCodes n (drop 33 bytes)

-- whole entries, each with a verdict's code
pub record IsPacked (bytes : List ℕ) : Type 0 where
  pub whole : length bytes % 33 ≡ 0
  pub coded : HaveCodes (length bytes / 33) bytes
