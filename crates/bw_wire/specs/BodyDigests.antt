-- Digests of bodies in a block of bytes.
use Rattle.std.specs.Prelude.{◌≡◌, ℕ, ◌+◌, ◌*◌, ◌≤◌, Bool, List, [], ◌∷◌, length, take, drop, map, max}
use Rattle.std.specs.Prelude.{Option, Some, None, IfSome, nat_lt, slice_index_or}
use Rattle.std.specs.List.{sum}
use Rattle.std.specs.Borrow.{Bor}
use Rattle.sha2.specs.Sha256.{sha256}
use Rattle.bw_model.specs.Bytes.{u32_at, first_that_holds}
use Rattle.bw_model.specs.Limits.{longest_body}
use Rattle.bw_model.specs.Stream.{framing_faults}
use Rattle.bw_model.specs.Wire.{Reason}
use Rattle.bw_digest.specs.Lanes.{InEachLane}
use Rattle.bw_digest.specs.Messages.{lent_at}
use Rattle.bw_wire.specs.declared.body_digests.HeldBody.{HeldBody}
use Rattle.bw_wire.specs.declared.body_digests.Span.{Span}
use Rattle.bw_wire.specs.declared.body_digests.BodyDigests.{BodyDigests}

-- the bytes of a body
abbrev pub bytes_at : List ℕ → Span → List ℕ
bytes_at block s = take s.len (drop s.at block)

-- those of a body that is held, among the bytes that are not used up
abbrev pub held_bytes : List ℕ → HeldBody → List ℕ
held_bytes bytes body = take body.len (drop body.at bytes)

-- the body after the length at a place, by what is wrong with the bytes there
abbrev pub first_body_by : List ℕ → ℕ → Option Reason → Option HeldBody
first_body_by bytes from None = Some (record { at = from + 4; len = u32_at (drop from bytes) 0 })
first_body_by bytes from (Some reason) = None

-- the body of the frame at a place, if it is whole
abbrev pub first_body : List ℕ → ℕ → Option HeldBody
first_body bytes from =
    first_body_by bytes from (first_that_holds (framing_faults longest_body (drop from bytes)))

-- how long each of these bodies is
abbrev pub lengths_of : List (Bor (List ℕ)) → List ℕ
lengths_of bodies = map (λ body. length body.now) bodies

-- the longest of these lengths
abbrev pub longest_of : List ℕ → ℕ
longest_of [] = 0
longest_of (n ∷ ns) = max n (longest_of ns)

-- whether bodies of these lengths are hashed in eight lanes, as these are taken to need as long as
-- three of the longest body one after another
abbrev pub fills_lanes : List ℕ → Bool
fills_lanes lengths = nat_lt (3 * longest_of lengths) (sum lengths)

-- this is the digest of these bytes
abbrev pub IsDigestOf : List ℕ → List ℕ → Type 0
IsDigestOf bytes digest = digest ≡ sha256 bytes

-- the digest in each lane is that of the bytes that were lent there
abbrev pub AreDigestsOf : List (Bor (List ℕ)) → List (List ℕ) → Type 0
AreDigestsOf bodies digests =
    InEachLane (λ j. IsDigestOf (lent_at bodies j) (slice_index_or digests j []))

-- it lies within the block
abbrev pub IsSpanIn : List ℕ → Span → Type 0
IsSpanIn block s = s.at + s.len ≤ length block

-- the place in a lane
abbrev pub span_at : List Span → ℕ → Span
span_at spans j = slice_index_or spans j (record { at = 0; len = 0 })

-- each digest is that of the body in its lane
abbrev pub AreDigestsIn : List ℕ → BodyDigests → Type 0
AreDigestsIn block d = InEachLane
    (λ j. slice_index_or d.digests j [] ≡ sha256 (bytes_at block (span_at d.spans j)))

-- those that are known, if any are
abbrev pub KeepsDigests : List ℕ → Option BodyDigests → Type 0
KeepsDigests block digests = IfSome digests (AreDigestsIn block)
