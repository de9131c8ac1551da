-- Blocks of a take as its file has them, and the digests of their messages' bodies.
use Rattle.std.specs.Prelude.{◌≡◌, ℕ, ◌<◌, ◌≤◌, ◌*◌, ◌^◌, ◌==◌, Bool, true, if◌then◌else◌}
use Rattle.std.specs.Prelude.{List, [], take, drop, slice_index, slice_index_or, Option, IfSome}
use Rattle.std.specs.Str.{bytes_eq}
use Rattle.bw_model.specs.Holds.{body_of}
use Rattle.bw_model.specs.Limits.{longest_block, longest_body}
use Rattle.bw_model.specs.Take.{Block}
use Rattle.bw_digest.specs.Lanes.{InEachLane}
use Rattle.bw_take_files.specs.TakeSamples.{samples_digest}
use Rattle.bw_take_files.specs.declared.stored_block.StoredBlock.{StoredBlock}
use Rattle.bw_take_files.specs.declared.block_digests.BlockDigests.{BlockDigests}

-- it is no longer than a block, and its offset can be counted on from
abbrev pub IsBlockNear : StoredBlock → Type 0
IsBlockNear s = (s.offset < 2 ^ 62) × (s.len ≤ longest_block)

-- the samples of a block that a file has
abbrev pub samples_at : List ℕ → StoredBlock → List ℕ
samples_at found s = take s.len (drop s.offset found)

-- the body of its message with these samples
abbrev pub body_at : List ℕ → List ℕ → StoredBlock → List ℕ
body_at name found s = body_of name s.number (Block (samples_at found s))

-- the digest of this body
abbrev pub block_digest_at : List ℕ → List ℕ → StoredBlock → List ℕ
block_digest_at name found s = samples_digest name s.number (samples_at found s)

-- the body has this digest, where the block has samples
abbrev pub has_digest : List ℕ → List ℕ → StoredBlock → List ℕ → Bool
has_digest name found s digest =
    if s.len == 0 then true else bytes_eq (block_digest_at name found s) digest

-- the block in a lane
abbrev pub block_at : List StoredBlock → ℕ → StoredBlock
block_at blocks j = slice_index_or blocks j (record { number = 0; offset = 0; len = 0 })

-- the body of this length in a lane's part of the room
abbrev pub body_in : List ℕ → List ℕ → ℕ → List ℕ
body_in room lens j = take (slice_index lens j) (drop (j * longest_body) room)

-- each digest is that of the block in its lane
abbrev pub AreBlockDigestsIn : List ℕ → List ℕ → BlockDigests → Type 0
AreBlockDigestsIn name found d =
    InEachLane (λ j. slice_index_or d.digests j [] ≡ block_digest_at name found (block_at d.blocks j))

-- those that are known, if any are
abbrev pub KeepsBlockDigests : List ℕ → List ℕ → Option BlockDigests → Type 0
KeepsBlockDigests name found known = IfSome known (AreBlockDigestsIn name found)
