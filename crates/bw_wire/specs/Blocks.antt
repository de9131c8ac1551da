-- The parts of a buffer.
use Rattle.std.specs.Prelude.{◌≡◌, ◌≤◌, take, nat_le, if◌then◌else◌, vec_len, vec_capacity}
use Rattle.bw_wire.specs.declared.buffer.Buffer.TheInside.{Inside}
use Rattle.bw_wire.specs.Held.{Held, longest_rest, largest_kept}

-- the bytes at the start of the block, and how large it is
abbrev pub held_in : Inside → Held
held_in b = record { bytes = take b.len b.block.items; room = vec_capacity b.block }

-- both blocks are written to their end; the spare one is there if the other is too large to be
-- kept
pub record IsBuffer (b : Inside) : Type 0 where
  pub within : b.len ≤ vec_len b.block
  pub block : vec_capacity b.block ≡ vec_len b.block
  pub spare : vec_capacity b.spare ≡ vec_len b.spare
  pub ready : vec_len b.spare ≡ (if nat_le (vec_len b.block) largest_kept then 0 else longest_rest)
