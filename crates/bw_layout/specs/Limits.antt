-- The largest form sizes that a RIFF file may be limited to.
use Rattle.std.specs.Prelude.{◌≡◌, ℕ, ◌%◌, ◌≤◌}

-- an even size from 8,192 bytes to the largest even one that fits four bytes and isn't 0xFFFFFFFF
pub record IsLimit (bytes : ℕ) : Type 0 where
  pub no_smaller : 8192 ≤ bytes
  pub no_larger : bytes ≤ 4294967294
  pub even : bytes % 2 ≡ 0
