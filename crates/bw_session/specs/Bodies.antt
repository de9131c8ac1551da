-- The bodies that are held.
use Rattle.std.specs.Prelude.{◌≡◌, ◌≤◌, ℕ, IsTrue, List, length}
use Rattle.sha2.specs.Sha256.{sha256}
use Rattle.bw_model.specs.Stream.{longest_body}
use Rattle.bw_wire.specs.Bodies.{is_message_body}

-- a message's body, with its digest beside it
pub record IsHeldBody (bytes digest : List ℕ) : Type 0 where
  pub message : IsTrue (is_message_body bytes)
  pub length : length bytes ≤ longest_body
  pub summed : digest ≡ sha256 bytes
