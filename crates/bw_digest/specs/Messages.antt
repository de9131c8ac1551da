-- A padded message in blocks of 64 bytes (FIPS 180-4, 5.1.1 and 5.2.1).
use Rattle.std.specs.Borrow.{Bor}
use Rattle.std.specs.Prelude.{◌≡◌, ℕ, ◌-◌, ◌*◌, ◌/◌, List, [], length, map, slice_index_or, take, drop}
use Rattle.sha2.specs.Sha256.{padded_message}

-- how many blocks a message has with its padding
abbrev pub blocks_in : List ℕ → ℕ
blocks_in message = length (padded_message message) / 64

-- the block at a place
abbrev pub block_of : List ℕ → ℕ → List ℕ
block_of message place = take 64 (drop (place * 64) (padded_message message))

-- these bytes begin with what follows the last whole block of a message
abbrev pub IsTail : List ℕ → List ℕ → Type 0
IsTail message tail = take (length (padded_message message) - length message / 64 * 64) tail
    ≡ drop (length message / 64 * 64) (padded_message message)

-- message j of those that are lent
abbrev pub lent_at : List (Bor (List ℕ)) → ℕ → List ℕ
lent_at messages j = slice_index_or (map (λ message. message.now) messages) j []
