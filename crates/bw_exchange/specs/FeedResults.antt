-- What feeding a piece answers.
use Rattle.std.specs.Prelude.{ℕ, ◌+◌, ◌≤◌, ◌<◌, List, length, Result, Ok, Err}
use Rattle.bw_wire.specs.Held.{longest_stream}
use Rattle.bw_wire.specs.FramerStates.{Pending}
use Rattle.bw_exchange.specs.declared.exchange.FeedError.{FeedError}
use Rattle.bw_exchange.specs.declared.exchange.FeedError.TheVariants.{Memory, TooLong}

-- A piece is too long exactly if its stream would be longer than any, and memory is refused only if
-- the block that holds the bytes has no room for it.
abbrev pub IsFeeding : Pending → List ℕ → Result (Unit {0}) FeedError → Type 0
IsFeeding p piece (Ok x) = p.fed + length piece ≤ longest_stream
IsFeeding p piece (Err Memory) =
    (p.fed + length piece ≤ longest_stream) × (p.room < p.held + length piece)
IsFeeding p piece (Err TooLong) = longest_stream < p.fed + length piece
