-- How many connections ended, by cause.
use Rattle.std.specs.Prelude.{ℕ, ◌+◌, if◌then◌else◌, List, [], ◌∷◌, codes, fold, map}
use Rattle.std.specs.Str.{bytes_eq}
use Rattle.bw_exchange.specs.LinkCounts.{up_to_last}
use Rattle.bw_connections.specs.declared.connection.ConnectionEnd.{ConnectionEnd}
use Rattle.bw_connections.specs.declared.connections.Closed.{Closed}
use Rattle.bw_serve.specs.Lines.{name_of_connection_end}
use Rattle.bw_serve.specs.declared.end_counts.EndCounts.{EndCounts}

-- the counts, each under the name of its end
abbrev pub end_counts : EndCounts → List (List ℕ × ℕ)
end_counts c = (codes "Bye", c.bye) ∷ (codes "EndOfInput", c.end_of_input)
    ∷ (codes "BadFrame", c.bad_frame) ∷ (codes "ReadFault", c.read_fault)
    ∷ (codes "WriteFault", c.write_fault) ∷ (codes "NotKept", c.not_kept)
    ∷ (codes "TurnLimit", c.turn_limit) ∷ (codes "Memory", c.memory) ∷ (codes "Idle", c.idle) ∷ []

-- no connection has ended
abbrev pub none_ended : EndCounts
none_ended = record {
  bye = 0;
  end_of_input = 0;
  bad_frame = 0;
  read_fault = 0;
  write_fault = 0;
  not_kept = 0;
  turn_limit = 0;
  memory = 0;
  idle = 0;
}

-- a count under a name after an end more: it rises by one if the end has that name
abbrev pub counting_end : ConnectionEnd → List ℕ × ℕ → List ℕ × ℕ
counting_end end count = if bytes_eq count.0 (name_of_connection_end end)
    then (count.0, up_to_last (count.1 + 1)) else count

-- all of them after an end more
abbrev pub with_end : List (List ℕ × ℕ) → ConnectionEnd → List (List ℕ × ℕ)
with_end counts end = map (counting_end end) counts

-- and after these connections have ended
abbrev pub with_ends : {L : Type 0} → List (List ℕ × ℕ) → List (Closed L) → List (List ℕ × ℕ)
with_ends counts closed = fold (λ so_far x. with_end so_far x.end) counts closed
