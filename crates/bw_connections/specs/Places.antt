-- The places of many connections.
use Rattle.std.specs.Prelude.{ℕ, Bool, true, false, Option, Some, None, slice_get, vec_len, is_none}
use Rattle.std.specs.List.{position}
use Rattle.bw_connections.specs.declared.connection.Connection.{Connection}
use Rattle.bw_connections.specs.declared.connection.ConnectionEnd.{ConnectionEnd}
use Rattle.bw_connections.specs.declared.connections.Closed.{Closed}
use Rattle.bw_connections.specs.declared.connections.Connections.{Connections}
use Rattle.bw_connections.specs.Lives.{can_go_on, expired_at, rests_now}

-- how many there are
abbrev pub connection_count : {L : Type 0} → Connections L → ℕ
connection_count m = vec_len m.places

-- how many connections were begun
abbrev pub begun_of : {L : Type 0} → Connections L → ℕ
begun_of m = m.next

-- how many links were refused because no connection could be begun over them
abbrev pub refused_of : {L : Type 0} → Connections L → ℕ
refused_of m = m.refused

-- the first free place, if there is one
abbrev pub first_free_place : {L : Type 0} → Connections L → Option ℕ
first_free_place m = position is_none m.places.items

-- whether the connection at a place can proceed before its link has more bytes, or room
abbrev pub can_go_on_at : {L : Type 0} → Connections L → ℕ → Bool
can_go_on_at {L} m place = goes (slice_get m.places.items place)
  where
    goes : Option (Option (Connection L)) → Bool
    goes (Some (Some c)) = can_go_on c
    goes _ = false

-- whether nothing can be done at a place: no connection is there, or one of which nothing waits or
-- is held, and whose link has no bytes
abbrev pub rests_at : {L : Type 0} → Connections L → ℕ → Bool
rests_at {L} m place = rests (slice_get m.places.items place)
  where
    rests : Option (Option (Connection L)) → Bool
    rests (Some (Some c)) = rests_now c
    rests _ = true

-- how the connection at a place ends at a time, if there is one and it was quiet for longer than
-- this many milliseconds, or drained for long enough
abbrev pub expired_there : {L : Type 0} → ℕ → ℕ → Connections L → ℕ → Option ConnectionEnd
expired_there {L} now idle m place = ends (slice_get m.places.items place)
  where
    ends : Option (Option (Connection L)) → Option ConnectionEnd
    ends (Some (Some c)) = expired_at now idle c
    ends _ = None

-- the end of a connection, if one is over
abbrev pub end_of_connection : {L : Type 0} → Option (Closed L) → Option ConnectionEnd
end_of_connection None = None
end_of_connection (Some x) = Some x.end
