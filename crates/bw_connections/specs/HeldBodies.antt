-- Bodies that connections hold, by their places.
use Rattle.std.specs.Borrow.{Bor}
use Rattle.std.specs.Prelude.{◌≡◌, ℕ, Option, Some, None, List, [], slice_index_or}
use Rattle.bw_digest.specs.Lanes.{InEachLane}
use Rattle.bw_digest.specs.Messages.{lent_at}
use Rattle.bw_exchange.specs.Parts.{pending_of}
use Rattle.bw_wire.specs.BodyDigests.{held_bytes}
use Rattle.bw_wire.specs.declared.body_digests.HeldBody.{HeldBody}
use Rattle.bw_connections.specs.declared.connection.Connection.{Connection}
use Rattle.bw_connections.specs.declared.connections.Connections.{Connections}
use Rattle.bw_connections.specs.declared.hashing.PlacedBody.{PlacedBody}

-- the bytes of a body that the connection at a place holds; none if there is no connection
abbrev pub body_there : {L : Type 0} → Option (Connection L) → HeldBody → List ℕ
body_there None body = []
body_there (Some c) body = held_bytes (pending_of c.exchange).bytes body

-- the bytes of a body, by its place
abbrev pub body_held : {L : Type 0} → Connections L → PlacedBody → List ℕ
body_held m placed = body_there (slice_index_or m.places.items placed.place None) placed.body

-- no body
abbrev pub no_body : PlacedBody
no_body = record { place = 0; body = record { at = 0; len = 0 } }

-- in each lane these are the bytes of the body there
abbrev pub AreBodiesOf : {L : Type 0} → Connections L → List PlacedBody → List (Bor (List ℕ)) → Type 0
AreBodiesOf m bodies lent =
    InEachLane (λ j. lent_at lent j ≡ body_held m (slice_index_or bodies j no_body))
