-- The server's ends of its links, while it has many connections.
use Rattle.std.specs.Prelude.{◌≡◌, ◌⊎◌, ℕ, Option, IsTrue, List, ◌++◌}
use Rattle.std.specs.List.{Contains, list_all}
use Rattle.bw_model.specs.Replies.{is_reply}
use Rattle.bw_model.specs.Stream.{End}
use Rattle.bw_model.specs.Exchange.{replies_bytes}
use Rattle.bw_ports.specs.declared.link.Link.{Ghosts as LinkGhosts}
use Rattle.bw_exchange.specs.AnsweredFrames.{Answered, answered_frames, replies_of}
use Rattle.bw_exchange.specs.Done.{AreFirstOf, last_of}
use Rattle.bw_connections.specs.declared.connection.Connection.{Connection}
use Rattle.bw_connections.specs.declared.connections.Closed.{Closed}
use Rattle.bw_connections.specs.declared.connections.Connections.{Connections}
use Rattle.bw_connections.specs.ConnectionTables.{Tagged, HoldsConnectionAt, own}
use Rattle.bw_connections.specs.ConnectionBytes.{ServesEachConnection}
use Rattle.bw_delivery.specs.Statement.{LinkBytes, IsPartOf}

-- These frames were answered over a link: they are the first of what was read of it, and what was
-- written is a prefix of their replies, and of the one to a bad frame after them.
pub record AnswersOver (answered : List Answered) (received written : List ℕ) : Type 0 where
  pub read : List ℕ
  pub read_part : IsPartOf read received
  pub first : AreFirstOf (answered_frames answered) read
  pub spelled : IsTrue (list_all is_reply (replies_of answered))
  pub end : Option End
  pub part : IsPartOf written (replies_bytes (replies_of answered ++ last_of end))

module _ {L : Type 0} (G : LinkGhosts L) where
  -- the connection with this number has this link: at its place, or where it is over
  abbrev pub HasLink : Connections L → List (Closed L) → ℕ → L → Type 0
  HasLink m over n link =
      ((i : ℕ) × (c : Connection L) × HoldsConnectionAt m i c × (c.number ≡ n) × (c.link ≡ link))
      ⊎ ((x : Closed L) × Contains over x × (x.number ≡ n) × (x.link ≡ link))

  -- The server's end of a link: what it gave is a prefix of the one list of bytes, and the other list
  -- is a prefix of what it took.
  pub record IsServerEnd (link : L) (l : LinkBytes) : Type 0 where
    pub received : (xs : List ℕ) → G.given link xs → IsPartOf xs l.received
    pub answered : (ys : List ℕ) → G.taken link ys → IsPartOf l.answered ys

  -- Of a server of many connections, each link is answered its own frames.
  abbrev pub ConnectionsAnswer : Type 0
  ConnectionsAnswer = (m : Connections L) (over : List (Closed L)) (trace : List Tagged) →
      ServesEachConnection G m over trace → (n : ℕ) (link : L) (l : LinkBytes) →
      HasLink m over n link → IsServerEnd link l → AnswersOver (own n trace) l.received l.answered
