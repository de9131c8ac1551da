-- What a step of an operator's connection does.
use Rattle.std.specs.Prelude.{◌≡◌, ◌⊎◌, ◌<◌, ◌≤◌, ◌+◌, ◌-◌, ℕ, List, [], ◌++◌, length, take, drop}
use Rattle.std.specs.Prelude.{Option, Some, None}
use Rattle.std.specs.declared.net.socket_addr.SocketAddr.{SocketAddr}
use Rattle.bw_ports.specs.declared.link.Link.{Ghosts as LinkGhosts}
use Rattle.bw_operators.specs.declared.connection.Connection.{Connection}
use Rattle.bw_operators.specs.declared.connection.Phase.{Phase}
use Rattle.bw_operators.specs.declared.connection.Phase.TheVariants.{Reading, Asking, Answering}
use Rattle.bw_operators.specs.declared.connection.Phase.TheVariants.{Draining}
use Rattle.bw_operators.specs.OperatorConnections.{HasHeld, longest_connection}

module _ {L : Type 0} (G : LinkGhosts L) where
  -- a link gave these bytes more, or has none now
  pub record Gives (link link' : L) (piece : List ℕ) : Type 0 where
    pub given : (xs : List ℕ) → G.given link xs → G.given link' (xs ++ piece)
    pub taken : (ys : List ℕ) → G.taken link ys → G.taken link' ys
    pub moved : (1 ≤ length piece) ⊎ G.dry link'

  -- a link took these bytes more, or has no room now
  pub record Takes (link link' : L) (piece : List ℕ) : Type 0 where
    pub given : (xs : List ℕ) → G.given link xs → G.given link' xs
    pub taken : (ys : List ℕ) → G.taken link ys → G.taken link' (ys ++ piece)
    pub moved : (1 ≤ length piece) ⊎ G.full link'

  -- the request is read on
  pub record ReadsRequestOn (c c' : Connection L) : Type 0 where
    pub piece : List ℕ
    pub link : Gives c.link c'.link piece
    pub held : c'.held.items ≡ c.held.items ++ piece
    pub phase : ((piece ≡ []) × (c'.phase ≡ Reading)) ⊎ HasHeld c'.held.items c'.phase

  -- The next bytes of the response are sent. After the last one the peer is informed that no more
  -- will come.
  pub record SendsResponseOn (c c' : Connection L) : Type 0 where
    pub count : ℕ
    pub link : Takes c.link c'.link (take count (drop c.sent c.response.items))
    pub sent : c'.sent ≡ c.sent + count
    pub response : c'.response.items ≡ c.response.items
    pub held : c'.held.items ≡ c.held.items
    pub phase : ((c'.phase ≡ Answering) × ((c'.sent < length c.response.items) ⊎ G.full c'.link))
        ⊎ ((c'.phase ≡ Draining) × (length c.response.items ≤ c'.sent) × G.finished c'.link)

  -- the peer is informed that no more will come, if the response is sent whole
  pub record Finishes (c c' : Connection L) : Type 0 where
    pub given : (xs : List ℕ) → G.given c.link xs → G.given c'.link xs
    pub taken : (ys : List ℕ) → G.taken c.link ys → G.taken c'.link ys
    pub phase : ((c'.phase ≡ c.phase) × (c.sent < length c.response.items))
        ⊎ ((c'.phase ≡ Draining) × (length c.response.items ≤ c.sent) × G.finished c'.link)
    pub sent : c'.sent ≡ c.sent
    pub response : c'.response.items ≡ c.response.items
    pub held : c'.held.items ≡ c.held.items

  -- what still comes is discarded
  pub record DrainsOn (c c' : Connection L) : Type 0 where
    pub piece : List ℕ
    pub link : Gives c.link c'.link piece
    pub phase : c'.phase ≡ Draining
    pub response : c'.response.items ≡ c.response.items
    pub held : c'.held.items ≡ c.held.items

  -- a step in this phase
  abbrev pub WorksIn : Phase → Connection L → Connection L → Type 0
  WorksIn Reading c c' = ReadsRequestOn c c'
  WorksIn (Asking a) c c' = c' ≡ c
  WorksIn Answering c c' = SendsResponseOn c c'
  WorksIn Draining c c' = DrainsOn c c'

  -- in this phase a link gives no more, or can't take any
  abbrev pub IsLinkOverIn : Phase → L → Type 0
  IsLinkOverIn Reading link = G.ended link ⊎ G.broken link
  IsLinkOverIn (Asking a) link = ⊥
  IsLinkOverIn Answering link = G.broken link
  IsLinkOverIn Draining link = G.ended link ⊎ G.broken link

  -- a link was found to be over: nothing more came or was taken
  pub record EndsIn (phase : Phase) (link link' : L) : Type 0 where
    pub given : (xs : List ℕ) → G.given link xs → G.given link' xs
    pub taken : (ys : List ℕ) → G.taken link ys → G.taken link' ys
    pub peer : (p : SocketAddr) → G.calls_from link p → G.calls_from link' p
    pub over : IsLinkOverIn phase link'

  -- A connection made a step, and lasts; or it is closed: its link is over, or it has lasted for
  -- more than five seconds.
  abbrev pub StepsConnection : ℕ → Option (Connection L) → Option (Connection L) → Type 0
  StepsConnection now None r = r ≡ None
  StepsConnection now (Some c) None =
      (longest_connection < now - c.since) ⊎ ((link : L) × EndsIn c.phase c.link link)
  StepsConnection now (Some c) (Some c') = WorksIn c.phase c c' × (c'.since ≡ c.since)
      × (now - c'.since ≤ longest_connection)
