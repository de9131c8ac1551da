-- What is answered over links that are filtered.
use Rattle.std.specs.Prelude.{◌≡◌, ℕ, true, IsTrue, List, ◌++◌}
use Rattle.std.specs.List.{AllByRecursion}
use Rattle.bw_model.specs.Wire.{Second, Frame, are_bytes}
use Rattle.bw_model.specs.Stream.{stream_of}
use Rattle.bw_exchange.specs.AnsweredFrames.{Answered, answered_frames}
use Rattle.bw_connections.specs.declared.connection.Connection.{Connection}
use Rattle.bw_connections.specs.declared.connections.Closed.{Closed}
use Rattle.bw_connections.specs.declared.connections.Connections.{Connections}
use Rattle.bw_connections.specs.ConnectionTables.{HoldsConnectionAt, KeepsConnections, Tagged, own}
use Rattle.bw_ports.specs.declared.link.Link.{Ghosts as LinkGhosts}
use Rattle.bw_serve.specs.OneName.{under_one_name}
use Rattle.bw_serve.specs.declared.filtered_link.FilteredLink.{FilteredLink}

module _ {L : Type 0} (F : LinkGhosts (FilteredLink L)) (G : LinkGhosts L) where
  -- these frames are the first of what the link itself gave, and none of them is after the first
  -- under another name
  pub record AnswersOneName (link : FilteredLink L) (answered : List Answered) : Type 0 where
    pub came : List ℕ
    pub by_link : G.given link.link came
    pub later : List Frame
    pub frames : IsTrue (are_bytes came) →
        under_one_name (stream_of Second came).0 ≡ answered_frames answered ++ later

  -- so are those of each connection, whose link was to have one name, that is there or is over
  pub record EachAnswersOneName (m : Connections (FilteredLink L)) (over : List (Closed (FilteredLink L)))
      (trace : List Tagged) : Type 0 where
    pub stands : (i : ℕ) (c : Connection (FilteredLink L)) → HoldsConnectionAt m i c →
        c.link.one_name ≡ true → AnswersOneName c.link (own c.number trace)
    pub ended : AllByRecursion (λ x. x.link.one_name ≡ true →
        AnswersOneName x.link (own x.number trace)) over

  -- whatever came between their turns
  abbrev pub ConnectionsAnswerOneName : Type 0
  ConnectionsAnswerOneName = (m : Connections (FilteredLink L)) (over : List (Closed (FilteredLink L)))
      (trace : List Tagged) → KeepsConnections F m over trace → EachAnswersOneName m over trace
