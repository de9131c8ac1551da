-- What becomes of each link that a reactor gave.
use Rattle.std.specs.Prelude.{◌≡◌, ◌⊎◌, ℕ, suc, List, [], ◌∷◌, ◌++◌}
use Rattle.std.specs.List.{AllByRecursion}
use Rattle.bw_stream.specs.Moves.{one_more}
use Rattle.bw_connections.specs.declared.connection.Connection.{Connection}
use Rattle.bw_ports.specs.declared.link.Link.{Ghosts as LinkGhosts}
use Rattle.bw_connections.specs.declared.connections.Closed.{Closed}
use Rattle.bw_connections.specs.declared.connections.Connections.{Connections}
use Rattle.bw_connections.specs.ConnectionTables.{IsFree, KeepsConnections, HoldsConnectionAt, Tagged}
use Rattle.bw_connections.specs.Lives.{KeepsPeer}
use Rattle.bw_connections.specs.Places.{begun_of, refused_of}
use Rattle.bw_connections.specs.Quanta.{BeginsAt, LeavesOthers, RefusesLink}
use Rattle.bw_ports.specs.Reactors.{Admission}
use Rattle.bw_serve.specs.declared.event_loop.EventLoop.{EventLoop}

-- a link begins at a place that was free, at this time, under the next number; or it is refused,
-- which is counted
pub record Admits {L : Type 0} (now place : ℕ) (link : L) (c c' : EventLoop L) : Type 0 where
  pub free : IsFree c.connections place
  pub begins : BeginsAt place link now c.connections c'.connections
      ⊎ RefusesLink c.connections c'.connections
  pub others : LeavesOthers place c.connections c'.connections

-- so do these, one after another, each at the place for which it was given
abbrev pub AdmitsEach : {L : Type 0} → ℕ → List (Admission L) → EventLoop L → EventLoop L → Type 0
AdmitsEach now [] c c' = c' ≡ c
AdmitsEach {L} now (x ∷ xs) c c' = (d : EventLoop L) × Admits now x.0 x.1 c d × AdmitsEach now xs d c'

module _ {L : Type 0} (G : LinkGhosts L) where
  -- these, which are over, are this connection, with the same peer
  abbrev pub AreOf : Connection L → List (Closed L) → Type 0
  AreOf d closed = AllByRecursion (λ x. (x.number ≡ d.number) × KeepsPeer G d.link x.link) closed

  -- the connection with this number is at the place for which its link was given
  abbrev pub StandsFor : Connections L → ℕ → Admission L → Type 0
  StandsFor m n x =
      (d : Connection L) × HoldsConnectionAt m x.0 d × (d.number ≡ n) × KeepsPeer G x.1 d.link

  -- it is one of these, which are over
  abbrev pub EndedAs : ℕ → L → List (Closed L) → Type 0
  EndedAs n link [] = ⊥
  EndedAs n link (x ∷ xs) = ((x.number ≡ n) × KeepsPeer G link x.link) ⊎ EndedAs n link xs

  abbrev pub IsHosted : Connections L → List (Closed L) → ℕ → Admission L → Type 0
  IsHosted m over n x = StandsFor m n x ⊎ EndedAs n x.1 over

  -- Each of these links, in order, got the next number, and under it is at its place or over; or it
  -- was refused, which was counted. The counts of links begun and refused rise accordingly.
  abbrev pub HostsLinks : Connections L → List (Closed L) → ℕ → ℕ → List (Admission L) → ℕ →
      ℕ → Type 0
  HostsLinks m over begun refused [] begun' refused' = (begun' ≡ begun) × (refused' ≡ refused)
  HostsLinks m over begun refused (x ∷ xs) begun' refused' =
      (IsHosted m over begun x × HostsLinks m over (suc begun) refused xs begun' refused')
      ⊎ HostsLinks m over begun (one_more refused) xs begun' refused'

  -- these are all links that ever came
  abbrev pub HostsAll : Connections L → List (Closed L) → List (Admission L) → Type 0
  HostsAll m over links = HostsLinks m over 0 0 links (begun_of m) (refused_of m)

  -- more links come, and more connections are over
  abbrev pub HostsMore : Connections L → List (Admission L) → List (Closed L) → Connections L → Type 0
  HostsMore m more closed m' = (over : List (Closed L)) (trace : List Tagged)
      (links : List (Admission L)) → KeepsConnections G m over trace → HostsAll m over links →
      HostsAll m' (over ++ closed) (links ++ more)
