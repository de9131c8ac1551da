-- Many connections over one server: the frames of all of them that were answered are one list, and
-- each one's own are a part of it.
use Rattle.std.specs.Prelude.{◌≡◌, ◌≢◌, ◌⊎◌, ℕ, ◌<◌, ◌≤◌, ◌==◌, Some, None, List, [], ◌∷◌, ◌++◌}
use Rattle.std.specs.Prelude.{map, filter, slice_get}
use Rattle.std.specs.List.{AllByRecursion}
use Rattle.bw_exchange.specs.AnsweredFrames.{Answered}
use Rattle.bw_connections.specs.declared.connection.Connection.{Connection}
use Rattle.bw_ports.specs.declared.link.Link.{Ghosts as LinkGhosts}
use Rattle.bw_connections.specs.declared.connections.Closed.{Closed}
use Rattle.bw_connections.specs.declared.connections.Connections.{Connections}
use Rattle.bw_connections.specs.Lives.{Lives, IsConnectionOver}
pub use Rattle.bw_ports.specs.Reactors.{those}

-- a frame that was answered, after the number of the connection that it came over
abbrev pub Tagged : Type 0
Tagged = ℕ × Answered

-- these frames, of one connection
abbrev pub tagged : ℕ → List Answered → List Tagged
tagged n answered = map (λ a. (n, a)) answered

-- the frames without their numbers, in the order in which the server answered them
abbrev pub all_answered : List Tagged → List Answered
all_answered trace = map (λ t. t.1) trace

-- the frames of one connection, in their order among all
abbrev pub own : ℕ → List Tagged → List Answered
own n trace = map (λ t. t.1) (filter (λ t. t.0 == n) trace)

-- one place has another content
pub record SetsPlace {X : Type 0} (xs : List X) (i : ℕ) (x : X) (ys : List X) : Type 0 where
  pub there : slice_get ys i ≡ Some x
  pub elsewhere : (j : ℕ) → j ≢ i → slice_get ys j ≡ slice_get xs j

-- a connection is at a place
abbrev pub HoldsConnectionAt : {L : Type 0} → Connections L → ℕ → Connection L → Type 0
HoldsConnectionAt m i c = slice_get m.places.items i ≡ Some (Some c)

-- the place exists and is free
abbrev pub IsFree : {L : Type 0} → Connections L → ℕ → Type 0
IsFree m i = slice_get m.places.items i ≡ Some None

-- the connection with this number is at some place
abbrev pub HoldsConnection : {L : Type 0} → Connections L → ℕ → Type 0
HoldsConnection {L} m n = (i : ℕ) × (c : Connection L) × HoldsConnectionAt m i c × (c.number ≡ n)

-- the connection with this number is one of those that are over
abbrev pub IsAmong : {L : Type 0} → ℕ → List (Closed L) → Type 0
IsAmong n [] = ⊥
IsAmong n (x ∷ xs) = (x.number ≡ n) ⊎ IsAmong n xs

-- no two of those that are over have one number
abbrev pub AreApart : {L : Type 0} → List (Closed L) → Type 0
AreApart [] = Unit {0}
AreApart (x ∷ xs) = AllByRecursion (λ y. y.number ≢ x.number) xs × AreApart xs

module _ {L : Type 0} (G : LinkGhosts L) where
  -- a connection is over, and no longer there: it ended so, with its own part of these frames
  pub record HasLeft (m : Connections L) (trace : List Tagged) (x : Closed L) : Type 0 where
    pub before : x.number < m.next
    pub over : IsConnectionOver G x.end x.link (own x.number trace)
    pub away : (i : ℕ) (c : Connection L) → HoldsConnectionAt m i c → c.number ≢ x.number

  -- So far these frames were answered, over connections that are at places and over these, which
  -- are over.
  pub record KeepsConnections (m : Connections L) (over : List (Closed L)) (trace : List Tagged)
      : Type 0 where
    -- one at a place has answered its own part of them
    pub lives : (i : ℕ) (c : Connection L) → HoldsConnectionAt m i c →
        (c.number < m.next) × Lives G c (own c.number trace)
    -- no two places have one number
    pub apart : (i j : ℕ) (c d : Connection L) → HoldsConnectionAt m i c → HoldsConnectionAt m j d →
        c.number ≡ d.number → i ≡ j
    pub left : AllByRecursion (HasLeft m trace) over
    pub once : AreApart over
    -- each that was begun is at a place, or over
    pub each : (n : ℕ) → n < m.next → HoldsConnection m n ⊎ IsAmong n over
    -- and no other has answered any
    pub fresh : (n : ℕ) → m.next ≤ n → own n trace ≡ []

  -- frames more are answered, and connections more are over
  abbrev pub Adds : Connections L → List Tagged → List (Closed L) → Connections L → Type 0
  Adds m more closed m' = (over : List (Closed L)) (trace : List Tagged) → KeepsConnections m over trace →
      KeepsConnections m' (over ++ closed) (trace ++ more)
