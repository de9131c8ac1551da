-- What an observer does after a round: each connection of an operator makes a step, those who come are
-- accepted, and at most one of them is responded to, from what the server is at that moment.
use Rattle.std.specs.Prelude.{◌≡◌, ◌⊎◌, ℕ, List, Option, Some, None, is_some}
use Rattle.bw_model.specs.Book.{Book}
use Rattle.bw_ports.specs.declared.link.Link.{Ghosts as LinkGhosts}
use Rattle.bw_status.specs.Responses.{response_text}
use Rattle.bw_status.specs.declared.answer.Answer.{Answer}
use Rattle.bw_status.specs.declared.snapshot.Snapshot.{Snapshot}
use Rattle.bw_operators.specs.AllowLists.{AllowRules}
use Rattle.bw_operators.specs.OperatorPlaces.{AreConnections, IsFreeAt, LastsLongest, LetsOperatorIn}
use Rattle.bw_operators.specs.OperatorPlaces.{LeavesOtherPlaces, RespondsAt, StepsAt, asked_at}
use Rattle.bw_operators.specs.declared.operators.Operators.{Operators}
use Rattle.bw_operators.specs.declared.port.StatusPort.{Ghosts as PortGhosts}
use Rattle.bw_serve.specs.declared.observing.RoundReport.{RoundReport}
use Rattle.bw_serve_status.specs.Growths.{NotesGrowth}
use Rattle.bw_serve_status.specs.declared.growth.Growth.{Growth}
use Rattle.bw_serve_status.specs.Snapshots.{CopiesCounts}
use Rattle.bw_serve_status.specs.Takes.{ShowsTakes}
use Rattle.bw_serve_status.specs.declared.observer.StatusObserver.{StatusObserver}
use Rattle.bw_serve_status.specs.declared.snapshots.Surroundings.{Surroundings}
use Rattle.bw_serve_status.specs.declared.tallied.Tallied.{Tallied}

-- operators were let in from this time on, each at the place that was the next one then
abbrev pub Accepts : {L : Type 0} → ℕ → Operators L → Operators L → Type 0
Accepts now o o' = (count : ℕ) × LetsOperatorIn now count o o'

-- what an observer responds by: the time that its port reported last, when it was started, how many
-- takes were resumed then, if there are journals, when each name grew last, and which names may come
pub record Moment : Type 0 where
  pub now : ℕ
  pub since : ℕ
  pub resumed : Option ℕ
  pub growth : List Growth
  pub allow : AllowRules

-- an observer's
abbrev pub moment_of : {P L : Type 0} → PortGhosts P L → StatusObserver P L → Moment
moment_of port o = record {
  now = port.time o.port;
  since = port.started o.port;
  resumed = o.resumed;
  growth = o.growth.items;
  allow = o.allow.now;
}

-- these surroundings are of the moment, and a port reported the rest of them
pub record Surrounds {P L : Type 0} (port : PortGhosts P L) (m : Moment) (around : Surroundings)
    : Type 0 where
  pub now : around.now ≡ m.now
  pub since : around.since ≡ m.since
  pub resumed : around.resumed ≡ m.resumed
  pub growth : around.growth.now ≡ m.growth
  pub allow : around.allow.now ≡ m.allow
  pub has_folder : (p : P) × port.usable p around.has_folder
  pub begins : (p : P) × port.beginning p around.begins
  pub memory : (p : P) × port.used p around.memory
  pub lines_dropped : (p : P) × port.dropped p around.lines_dropped

module _ {T : Type 0} (holds : T → (List ℕ → Option (List ℕ)) → Book → Type 0) where
  -- this is what the server is doing: what was counted, and of each take what every book that its
  -- table holds says
  pub record ShowsServer (server : Tallied T) (round : RoundReport)
      (around : Surroundings) (s : Snapshot) : Type 0 where
    pub counts : CopiesCounts server.tallies round around s
    pub takes : (first : List ℕ → Option (List ℕ)) (book : Book) →
        holds server.server first book →
        ShowsTakes (λ name. is_some (first name)) book server.tallies.names round.peers.now around
        s.takes.items

  module _ {P L : Type 0} (port : PortGhosts P L) where
    -- the text is a response with what the server is doing
    pub record ShowsIn (server : Tallied T) (round : RoundReport) (m : Moment)
        (answer : Answer) (text : List ℕ) : Type 0 where
      pub around : Surroundings
      pub surrounds : Surrounds port m around
      pub snapshot : Snapshot
      pub shows : ShowsServer server round around snapshot
      pub left_out : (p : P) × port.omitted p snapshot.left_out.items
      pub is : text ≡ response_text answer snapshot

    -- the connection at a place is sent such a response; or it is closed, where memory was refused
    abbrev pub ShowsOrCloses : Tallied T → RoundReport → Moment → ℕ → Answer →
        Operators L → Operators L → Type 0
    ShowsOrCloses server round m place answer before after =
        ((text : List ℕ) × ShowsIn server round m answer text × RespondsAt place text before after)
        ⊎ IsFreeAt after place

    module _ (G : LinkGhosts L) where
      -- of those who ask the one whose connection has lasted for longest is responded to, and then each
      -- connection makes another step
      pub record RespondsToOldest (server : Tallied T) (round : RoundReport)
          (m : Moment) (asking left : Operators L) : Type 0 where
        pub place : ℕ
        pub answer : Answer
        pub asked : asked_at asking place ≡ Some answer
        pub longest : LastsLongest asking place
        pub after : Operators L
        pub responds : ShowsOrCloses server round m place answer asking after
        pub others : LeavesOtherPlaces place asking after
        pub steps : (other : ℕ) → StepsAt G m.now after left other

      -- that, or nobody asks
      abbrev pub RespondsToOne : Tallied T → RoundReport → Moment → Operators L →
          Operators L → Type 0
      RespondsToOne server round m asking left =
          (((place : ℕ) → asked_at asking place ≡ None) × (left ≡ asking))
          ⊎ RespondsToOldest server round m asking left

      -- what a look at this server and this report makes of an observer
      pub record Looks (o : StatusObserver P L) (server : Tallied T)
          (round : RoundReport) (o' : StatusObserver P L) : Type 0 where
        pub growth : NotesGrowth (port.time o'.port) server.tallies.names o.growth.items
            o'.growth.items
        pub resumed : o'.resumed ≡ o.resumed
        pub allow : o'.allow.now ≡ o.allow.now
        pub started : port.started o'.port ≡ port.started o.port
        pub worked : Operators L
        pub steps : (place : ℕ) → StepsAt G (port.time o'.port) o.operators worked place
        pub accepted : Operators L
        pub accepts : Accepts (port.time o'.port) worked accepted
        pub responds : RespondsToOne server round (moment_of port o') accepted o'.operators
        pub connections : AreConnections G o.operators → AreConnections G o'.operators
