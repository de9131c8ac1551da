-- What a spool holds, and what is drawn into it.
use Rattle.std.specs.Prelude.{◌≡◌, ◌≤◌, ℕ, List, [], ◌++◌, Some, length}
use Rattle.bw_ports.specs.declared.link.Link.{Ghosts as LinkGhosts}
use Rattle.bw_stream.specs.Moves.{Begins, Writes}
use Rattle.bw_stream.specs.declared.sink.Sink.{Ghosts as Writer}
use Rattle.bw_ports.specs.declared.spool.Drawn.{Drawn}
use Rattle.bw_ports.specs.declared.spool.Drawn.TheVariants as draws
use Rattle.bw_ports.specs.declared.spool.Spool.{Spool}
use Rattle.bw_ports.specs.declared.spool.SpoolState.{SpoolState}
use Rattle.bw_ports.specs.declared.spool.SpoolState.TheVariants as states

-- whether more comes into a spool
abbrev pub spool_state : {L W : Type 0} → Spool L W → SpoolState
spool_state s = s.state

-- of the bytes that came, these are kept: all of them, unless something failed
abbrev pub AreKept : SpoolState → List ℕ → List ℕ → Type 0
AreKept states.Open kept came = kept ≡ came
AreKept states.Ended kept came = kept ≡ came
AreKept states.Failed kept came = (rest : List ℕ) × (kept ++ rest ≡ came)

module _ {L W : Type 0} (link : LinkGhosts L) (writer : Writer W) where
  -- the file holds what it held at first, and after that what came over the link, in that order
  pub record IsSpooled (base : List ℕ) (s : Spool L W) : Type 0 where
    pub came : List ℕ
    pub gives : link.given s.input came
    pub kept : List ℕ
    pub keeps : AreKept s.state kept came
    pub holds : writer.written s.file ≡ Some (base ++ kept)

  -- these bytes came, and no others
  abbrev pub Came : List ℕ → L → L → Type 0
  Came bytes a b = (before : List ℕ) → link.given a before → link.given b (before ++ bytes)

  -- what was drawn, by the state before
  abbrev pub DrawsAt : SpoolState → Spool L W → Drawn → Spool L W → Type 0
  DrawsAt states.Open a draws.Bytes b = (bytes : List ℕ) × (1 ≤ length bytes)
      × Came bytes a.input b.input × Writes (writer.written a.file) bytes (writer.written b.file)
      × (b.state ≡ states.Open)
  DrawsAt states.Open a draws.Nothing b = Came [] a.input b.input × link.dry b.input
      × (b.file ≡ a.file) × (b.state ≡ states.Open)
  DrawsAt states.Open a draws.Ended b = Came [] a.input b.input × link.ended b.input
      × (b.file ≡ a.file) × (b.state ≡ states.Ended)
  DrawsAt states.Open a draws.Failed b = (bytes : List ℕ) × Came bytes a.input b.input
      × Begins (writer.written a.file) bytes (writer.written b.file) × (b.state ≡ states.Failed)
  DrawsAt states.Ended a drawn b = (drawn ≡ draws.Ended) × (b ≡ a)
  DrawsAt states.Failed a drawn b = (drawn ≡ draws.Failed) × (b ≡ a)

  -- what was drawn
  abbrev pub Draws : Spool L W → Drawn → Spool L W → Type 0
  Draws a drawn b = DrawsAt a.state a drawn b
