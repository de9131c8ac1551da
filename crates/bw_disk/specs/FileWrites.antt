-- What a write from an offset on does to a file that is written after a seek.
use Rattle.std.specs.Prelude.{◌≡◌, ◌⊎◌, ℕ, List, Some, IfSome, Result, MatchResult}
use Rattle.std.specs.Io.KnownBytes.{Keeps, Appends}
use Rattle.std.specs.Io.Seek.{StaysAt}
use Rattle.std.specs.declared.io.traits.Seek.{Ghosts as SeekGhosts}
use Rattle.std.specs.declared.io.traits.Write.{Ghosts as WriteGhosts}

-- A file went from a known place to this offset, and its bytes are as they were.
pub record SeeksTo {F : Type 0} (K : SeekGhosts F) (offset : ℕ) (old new : F) : Type 0 where
  pub place : IfSome (K.stream_position old) (λ _. K.stream_position new ≡ Some offset)
  pub bytes : Keeps (K.stream_bytes old) (K.stream_bytes new)

-- A file is where it was, and its bytes are as they were.
pub record StaysAsItWas {F : Type 0} (K : SeekGhosts F) (old new : F) : Type 0 where
  pub place : StaysAt (K.stream_position old) (K.stream_position new)
  pub bytes : Keeps (K.stream_bytes old) (K.stream_bytes new)

-- A seek to this offset was made, and then exactly these bytes were written.
pub record WritesFrom {F : Type 0} (K : SeekGhosts F) (W : WriteGhosts F) (offset : ℕ)
    (bytes : List ℕ) (old new : F) : Type 0 where
  pub sought : F
  pub seeks : SeeksTo K offset old sought
  pub adds : Appends (W.contents sought) (W.contents new) bytes

-- The seek failed, and nothing was written; or the write after it failed.
abbrev pub FailsFrom : {F : Type 0} → SeekGhosts F → ℕ → F → F → Type 0
FailsFrom K offset old new =
    StaysAsItWas K old new ⊎ ((sought : _) × SeeksTo K offset old sought)

-- A success wrote these bytes from the offset on; a failure wrote nothing before the seek.
abbrev pub PutsFrom : {F T E : Type 0} → SeekGhosts F → WriteGhosts F → ℕ → List ℕ →
    F → F → Result T E → Type 0
PutsFrom K W offset bytes old new answer =
    MatchResult answer
    (λ _. WritesFrom K W offset bytes old new)
    (λ _. FailsFrom K offset old new)
