-- What is read of a chunk's content, and what it says.
use Rattle.std.specs.Prelude.{◌≡◌, ℕ, ◌+◌, ◌<◌, ◌≤◌, Bool, true, IsTrue, List, drop, length}
use Rattle.std.specs.Prelude.{slice_range, Option, Some, None}
use Rattle.bw_model.specs.Reading as reading
use Rattle.bw_model.specs.Bytes.{first_that_holds, u32_at}
use Rattle.bw_model.specs.Report.{content_of}
use Rattle.bw_inspect.specs.declared.fault.InspectFault.{InspectFault}
use Rattle.bw_inspect.specs.declared.fault.InspectKind.TheVariants.{Truncated}
use Rattle.bw_inspect.specs.declared.chunk.ChunkKind.{ChunkKind}
use Rattle.bw_inspect.specs.Faults.{bytes_fault, is_of_bytes}
use Rattle.bw_inspect.specs.Places.{Halts, HasGrown}
use Rattle.bw_inspect.specs.Chunks.{content_faults, counted_faults, is_cue_kind}
use Rattle.bw_inspect.specs.Known.{Facts, learned}

-- this many bytes of a chunk's content were read
pub record ReadTo (b : List ℕ) (e : reading.Entry) (done : ℕ)
    (left : Option (List ℕ)) : Type 0 where
  pub there : e.place + 8 + done ≤ length b
  pub rest : left ≡ Some (drop (e.place + 8 + done) b)

-- this holds of all the bytes, if this many bytes of a chunk's content were read
abbrev pub InContent : Option (List ℕ) → reading.Entry → ℕ → (List ℕ → Type 0) → Type 0
InContent left e done holds = (b : List ℕ) → ReadTo b e done left → holds b

-- n more bytes of a chunk's content are read
pub record IsPart (b : List ℕ) (e : reading.Entry) (done n : ℕ) (got : List ℕ)
    (left : Option (List ℕ)) : Type 0 where
  pub bytes : got ≡ slice_range (content_of b (Some e)) done (done + n)
  pub to : ReadTo b e (done + n) left

-- b ends before this many bytes of the chunk's content, or reading was stopped there
pub record IsCutShort (b : List ℕ) (e : reading.Entry) (upto : ℕ) (wants : ℕ → Type 0)
    (f : InspectFault) (left : Option (List ℕ)) : Type 0 where
  pub halts : Halts b (e.place + 8 + upto) e.place wants f left
  pub cut : IsTrue (is_of_bytes f.kind) →
      (f ≡ record { kind = Truncated; offset = e.place }) × (length b < e.place + 8 + upto)

-- a call stopped; if that is for the bytes, it is the first fault of these
pub record IsStopped (b : List ℕ) (most place : ℕ) (wants : ℕ → Type 0)
    (faults : List (Bool × reading.Fault)) (f : InspectFault)
    (left : Option (List ℕ)) : Type 0 where
  pub halts : Halts b most place wants f left
  pub fault : (g : reading.Fault) → bytes_fault f ≡ Some g → first_that_holds faults ≡ Some g

-- a call stopped in a chunk's content
abbrev pub IsStoppedIn : List ℕ → (ℕ → Type 0) → List (Bool × reading.Fault) → reading.Entry →
    InspectFault → Option (List ℕ) → Type 0
IsStoppedIn b wants faults e f left = IsStopped b (e.place + 8 + e.size) e.place wants faults f left

-- the chunk was read to its end
abbrev pub IsEndOf : reading.Entry → ℕ → Type 0
IsEndOf e reached = reached ≡ e.place + 8 + e.size

-- Some of the n rows were read, where n is given at the content's start; the content has no fault,
-- except that b may end in it.
pub record WantsRows (b : List ℕ) (e : reading.Entry) (prefix most width : ℕ)
    (bad : reading.FaultKind) (n reached : ℕ) : Type 0 where
  pub free : first_that_holds (counted_faults (e.place + 8 + e.size) e prefix most width bad n)
      ≡ None
  pub grown : HasGrown b (e.place + 8 + prefix) width n reached

-- some points were read of a `cue ` chunk; its content has no fault, except that b may end in it
pub record WantsPoints (b : List ℕ) (kind : ChunkKind) (e : reading.Entry)
    (reached : ℕ) : Type 0 where
  pub is : is_cue_kind kind ≡ true
  pub free : first_that_holds
      (content_faults (e.place + 8 + e.size) e.place kind (u32_at b (e.place + 8)) e.size) ≡ None
  pub grown : HasGrown b (e.place + 12) 24 (u32_at b (e.place + 8)) reached

-- the faults of a chunk's content
abbrev pub faults_in : List ℕ → ChunkKind → reading.Entry → List (Bool × reading.Fault)
faults_in b kind e = content_faults (length b) e.place kind (u32_at b (e.place + 8)) e.size

-- the content was read, and has no fault
pub record IsFaultless (b : List ℕ) (kind : ChunkKind) (e : reading.Entry)
    (left : Option (List ℕ)) : Type 0 where
  pub free : first_that_holds (faults_in b kind e) ≡ None
  pub to : ReadTo b e e.size left

-- the content was read, and is known
pub record IsLearned (b : List ℕ) (kind : ChunkKind) (e : reading.Entry) (old new : Facts)
    (left : Option (List ℕ)) : Type 0 where
  pub whole : IsFaultless b kind e left
  pub facts : new ≡ learned b kind e old

-- the content has a fault, or wasn't read
abbrev pub IsUnlearned : List ℕ → ChunkKind → reading.Entry → InspectFault → Option (List ℕ) →
    Type 0
IsUnlearned b kind e f left = IsStoppedIn b (WantsPoints b kind e) (faults_in b kind e) e f left
