-- Where a walk is.
use Rattle.std.specs.Prelude.{◌≡◌, ℕ, ◌+◌, ◌≤◌, ◌<◌, ◌⊎◌, Bool, true, false, List, [], length, drop}
use Rattle.std.specs.Prelude.{Option, Some, None, Ok, Err, IsTrue, unwrap_or}
use Rattle.bw_model.specs.Limits.{most_chunks}
use Rattle.bw_model.specs.Reading as reading
use Rattle.bw_model.specs.Bytes.{first_that_holds, u32_at, even_up}
use Rattle.bw_layout.specs.declared.chunk.ChunkHead.{ChunkHead}
use Rattle.bw_inspect.specs.declared.fault.InspectFault.{InspectFault}
use Rattle.bw_inspect.specs.declared.walk.Walk.{Walk}
use Rattle.bw_inspect.specs.declared.walk.Form.{Form}
use Rattle.bw_inspect.specs.Faults.{bytes_fault, is_memory, is_failed_read}
use Rattle.bw_inspect.specs.Places.{HasGrown}
use Rattle.bw_inspect.specs.Chunks.{sizes_of}
use Rattle.bw_inspect.specs.Known.{HasFewCues, facts_of, facts_in}

-- the same outer header
abbrev pub form_by : Form → reading.Form
form_by f = record { id = f.id; size = f.size; sizes = sizes_of f.sizes }

-- the chunks that were listed
abbrev pub seen_by : Walk → List reading.Entry
seen_by w = w.chunks.items

-- the chunks so far are those of b, and the reader is where the next head is wanted, if one is
pub record StandsInForm (b : List ℕ) (form : reading.Form) (w : Walk)
    (left : Option (List ℕ)) : Type 0 where
  pub chunks : reading.FollowEachOther (reading.next b form) [] (seen_by w)
  pub facts : facts_of w.known ≡ facts_in b (seen_by w)
  pub place : w.place ≡ reading.next_place (seen_by w)
  -- b may lack the pad byte of the last chunk
  pub near : w.place ≤ length b + 1
  pub reached : ℕ
  pub there : length b < reached → reached ≡ w.place
  pub within : reached ≤ reading.form_end form
  pub rest : left ≡ Some (drop reached b)
  pub next : w.place + 8 ≤ reading.form_end form → left ≡ Some (drop w.place b)

-- this holds of all the bytes, if a walk over them is like this
abbrev pub OnWalk : reading.Form → Walk → Option (List ℕ) → (List ℕ → Type 0) → Type 0
OnWalk form w left holds = (b : List ℕ) → StandsInForm b form w left → holds b

-- a head was read
pub record IsHead (b : List ℕ) (p : ℕ) (h : ChunkHead) (left : Option (List ℕ)) : Type 0 where
  pub within : p + 8 ≤ length b
  pub spells : h.id ≡ reading.id_at b p
  pub reports : h.size32 ≡ u32_at b (p + 4)
  pub rest : left ≡ Some (drop (p + 8) b)

-- where the head after a chunk is
abbrev pub place_after : reading.Entry → ℕ
place_after e = e.place + 8 + even_up e.size

-- a chunk is before the reader, and so is its pad byte if a further head is wanted
pub record IsPassedOver (b : List ℕ) (end : ℕ) (e : reading.Entry)
    (left : Option (List ℕ)) : Type 0 where
  pub reached : ℕ
  pub within : reached ≤ end
  pub there : length b < reached → reached ≡ place_after e
  pub rest : left ≡ Some (drop reached b)
  pub next : place_after e + 8 ≤ end → reached ≡ place_after e

-- no more chunks and points than allowed
pub record IsSmall (w : Walk) : Type 0 where
  pub chunks : length (seen_by w) ≤ most_chunks
  pub cues : HasFewCues w.known

-- one more chunk
pub record GrowsByOne (old new : List reading.Entry) : Type 0 where
  pub few : length old < most_chunks
  pub one : length new ≡ length old + 1

-- one more chunk is seen, or none is wanted
pub record Goes (b : List ℕ) (form : reading.Form) (more : Bool) (w : Walk)
    (left : Option (List ℕ)) : Type 0 where
  pub stands : StandsInForm b form w left
  pub ends : more ≡ false → reading.form_end form < w.place + 8

-- where the chunk after those seen ends, without its pad byte
abbrev pub end_after : List ℕ → reading.Form → List reading.Entry → ℕ
end_after b form seen =
    reading.next_place seen + 8 + unwrap_or (reading.size_at b form (reading.next_place seen)) 0

-- the faults of the chunk at a place after those seen, if this many bytes of b are there
abbrev pub faults_at : ℕ → List ℕ → reading.Form → List reading.Entry → ℕ →
    List (Bool × reading.Fault)
faults_at len b form seen p =
    reading.chunk_faults len (reading.form_end form) seen p (reading.head_at b form p)
    (unwrap_or (reading.size_at b form p) 0)

-- the chunk after those seen has no fault, and was read to its end
pub record IsReadWhole (b : List ℕ) (form : reading.Form) (seen : List reading.Entry)
    (reached : ℕ) : Type 0 where
  pub entry : reading.Entry
  pub comes : reading.next b form seen ≡ Ok (Some entry)
  pub ends : reached ≡ entry.place + 8 + entry.size

-- the chunk after those seen is a `cue ` chunk without fault, except that b may end in it, and some
-- points were read
pub record HasReadPoints (b : List ℕ) (form : reading.Form) (seen : List reading.Entry)
    (reached : ℕ) : Type 0 where
  pub is_cue : reading.is_cue (reading.head_at b form (reading.next_place seen)) ≡ true
  pub free : first_that_holds
      (faults_at (end_after b form seen) b form seen (reading.next_place seen)) ≡ None
  pub grown : HasGrown b (reading.next_place seen + 12) 24
      (u32_at b (reading.next_place seen + 8)) reached

-- the chunk after those seen, or a point of it, is to be listed
abbrev pub WantsChunk : List ℕ → reading.Form → List reading.Entry → ℕ → Type 0
WantsChunk b form seen reached = IsReadWhole b form seen reached ⊎ HasReadPoints b form seen reached

-- what comes after the chunks seen is a fault, or wasn't read
pub record IsFaulted (b : List ℕ) (form : reading.Form) (seen : List reading.Entry)
    (f : InspectFault) (left : Option (List ℕ)) : Type 0 where
  pub reached : ℕ
  pub within : reached ≤ reading.form_end form
  pub there : length b < reached → reached ≡ reading.next_place seen
  pub rest : left ≡ Some (drop reached b)
  pub fails : IsTrue (is_failed_read f.kind) → f.offset ≡ reached
  pub memory : IsTrue (is_memory f.kind) →
      (f.offset ≡ reading.next_place seen) × WantsChunk b form seen reached
  pub fault : (g : reading.Fault) → bytes_fault f ≡ Some g → reading.next b form seen ≡ Err g
