-- The search for the samples, chunk by chunk.
use Rattle.std.specs.Prelude.{◌≡◌, ℕ, ◌+◌, ◌^◌, ◌≤◌, ◌<◌, true, Option, Some, None, List, length, drop}
use Rattle.bw_model.specs.Bytes.{first_that_holds, u32_at}
use Rattle.bw_model.specs.Reading.{Fault, id_at}
use Rattle.bw_inspect.specs.declared.fault.InspectFault.{InspectFault}
use Rattle.bw_inspect.specs.Faults.{bytes_fault}
use Rattle.bw_repair.specs.DataHeads.{IsPassedAt, StandBefore, place_following, align_with, entry_of_head}
use Rattle.bw_repair.specs.DataHeads.{head_faults, is_data, passing_faults, place_faults}
use Rattle.bw_repair.specs.declared.search.ChunkAt.{ChunkAt}
use Rattle.bw_repair.specs.declared.search.Reached.{Reached}
use Rattle.bw_repair.specs.declared.search.Step.{Step}
use Rattle.bw_repair.specs.declared.search.Step.TheVariants.{Data, On}

-- the head at a place is `data`'s, and was read
pub record IsDataAt (b : List ℕ) (p size : ℕ) (left : Option (List ℕ)) : Type 0 where
  pub there : p + 8 ≤ length b
  pub named : is_data (entry_of_head b p) ≡ true
  pub sized : size ≡ u32_at b (p + 4)
  pub rest : left ≡ Some (drop (p + 8) b)

-- another chunk is there, and was passed over
pub record IsOtherAt (b : List ℕ) (p align p' align' : ℕ) (left : Option (List ℕ)) : Type 0 where
  pub passed : IsPassedAt b p (entry_of_head b p)
  pub place : p' ≡ place_following (entry_of_head b p)
  pub aligned : align' ≡ align_with b (entry_of_head b p) align
  pub there : p' ≤ length b
  pub rest : left ≡ Some (drop p' b)

-- what a step results in
abbrev pub StepsTo : List ℕ → Reached → Step → Option (List ℕ) → Type 0
StepsTo b r (Data size) left = IsDataAt b r.place size left
StepsTo b r (On next) left = IsOtherAt b r.place r.align next.place next.align left

-- it goes on by no more than the longest chunk
abbrev pub IsOneChunkOn : Reached → Step → Type 0
IsOneChunkOn r (Data size) = Unit {0}
IsOneChunkOn r (On next) = (r.place ≤ next.place) × (next.place ≤ r.place + 2 ^ 32 + 8)

-- a fault of the bytes is that of these lines
abbrev pub StopsAt : List ℕ → ℕ → InspectFault → Type 0
StopsAt b p f = (g : Fault) → bytes_fault f ≡ Some g → first_that_holds (head_faults b p) ≡ Some g

-- the chunks were passed over up to `data`, whose head was read
pub record WalksTo (b : List ℕ) (p align size : ℕ) (left : Option (List ℕ)) : Type 0 where
  pub count : ℕ
  pub few : count < 4096
  pub before : StandBefore b count p align
  pub found : IsDataAt b p size left

-- the walk stops with a fault other than that of too many samples
pub record HaltsAt (b : List ℕ) (g : Fault) : Type 0 where
  pub count : ℕ
  pub place : ℕ
  pub align : ℕ
  pub before : StandBefore b count place align
  pub faulted : first_that_holds (place_faults b count place) ≡ Some g

-- this head is in the bytes, and isn't `data`'s
pub record HasHead (b : List ℕ) (c : ChunkAt) : Type 0 where
  pub is : c.id ≡ id_at b c.place
  pub sized : c.size ≡ u32_at b (c.place + 4)
  pub there : c.place + 8 ≤ length b

-- its chunk was passed over
pub record HasPassed (b : List ℕ) (c : ChunkAt) (align align' : ℕ) (left : Option (List ℕ))
    : Type 0 where
  pub free : first_that_holds (passing_faults b (entry_of_head b c.place)) ≡ None
  pub aligned : align' ≡ align_with b (entry_of_head b c.place) align
  pub there : place_following (entry_of_head b c.place) ≤ length b
  pub rest : left ≡ Some (drop (place_following (entry_of_head b c.place)) b)

abbrev pub PassesAt : List ℕ → ChunkAt → ℕ → ℕ → Option (List ℕ) → Type 0
PassesAt b c align align' left = HasHead b c → HasPassed b c align align' left

-- it wasn't: a fault of the bytes is that of these lines
abbrev pub RefusesChunk : List ℕ → ChunkAt → InspectFault → Type 0
RefusesChunk b c f = HasHead b c → (g : Fault) → bytes_fault f ≡ Some g →
    first_that_holds (passing_faults b (entry_of_head b c.place)) ≡ Some g
