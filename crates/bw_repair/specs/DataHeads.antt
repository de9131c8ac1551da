-- Where the samples of a RIFF file begin, by the heads of its chunks alone: neither the form's size
-- nor that of the samples is believed.
use Rattle.std.specs.Prelude.{◌≡◌, ℕ, ◌+◌, ◌≤◌, ◌<◌, ◌&&◌, Bool, true, false, Option}
use Rattle.std.specs.Prelude.{Some, None, List, [], ◌∷◌, length, codes, nat_lt, nat_le, ◌==◌}
use Rattle.std.specs.Prelude.{if◌then◌else◌}
use Rattle.bw_model.specs.Limits.{largest, most_chunks}
use Rattle.bw_model.specs.Bytes.{first_that_holds, u16_at, u32_at, unsaid, even_up}
use Rattle.bw_model.specs.Reading.{Entry, Fault, id_at, is_id, is_riff, line}
use Rattle.bw_model.specs.Reading.{NoData, NoSize, BadFmt, Truncated, TooMany, TooLarge}
use Rattle.bw_repair.specs.declared.search.DataHead.{DataHead}

-- the bytes begin as a RIFF file of type WAVE
abbrev pub is_riff_wave : List ℕ → Bool
is_riff_wave b = nat_le 12 (length b) && (is_riff b && is_id (id_at b 8) (codes "WAVE"))

-- the chunk whose head is at a place
abbrev pub entry_of_head : List ℕ → ℕ → Entry
entry_of_head b p = record { id = id_at b p; place = p; size = u32_at b (p + 4) }

-- where the next head is
abbrev pub place_following : Entry → ℕ
place_following e = e.place + 8 + even_up e.size

-- the chunk that holds the samples
abbrev pub is_data : Entry → Bool
is_data e = is_id e.id (codes "data")

-- the faults of the next chunk, which isn't `data`, where the bytes have its head
abbrev pub passing_faults : List ℕ → Entry → List (Bool × Fault)
passing_faults b e =
    line (e.size == unsaid) NoSize e.place
    ∷ line (is_id e.id (codes "fmt ") && nat_lt e.size 16) BadFmt e.place
    ∷ line (nat_lt (length b) (place_following e)) Truncated e.place
    ∷ []

-- a chunk at a place that isn't `data`, and that the bytes have whole, with its pad byte
pub record IsPassedAt (b : List ℕ) (p : ℕ) (e : Entry) : Type 0 where
  pub is : e ≡ entry_of_head b p
  pub other : is_data e ≡ false
  pub free : first_that_holds (passing_faults b e) ≡ None

-- the block align in `fmt `, or that of an earlier one (RIFF WAVE)
abbrev pub align_with : List ℕ → Entry → ℕ → ℕ
align_with b e align = if is_id e.id (codes "fmt ") then u16_at b (e.place + 20) else align

-- these chunks follow from the first place up to the second, and change the block align so
abbrev pub StandBetween : List ℕ → ℕ → ℕ → List Entry → ℕ → ℕ → Type 0
StandBetween b p align [] p' align' = (p ≡ p') × (align ≡ align')
StandBetween b p align (e ∷ es) p' align' =
    IsPassedAt b p e × StandBetween b (place_following e) (align_with b e align) es p' align'

-- so many chunks come before a place, and the last `fmt ` among them has this block align, or
-- there is none and it is 0
pub record StandBefore (b : List ℕ) (count p align : ℕ) : Type 0 where
  pub entries : List Entry
  pub counted : count ≡ length entries
  pub stand : StandBetween b 12 0 entries p align
  -- the last of them is whole
  pub there : p ≤ length b

-- the `data` chunk's head
pub record IsDataHead (b : List ℕ) (h : DataHead) : Type 0 where
  pub wave : is_riff_wave b ≡ true
  pub count : ℕ
  pub few : count < most_chunks
  pub before : StandBefore b count h.place h.align
  pub named : is_data (entry_of_head b h.place) ≡ true
  pub form : h.form ≡ u32_at b 4
  pub size : h.size ≡ u32_at b (h.place + 4)
  pub rest : h.place + 8 + h.rest ≡ length b

-- the faults of what is at a place, which may be the `data` chunk's head
abbrev pub head_faults : List ℕ → ℕ → List (Bool × Fault)
head_faults b p = line (nat_lt (length b) (p + 8)) NoData p
    ∷ (if is_data (entry_of_head b p) then [] else passing_faults b (entry_of_head b p))

-- the same after so many chunks: the samples may have fewer than 2^62 bytes
abbrev pub place_faults : List ℕ → ℕ → ℕ → List (Bool × Fault)
place_faults b count p =
    line (nat_le most_chunks count) TooMany p
    ∷ line (is_data (entry_of_head b p) && nat_le (p + 8 + largest) (length b)) TooLarge p
    ∷ head_faults b p

-- a RIFF file without such a head has this fault
pub record LacksData (b : List ℕ) (f : Fault) : Type 0 where
  pub wave : is_riff_wave b ≡ true
  pub count : ℕ
  pub place : ℕ
  pub align : ℕ
  pub before : StandBefore b count place align
  pub faulted : first_that_holds (place_faults b count place) ≡ Some f

-- what is found in the bytes: nothing where they don't begin as a RIFF file of type WAVE
abbrev pub FindsData : List ℕ → Option DataHead → Type 0
FindsData b None = is_riff_wave b ≡ false
FindsData b (Some h) = IsDataHead b h
