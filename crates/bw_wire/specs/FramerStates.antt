-- What a framer keeps of a stream, what it reports next, and what it keeps then.
use Rattle.std.specs.Prelude.{ℕ, ◌+◌, ◌-◌, ◌≤◌, Bool, true, false, Option, Some, None, Result, Ok}
use Rattle.std.specs.Prelude.{Err}
use Rattle.std.specs.Prelude.{IsTrue, List, [], ◌∷◌, ◌++◌, length}
use Rattle.bw_model.specs.Wire.{Reason, Cut}
use Rattle.bw_wire.specs.Codecs.{Codec}
use Rattle.bw_wire.specs.Held.{largest_block, largest_kept, room_for, room_kept}

-- whether more is read
pub data Phase : Type 0 where
  Reading : Phase
  -- the end of the exchange was reported
  Left : Phase
  -- a fault was reported
  Failed : Reason → Phase

-- what a framer keeps of a stream
pub record Pending : Type 0 where
  -- the bytes that are not used up
  pub bytes : List ℕ
  -- how many were used up, and how many were fed
  pub used : ℕ
  pub fed : ℕ
  -- how many are held in memory, used ones counted
  pub held : ℕ
  -- how many bytes the block of memory that holds them has room for
  pub room : ℕ
  pub phase : Phase

-- before any piece
abbrev pub fresh : Pending
fresh = record { bytes = []; used = 0; fed = 0; held = 0; room = 0; phase = Reading }

-- with one more piece, which is dropped if nothing is read anymore
abbrev pub piece_in : Phase → Pending → List ℕ → Pending
piece_in Reading p piece = record p {
  bytes = p.bytes ++ piece;
  fed = p.fed + length piece;
  held = p.held + length piece;
  room = room_for (p.held + length piece) p.room;
}
piece_in Left p piece = record p { fed = p.fed + length piece }
piece_in (Failed reason) p piece = record p { fed = p.fed + length piece }

-- with one more piece
abbrev pub with_piece : Pending → List ℕ → Pending
with_piece p piece = piece_in p.phase p piece

-- what is reported: that no whole frame is there, a value, or a fault with its place
pub data Reported (X : Type 0) : Type 0 where
  Nothing : Reported X
  Gives : X → Reported X
  Fails : Reason → ℕ → Reported X

-- with these bytes left
abbrev pub consumed : Pending → List ℕ → Pending
consumed p more = record p { bytes = more; used = p.used + (length p.bytes - length more) }

-- with the used bytes released, and a block that is too large to be kept
abbrev pub compacted : Pending → Pending
compacted p = record p { held = length p.bytes; room = room_kept p.room }

-- at the end, with all bytes and the block released
abbrev pub emptied : Pending → ℕ → Phase → Pending
emptied p used phase =
    record { bytes = []; used = used; fed = p.fed; held = 0; room = 0; phase = phase }

-- a value is given; if it is the last, everything is released
abbrev pub next_value : {X : Type 0} → Bool → Pending → X → List ℕ → Reported X × Pending
next_value false p x more = (Gives x, consumed p more)
next_value true p x more =
    (Gives x, emptied p (p.used + (length p.bytes - length more)) Left)

-- what is reported and kept, by what the bytes begin with
abbrev pub next_read :
    {X : Type 0} → Codec X → Pending → Result (X × List ℕ) Reason → Reported X × Pending
next_read codec p (Ok (x, more)) = next_value (codec.is_last x) p x more
next_read codec p (Err Cut) = (Nothing, compacted p)
next_read codec p (Err reason) = (Fails reason p.used, emptied p p.used (Failed reason))

-- the last value is reported again and again
abbrev pub reported_again : {X : Type 0} → Option X → Reported X
reported_again None = Nothing
reported_again (Some x) = Gives x

-- what is reported and kept in a phase
abbrev pub next_in : {X : Type 0} → Codec X → Phase → Pending → Reported X × Pending
next_in codec Reading p = next_read codec p (codec.first p.bytes)
next_in codec Left p = (reported_again codec.last, p)
next_in codec (Failed reason) p = (Fails reason p.used, p)

-- what a framer reports next, and what it keeps then
unfoldable pub next_of : {X : Type 0} → Codec X → Pending → Reported X × Pending
next_of codec p = next_in codec p.phase p

-- the block isn't too large to be kept for a further piece
abbrev pub HasSmallBlock : Pending → Type 0
HasSmallBlock p = p.room ≤ largest_kept

-- the block is no larger than a rest and a piece
abbrev pub HasBoundedBlock : Pending → Type 0
HasBoundedBlock p = p.room ≤ largest_block

-- at most this many bytes are held, in a block that may be kept
abbrev pub KeepsAtMost : ℕ → Pending → Type 0
KeepsAtMost n p = (p.held ≤ n) × HasSmallBlock p

-- unless a value that others may follow was reported, at most a part of a frame is held
abbrev pub HoldsLittle : {X : Type 0} → Codec X → Reported X × Pending → Type 0
HoldsLittle codec (Nothing, p) = KeepsAtMost codec.most_left p
HoldsLittle codec (Gives x, p) = IsTrue (codec.is_last x) → KeepsAtMost codec.most_left p
HoldsLittle codec (Fails reason offset, p) = KeepsAtMost codec.most_left p

-- nothing is read anymore
abbrev pub IsOverIn : Phase → Type 0
IsOverIn Reading = ⊥
IsOverIn Left = Unit {0}
IsOverIn (Failed reason) = Unit {0}

-- nothing is read anymore
abbrev pub IsOver : Pending → Type 0
IsOver p = IsOverIn p.phase

-- the fault if the input ends with these bytes, with its place
abbrev pub cut_off : List ℕ → ℕ → Option (Reason × ℕ)
cut_off [] used = None
cut_off (b ∷ bs) used = Some (Cut, used)

-- the fault at the input's end, by the phase
abbrev pub end_in : Phase → Pending → Option (Reason × ℕ)
end_in Reading p = cut_off p.bytes p.used
end_in Left p = None
end_in (Failed reason) p = Some (reason, p.used)

-- the fault at the input's end, with its place
abbrev pub end_fault : Pending → Option (Reason × ℕ)
end_fault p = end_in p.phase p
