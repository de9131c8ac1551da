-- A recorder's program over the C library: what it calls, writes and hears.
use Rattle.std.specs.Prelude.{◌≡◌, ◌⊎◌, ℕ, IsTrue, Some, List, [], ◌∷◌, ◌++◌, take, flat_map, slice_get}
use Rattle.std.specs.List.{Contains, list_all}
use Rattle.bw_model.specs.Take.{Request}
use Rattle.bw_model.specs.Wire.{Asks, Bye, are_bytes}
use Rattle.bw_model.specs.Replies.{Reply, is_reply}
use Rattle.bw_model.specs.Stream.{first_reply}
use Rattle.bw_model.specs.Exchange.{replies_bytes}
use Rattle.bw_model.specs.World.{Sender}
use Rattle.bw_model.specs.Requests.{carried_bytes}
use Rattle.bw_wire.specs.EncodedFrames.{IsFrameOf, said}
use Rattle.bw_sender.specs.Senders.{HasStored}
use Rattle.bw_c.specs.PlainSenders.{IsPlainSender, with_offer}
use Rattle.bw_c.specs.Heads.{WroteHead}
use Rattle.bw_c.specs.ShownReplies.{hear_first}
use Rattle.bw_c.specs.declared.sender.BwiSender.{BwiSender}
use Rattle.bw_delivery.specs.Statement.{IsPartOf, LinkBytes, SenderPart}

-- A call that may change a sender: one that put the head of a request, with its bytes, or bwi_hear
-- of these bytes.
pub data RecorderCall : Type 0 where
  Offers : Request → List ℕ → RecorderCall
  Hears : List ℕ → RecorderCall

-- A head was put into the caller's memory, as the clause `wrote` of these calls says.
pub record PutHead (r : Request) (head : List ℕ) (old new : BwiSender) : Type 0 where
  pub before : List ℕ
  pub after : List ℕ
  pub count : ℕ
  pub wrote : WroteHead old r before new after count
  pub head_is : head ≡ take count after

-- what a call does to the sender, by its contract in bw_c
abbrev pub DidCall : RecorderCall → BwiSender → BwiSender → Type 0
DidCall (Offers r head) old new = PutHead r head old new
DidCall (Hears bytes) old new =
    (s : Sender) → IsPlainSender s old → IsPlainSender (hear_first s (first_reply bytes)) new

-- such calls, one after another
abbrev pub DidCalls : List RecorderCall → BwiSender → BwiSender → Type 0
DidCalls [] old new = old ≡ new
DidCalls (c ∷ cs) old new = (next : BwiSender) × DidCall c old next × DidCalls cs next new

-- the frame of a request that was offered, its head and then what it carries
abbrev pub IsOffered : List RecorderCall → List ℕ → Type 0
IsOffered calls bytes =
    (r : Request) × (head : List ℕ) × Contains calls (Offers r head)
    × (bytes ≡ head ++ carried_bytes r)

-- the frame of one of these requests, under its number
abbrev pub IsEarlier : Sender → List ℕ → Type 0
IsEarlier s bytes =
    (n : ℕ) × (r : Request) × (slice_get s.offered n ≡ Some r) × IsFrameOf (said s.name n r) bytes

-- what may be written: of a request that was offered, or of an earlier one, an ask, or the end
abbrev pub MayBeWritten : Sender → List RecorderCall → List ℕ → Type 0
MayBeWritten s calls bytes = IsOffered calls bytes
    ⊎ (IsEarlier s bytes ⊎ (IsFrameOf (Asks s.name 0) bytes ⊎ IsFrameOf Bye bytes))

-- Over a link such frames were written, in any order and as often as the program likes, the last
-- perhaps in part.
pub record WroteFrames (s : Sender) (calls : List RecorderCall) (said : List ℕ) : Type 0 where
  pub frames : List (List ℕ)
  pub each : (bytes : List ℕ) → Contains frames bytes → MayBeWritten s calls bytes
  pub part : IsPartOf said (flat_map (λ f. f) frames)

-- The bytes stand among those of a link, after whole replies.
pub record StandsIn (heard bytes : List ℕ) : Type 0 where
  pub before : List Reply
  pub spelled : IsTrue (list_all is_reply before)
  pub part : IsPartOf (replies_bytes before ++ bytes) heard

-- A program: its sender after bwi_begin and at the end, the calls between them, and its links, by the
-- server's numbers.
pub record Recorder : Type 0 where
  pub begun : BwiSender
  pub calls : List RecorderCall
  pub ended : BwiSender
  pub links : List (ℕ × LinkBytes)

-- bwi_begin made its sender one of this name whose first requests, as many as these, are stored, and
-- it made these calls alone with it. Over its links it wrote what they put, and bwi_hear got what
-- links gave. The sender may be saved and read again between any of them.
pub record IsRecorder (name : List ℕ) (count : ℕ) (s : Sender) (p : Recorder) : Type 0 where
  pub had : HasStored name count s
  pub started : IsPlainSender s p.begun
  pub called : DidCalls p.calls p.begun p.ended
  pub wrote : (k : ℕ) (l : LinkBytes) → Contains p.links (k, l) → WroteFrames s p.calls l.said
  pub heard : (bytes : List ℕ) → Contains p.calls (Hears bytes) →
      (k : ℕ) × (l : LinkBytes) × Contains p.links (k, l) × StandsIn l.heard bytes
      × IsTrue (are_bytes bytes)

-- a sender after calls
abbrev pub sender_after : Sender → List RecorderCall → Sender
sender_after s [] = s
sender_after s (Offers r head ∷ cs) = sender_after (with_offer s r) cs
sender_after s (Hears bytes ∷ cs) = sender_after (hear_first s (first_reply bytes)) cs

-- the promise's sender that it is, if it began as this one: with its requests and those that it
-- offered, and the verdicts that it had and those that it heard
abbrev pub sender_part : Sender → Recorder → SenderPart
sender_part s p = let t : Sender = sender_after s p.calls in record {
  name = s.name;
  requests = t.offered;
  had = s.verdicts;
  has = t.verdicts;
  links = p.links;
}
