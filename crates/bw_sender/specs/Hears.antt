-- What a sender hears in an exchange, by how it ends.
use Rattle.std.specs.Prelude.{◌≡◌, ◌≢◌, ◌⊎◌, ℕ, ◌+◌, ◌-◌, ◌^◌, ◌≤◌, Bool, true, false, Option}
use Rattle.std.specs.Prelude.{Some, Result, Ok, Err, IsTrue, List, [], ◌∷◌, ◌++◌, length, min}
use Rattle.bw_model.specs.Wire.{Reason, Cut, are_bytes}
use Rattle.bw_model.specs.Replies.{Reply}
use Rattle.bw_model.specs.Stream.{first_reply}
use Rattle.bw_model.specs.World.{Sender as Defined, hear}
use Rattle.bw_stream.specs.Moves.{one_more, Keeps}
use Rattle.bw_sender.specs.Senders.{IsSender}
use Rattle.bw_sender.specs.declared.sender.Sender.{Sender}
use Rattle.bw_wire.specs.Codecs.{reply_codec, Spelled}
use Rattle.bw_wire.specs.Held.{longest_piece}
use Rattle.bw_wire.specs.FramerStates.{Pending, Fails, next_of, with_piece}
use Rattle.bw_wire.specs.Runs.{Call, fed_in, framer_run}
use Rattle.bw_sender.specs.declared.send_fault.SendFault.{SendFault}
use Rattle.bw_sender.specs.declared.send_fault.SendFault.TheVariants as faults
use Rattle.bw_exchange.specs.WholeExchanges.{most_reads, HasGiven, HasNoneLeft}

-- a sender after these replies
abbrev pub hear_all : Defined → List Reply → Defined
hear_all s [] = s
hear_all s (r ∷ rs) = hear_all (hear s r) rs

-- a sender has counted these replies
abbrev pub CountsAll : List Reply → Sender → Sender → Type 0
CountsAll heard x y = (s : Defined) → IsSender s x → IsSender (hear_all s heard) y

-- the bytes are the frames of these replies, and then some that begin with none, for this reason
abbrev pub IsHeardUpTo : Reason → List ℕ → List Reply → Type 0
IsHeardUpTo reason bytes heard =
    (rest : List ℕ) × Spelled Reply reply_codec bytes heard rest × (first_reply rest ≡ Err reason)

-- all whole replies of the bytes were heard: what is left is the prefix of one, or nothing
abbrev pub IsAllHeard : List ℕ → List Reply → Type 0
IsAllHeard bytes heard = IsHeardUpTo Cut bytes heard

-- the bytes are the frames of these replies, and of nothing else
abbrev pub IsHeardWhole : List ℕ → List Reply → Type 0
IsHeardWhole bytes heard = Spelled Reply reply_codec bytes heard []

-- the input ended after a reply
pub record HearsToTheEnd (left left' : Option (List ℕ)) (input : List ℕ) (heard : List Reply)
    : Type 0 where
  pub whole : IsHeardWhole input heard
  pub drained : HasNoneLeft left left'
  -- so is all that the reader had
  pub all : (xs : List ℕ) → left ≡ Some xs → IsHeardWhole xs heard

-- after the replies comes what is none: bad bytes, or the prefix of a reply at the input's end
pub record FindsBadReply (left left' : Option (List ℕ)) (input : List ℕ) (heard : List Reply)
    : Type 0 where
  pub reason : Reason
  pub rest : List ℕ
  pub spelled : Spelled Reply reply_codec input heard rest
  pub some : 1 ≤ length rest
  pub bad : first_reply rest ≡ Err reason
  -- nothing is left if only the input's end shows it
  pub drained : (reason ≢ Cut) ⊎ HasNoneLeft left left'
  -- the same holds for all that the reader had
  pub all : (xs : List ℕ) → left ≡ Some xs → IsHeardUpTo reason xs heard

-- memory was refused before anything was read: nothing is heard
pub record HearsNothing (input : List ℕ) (heard : List Reply) : Type 0 where
  pub unread : input ≡ []
  pub unheard : heard ≡ []

-- memory was refused for the last piece that was read: all whole replies before it are heard, and
-- no more
pub record LacksMemoryToHear (input : List ℕ) (heard : List Reply) : Type 0 where
  pub before : List ℕ
  pub last : List ℕ
  pub all : input ≡ before ++ last
  pub some : 1 ≤ length last
  pub short : length last ≤ longest_piece
  pub all_heard : IsAllHeard before heard

-- what a sender has heard of what was read, by how that ended
abbrev pub HearsBy : Result (Unit {0}) SendFault → Option (List ℕ) → Option (List ℕ) → List ℕ →
    List Reply → Type 0
HearsBy (Ok x) left left' input heard = HearsToTheEnd left left' input heard
HearsBy (Err faults.Read) left left' input heard = IsAllHeard input heard
HearsBy (Err faults.Write) left left' input heard = ⊥
HearsBy (Err faults.Memory) left left' input heard =
    HearsNothing input heard ⊎ LacksMemoryToHear input heard
HearsBy (Err faults.BadReply) left left' input heard = FindsBadReply left left' input heard
HearsBy (Err faults.TurnLimit) left left' input heard =
    IsAllHeard input heard × (most_reads ≤ length input)

-- Nothing is read after a bad reply: without the last piece that was read, the bytes are whole
-- replies and the prefix of one.
pub record HearsNoFurther (input : List ℕ) : Type 0 where
  pub before : List ℕ
  pub last : List ℕ
  pub all : input ≡ before ++ last
  pub short : length last ≤ longest_piece
  pub earlier : List Reply
  pub unended : IsAllHeard before earlier

-- a sender and a reader are used so, until that ends
pub record Hears (result : Result (Unit {0}) SendFault) (x y : Sender)
    (left left' : Option (List ℕ)) : Type 0 where
  -- these bytes were read
  pub input : List ℕ
  pub given : HasGiven left input left'
  pub no_further : HearsNoFurther input
  -- these replies were heard: they are the first of what was read
  pub heard : List Reply
  pub prefix : (rest : List ℕ) × Spelled Reply reply_codec input heard rest
  pub counted : CountsAll heard x y
  pub by_end : HearsBy result left left' input heard

-- the count of a reader's failures: one more exactly if the exchange broke off by one
abbrev pub hears_failed : Result (Unit {0}) SendFault → ℕ → ℕ
hears_failed (Ok x) n = n
hears_failed (Err faults.Read) n = one_more n
hears_failed (Err faults.Write) n = n
hears_failed (Err faults.Memory) n = n
hears_failed (Err faults.BadReply) n = n
hears_failed (Err faults.TurnLimit) n = n

-- the limit of reads is reported only if a reader has counted 2^32 more bytes and 2^32 more calls,
-- or as many as it can count
abbrev pub IsHearingLimited : Result (Unit {0}) SendFault → ℕ → ℕ → ℕ → ℕ → Type 0
IsHearingLimited (Ok x) moved moved' calls calls' = Unit {0}
IsHearingLimited (Err faults.Read) moved moved' calls calls' = Unit {0}
IsHearingLimited (Err faults.Write) moved moved' calls calls' = Unit {0}
IsHearingLimited (Err faults.Memory) moved moved' calls calls' = Unit {0}
IsHearingLimited (Err faults.BadReply) moved moved' calls calls' = Unit {0}
IsHearingLimited (Err faults.TurnLimit) moved moved' calls calls' =
    (min (moved + most_reads) (2 ^ 64 - 1) ≤ moved')
    × (min (calls + most_reads) (2 ^ 64 - 1) ≤ calls')

-- Piece by piece.

-- fed these bytes, a framer has given these replies, and this is kept
pub record GaveReplies (fed : List ℕ) (given : List Reply) (p : Pending) : Type 0 where
  pub fits : IsTrue (are_bytes fed)
  -- the framer was called so
  pub calls : List Call
  pub fed_by : fed_in calls ≡ fed
  pub runs : framer_run reply_codec calls ≡ record { given = given; state = p }

-- a framer gives more replies, and a sender counts them
pub record HearsMore (x y : Sender) (p q : Pending) : Type 0 where
  pub heard : List Reply
  pub counted : CountsAll heard x y
  pub gives : (fed : List ℕ) (before : List Reply) → GaveReplies fed before p →
      GaveReplies fed (before ++ heard) q

-- a framer reports a fault
abbrev pub ReportsFault : Pending → Type 0
ReportsFault p = (reason : Reason) × (offset : ℕ)
    × ((next_of reply_codec p).0 ≡ Fails reason offset)

-- a piece was read and fed
pub record FeedsReplies (left left' : Option (List ℕ)) (moved moved' : ℕ) (p q : Pending)
    : Type 0 where
  pub piece : List ℕ
  pub fits : IsTrue (are_bytes piece)
  pub given : HasGiven left piece left'
  pub some : 1 ≤ length piece
  pub short : length piece ≤ longest_piece
  pub counted : moved' ≡ min (moved + length piece) (2 ^ 64 - 1)
  pub fed : q ≡ with_piece p piece

-- the input has ended
pub record EndsReplies (left left' : Option (List ℕ)) (p q : Pending) : Type 0 where
  pub given : HasGiven left [] left'
  pub none : HasNoneLeft left left'
  pub kept : q ≡ p

-- whether there was a piece
abbrev pub ReadsReplies : Bool → Option (List ℕ) → Option (List ℕ) → ℕ → ℕ →
    Pending → Pending → Type 0
ReadsReplies true left left' moved moved' p q = FeedsReplies left left' moved moved' p q
ReadsReplies false left left' moved moved' p q = EndsReplies left left' p q

-- no piece was read, or one for which there was no memory
abbrev pub StopsHearing : SendFault → Option (List ℕ) → Option (List ℕ) → Type 0
StopsHearing faults.Read left left' = Keeps left left'
StopsHearing faults.Write left left' = ⊥
StopsHearing faults.Memory left left' =
    (piece : List ℕ) × IsTrue (are_bytes piece) × HasGiven left piece left'
    × (1 ≤ length piece) × (length piece ≤ longest_piece)
StopsHearing faults.BadReply left left' = ⊥
StopsHearing faults.TurnLimit left left' = ⊥
