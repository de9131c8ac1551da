-- How joining chunks to a take ends, and what it leaves of a writer.
use Rattle.std.specs.Prelude.{◌≡◌, ◌⊎◌, ℕ, Bool, true, false, List, ◌++◌, Option, Result, Ok, Err}
use Rattle.bw_stream.specs.Readers.{Of}
use Rattle.bw_stream.specs.declared.sink.Sink.{Ghosts as Writer}
use Rattle.bw_console.specs.Prints.{HasPrinted, HasStopped}
use Rattle.bw_repair.specs.Joinings.{IsJoinRefusal, Joins, JoinsInPart}
use Rattle.bw_repair.specs.SectionBytes.{assembled}
use Rattle.bw_repair.specs.declared.conversions.fault.ConvertFault.{ConvertFault}
use Rattle.bw_repair.specs.declared.left_out.section.Section.{Section}
use Rattle.bw_repair.specs.declared.left_out.join.JoinError.{JoinError}
use Rattle.bw_repair.specs.declared.left_out.join.JoinError.TheVariants.{TakeUnopened, LeftUnopened, Refused}
use Rattle.bw_repair.specs.declared.left_out.join.JoinError.TheVariants.{Stopped, Unwritable}

-- these sections of both files are the take with the chunks
abbrev pub AreJoined : List Section → List Section → List ℕ → List ℕ → Type 0
AreJoined first second t l = Joins t l (assembled first t ++ assembled second l)

-- both files were opened each time
abbrev pub opens_all : JoinError → Bool
opens_all (TakeUnopened error) = false
opens_all (LeftUnopened error) = false
opens_all (Refused f) = true
opens_all (Stopped at) = true
opens_all Unwritable = true

abbrev pub is_each_opened : {X : Type 0} → Result X JoinError → Bool
is_each_opened (Ok x) = true
is_each_opened (Err e) = opens_all e

module _ {W : Type 0} (w : Writer W) (take left : Option (List ℕ)) where
  -- all of the take with the chunks is printed
  pub record JoinsAll (old new : W) : Type 0 where
    pub text : List ℕ
    pub right : Of take (λ t. Of left (λ l. Joins t l text))
    pub prints : HasPrinted w text old new

  -- a read failed, and the writer has a part of it
  pub record JoinsAPart (old new : W) : Type 0 where
    pub text : List ℕ
    pub right : Of take (λ t. Of left (λ l. JoinsInPart t l text))
    pub prints : HasPrinted w text old new ⊎ HasStopped w text old new

  -- the writer failed
  pub record StopsJoining (old new : W) : Type 0 where
    pub text : List ℕ
    pub right : Of take (λ t. Of left (λ l. Joins t l text))
    pub stops : HasStopped w text old new

  -- nothing is printed, for this fault
  pub record RefusesToJoin (f : ConvertFault) (old new : W) : Type 0 where
    pub right : Of take (λ t. Of left (λ l. IsJoinRefusal t l f.kind f.offset))
    pub kept : new ≡ old

  -- which of these an error is
  abbrev pub FailsJoin : JoinError → W → W → Type 0
  FailsJoin (TakeUnopened error) old new = new ≡ old
  FailsJoin (LeftUnopened error) old new = new ≡ old
  FailsJoin (Refused f) old new = RefusesToJoin f old new
  FailsJoin (Stopped at) old new = JoinsAPart old new
  FailsJoin Unwritable old new = StopsJoining old new

  abbrev pub EndsJoin : Result (Unit {0}) JoinError → W → W → Type 0
  EndsJoin (Ok x) old new = JoinsAll old new
  EndsJoin (Err e) old new = FailsJoin e old new
