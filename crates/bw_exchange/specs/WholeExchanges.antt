-- A whole exchange: what it reads, answers and writes, by how it ends.
use Rattle.std.specs.Prelude.{◌≡◌, ◌⊎◌, ℕ, ◌-◌, ◌+◌, ◌^◌, ◌≤◌, Option, Some, List, [], ◌∷◌, ◌++◌, length}
use Rattle.std.specs.Prelude.{min, IfSome, IsTrue}
use Rattle.std.specs.List.{list_all}
use Rattle.bw_model.specs.Wire.{Second, Frame}
use Rattle.bw_model.specs.Replies.{Reply, is_reply}
use Rattle.bw_model.specs.Stream.{End, EndOfInput, SaidBye, BadFrame, stream_of}
use Rattle.bw_model.specs.Exchange.{replies_bytes, last_reply}
use Rattle.bw_stream.specs.Moves.{one_more, Writes}
use Rattle.bw_wire.specs.Held.{longest_message_piece}
use Rattle.bw_wire.specs.Reasons.{reason_meaning}
use Rattle.bw_exchange.specs.declared.serving.ExchangeEnd.{ExchangeEnd}
use Rattle.bw_exchange.specs.declared.serving.ExchangeEnd.TheVariants as ends
use Rattle.bw_exchange.specs.declared.step.StreamEnd.{StreamEnd}
use Rattle.bw_exchange.specs.declared.step.StreamEnd.TheVariants as streams
use Rattle.bw_exchange.specs.AnsweredFrames.{Answered, answered_frames, replies_of, AnswersAll}
use Rattle.bw_exchange.specs.Ends.{IsFinal}
use Rattle.bw_exchange.specs.Bounds.{most_waiting}
use Rattle.bw_exchange.specs.Done.{last_of, AreFirstOf}

-- the most reads of an exchange
abbrev pub most_reads : ℕ
most_reads = 2 ^ 32

-- the end of the exchange where its stream ends
abbrev pub ended_by : StreamEnd → ExchangeEnd
ended_by streams.Bye = ends.Bye
ended_by streams.EndOfInput = ends.EndOfInput
ended_by (streams.BadFrame fault) = ends.BadFrame fault

-- the count of a reader's failures: one more exactly if the exchange ended by one
abbrev pub reads_failed : ExchangeEnd → ℕ → ℕ
reads_failed ends.ReadFault n = one_more n
reads_failed end n = n

-- the count of a writer's failures: one more exactly if the exchange ended by one
abbrev pub writes_failed : ExchangeEnd → ℕ → ℕ
writes_failed ends.WriteFault n = one_more n
writes_failed end n = n

-- the limit of reads is reported only if a reader has counted 2^32 more bytes and 2^32 more calls,
-- or as many as it can count
abbrev pub IsLimited : ExchangeEnd → ℕ → ℕ → ℕ → ℕ → Type 0
IsLimited ends.TurnLimit moved moved' calls calls' =
    (min (moved + most_reads) (2 ^ 64 - 1) ≤ moved')
    × (min (calls + most_reads) (2 ^ 64 - 1) ≤ calls')
IsLimited end moved moved' calls calls' = Unit {0}

-- a reader that reports its bytes gave these
abbrev pub HasGiven : Option (List ℕ) → List ℕ → Option (List ℕ) → Type 0
HasGiven left bytes left' = (xs : List ℕ) → left ≡ Some xs →
    (rest : List ℕ) × (left' ≡ Some rest) × (bytes ++ rest ≡ xs)

-- a reader that reported its bytes has none left
abbrev pub HasNoneLeft : Option (List ℕ) → Option (List ℕ) → Type 0
HasNoneLeft left left' = (xs : List ℕ) → left ≡ Some xs → left' ≡ Some []

-- the exchange reached the end of its stream
pub record ReachesEnd (end : End) (left left' : Option (List ℕ)) (answered : List Answered)
    (input output : List ℕ) : Type 0 where
  -- the answered frames are those of what was read
  pub stream : stream_of Second input ≡ (answered_frames answered, end)
  -- and those of all that the reader had, whether it was read or not
  pub whole : (xs : List ℕ) → left ≡ Some xs → stream_of Second xs ≡ (answered_frames answered, end)
  -- nothing is left where only the input's end says how it ended
  pub drained : IsFinal end ⊎ HasNoneLeft left left'
  -- all replies are written, and that to a bad frame
  pub written : output ≡ replies_bytes (replies_of answered ++ last_reply end)
  pub spelled : IsTrue (list_all is_reply (last_reply end))

-- all whole frames of what was read are answered, and their replies written
pub record AnswersAllRead (answered : List Answered) (input output : List ℕ) : Type 0 where
  pub frames : (stream_of Second input).0 ≡ answered_frames answered
  -- and no end was found among them that more bytes can't change
  pub unended : IsFinal (stream_of Second input).1 → ⊥
  pub written : output ≡ replies_bytes (replies_of answered)

-- where a commit failed nothing more left
abbrev pub MayLeave : ExchangeEnd → List ℕ → Type 0
MayLeave (ends.NotKept cause) more = more ≡ []
MayLeave end more = Unit {0}

-- A prefix of the replies is written: all but as many bytes as wait at most. Where a commit failed,
-- it ends after the replies to whole frames.
pub record IsBrokenOff (end_by : ExchangeEnd) (answered : List Answered) (input output : List ℕ)
    : Type 0 where
  -- how the stream ends, if that was found: a bad frame has its reply too
  pub end : Option End
  pub is_end : IfSome end (λ x. stream_of Second input ≡ (answered_frames answered, x))
  pub unwritten : List ℕ
  pub begins : output ++ unwritten ≡ replies_bytes (replies_of answered ++ last_of end)
  pub few : length unwritten ≤ most_waiting
  pub earlier : List Answered
  pub last : List Answered
  pub all : answered ≡ earlier ++ last
  pub more : List ℕ
  pub kept : MayLeave end_by more
  pub has_earlier : output ≡ replies_bytes (replies_of earlier) ++ more

-- Nothing is read once the stream has ended: without the last piece that was read, no end was found
-- that more bytes can't change.
pub record ReadsNoFurther (input : List ℕ) : Type 0 where
  pub before : List ℕ
  pub last : List ℕ
  pub all : input ≡ before ++ last
  pub short : length last ≤ longest_message_piece
  pub unended : IsFinal (stream_of Second before).1 → ⊥

-- memory was refused for the last piece that was read; all whole frames before it are answered
pub record LacksMemory (answered : List Answered) (input : List ℕ) : Type 0 where
  pub before : List ℕ
  pub last : List ℕ
  pub all : input ≡ before ++ last
  pub short : length last ≤ longest_message_piece
  pub some : 1 ≤ length last
  pub frames : (stream_of Second before).0 ≡ answered_frames answered

-- what an exchange that ends so has answered and written of what it read
abbrev pub EndsBy : ExchangeEnd → Option (List ℕ) → Option (List ℕ) → List Answered → List ℕ →
    List ℕ → Type 0
EndsBy ends.Bye left left' answered input output =
    ReachesEnd SaidBye left left' answered input output
EndsBy ends.EndOfInput left left' answered input output =
    ReachesEnd EndOfInput left left' answered input output
EndsBy (ends.BadFrame fault) left left' answered input output =
    ReachesEnd (BadFrame (reason_meaning fault.reason) fault.offset) left left' answered
    input output
EndsBy ends.ReadFault left left' answered input output = AnswersAllRead answered input output
EndsBy ends.WriteFault left left' answered input output =
    IsBrokenOff ends.WriteFault answered input output
EndsBy (ends.NotKept cause) left left' answered input output =
    IsBrokenOff (ends.NotKept cause) answered input output
EndsBy ends.TurnLimit left left' answered input output =
    AnswersAllRead answered input output × (most_reads ≤ length input)
EndsBy ends.Memory left left' answered input output =
    ((input ≡ []) ⊎ LacksMemory answered input)
    × (output ≡ replies_bytes (replies_of answered))

-- a server, a reader and a writer are used by an exchange that ends so
pub record Serves {S : Type 0} (answers : S → Frame → List Reply → S → Type 0) (end : ExchangeEnd)
    (s later : S) (left left' written written' : Option (List ℕ)) : Type 0 where
  -- the server answered these frames, one after another
  pub answered : List Answered
  pub by_server : AnswersAll answers s answered later
  -- these bytes were read, and these were written
  pub input : List ℕ
  pub given : HasGiven left input left'
  pub no_further : ReadsNoFurther input
  pub output : List ℕ
  pub taken : Writes written output written'
  pub prefix : AreFirstOf (answered_frames answered) input
  -- each reply has a spelling
  pub spelled : IsTrue (list_all is_reply (replies_of answered))
  pub by_end : EndsBy end left left' answered input output
