-- Whole inputs, each served as an exchange, and what they leave in a store.
use Rattle.std.specs.Prelude.{◌≡◌, ◌⊎◌, ℕ, ◌+◌, ◌*◌, ◌<◌, ◌≤◌, true, false, IsTrue, IsFalse, Option, Some}
use Rattle.std.specs.Prelude.{None, is_some, List, [], ◌∷◌, ◌++◌, length, map, flat_map, Vec}
use Rattle.std.specs.List.{AllByRecursion, list_all, list_any}
use Rattle.std.specs.declared.alloc.Global.{Global}
use Rattle.bw_model.specs.Counts.{last_count}
use Rattle.bw_model.specs.Wire.{Second, Frame}
use Rattle.bw_model.specs.Replies.{Reply, is_reply}
use Rattle.bw_model.specs.Stream.{End, EndOfInput, SaidBye, BadFrame, stream_of}
use Rattle.bw_model.specs.Book.{Book, log_of}
use Rattle.bw_model.specs.Turn.{book_after}
use Rattle.bw_model.specs.CountedTurn.{is_pending}
use Rattle.bw_model.specs.NumberOrder.{AreInOrder, reports_failure}
use Rattle.bw_model.specs.Exchange.{replies_bytes, last_reply, exchanges, take_in, content_in}
use Rattle.bw_model.specs.Holds.{Kept, Holds}
use Rattle.bw_wire.specs.Reasons.{reason_meaning}
use Rattle.bw_store.specs.declared.store.TakeStore.{Ghosts as StoreGhosts}
use Rattle.bw_journal.specs.declared.journal.Journal.{Ghosts as JournalGhosts}
use Rattle.bw_session.specs.Books.{HoldsBook}
use Rattle.bw_session.specs.NextNumbers.{failed_calls}
use Rattle.bw_session.specs.Servers.{store_since}
use Rattle.bw_exchange.specs.AnsweredFrames.{Answered, answered_frames, replies_of, AnswersAll}
use Rattle.bw_exchange.specs.Done.{AreFirstOf}
use Rattle.bw_exchange.specs.WholeExchanges.{most_reads}
use Rattle.bw_exchange.specs.TurnRuns.{IsRun, run_without_faults}
use Rattle.bw_session.specs.declared.server.Server.{Server}
use Rattle.bw_exchange.specs.WholeExchanges.{AnswersAllRead}
use Rattle.bw_session.specs.ServerTurns.{ServerTurn}
use Rattle.bw_session.specs.SeenServers.{server_store, server_limit}
use Rattle.bw_session.specs.ServerRuns.{all_done}
use Rattle.bw_session.specs.declared.ingest.Run.{Run}
use Rattle.bw_session.specs.declared.ingest.Reported.{Reported}
use Rattle.bw_exchange.specs.declared.serving.ExchangeEnd.{ExchangeEnd}
use Rattle.bw_exchange.specs.declared.serving.ExchangeEnd.TheVariants as ends

-- an exchange's end in the definitions' words, if its bytes show it
abbrev pub ingested_end : ExchangeEnd → Option End
ingested_end ends.Bye = Some SaidBye
ingested_end ends.EndOfInput = Some EndOfInput
ingested_end (ends.BadFrame fault) = Some (BadFrame (reason_meaning fault.reason) fault.offset)
ingested_end ends.ReadFault = None
ingested_end ends.WriteFault = None
ingested_end (ends.NotKept cause) = None
ingested_end ends.TurnLimit = None
ingested_end ends.Memory = None

-- an input, which of its frames were answered, what was written, and how the exchange ended
pub record ServedInput : Type 0 where
  pub input : List ℕ
  pub answered : List Answered
  pub written : List ℕ
  pub end : ExchangeEnd

-- All its frames were answered; the replies were written, and the one to a bad frame after them.
pub record IsServedWhole (x : ServedInput) (end : End) : Type 0 where
  pub stream : stream_of Second x.input ≡ (answered_frames x.answered, end)
  pub replies : x.written ≡ replies_bytes (replies_of x.answered ++ last_reply end)
  -- each of which has a spelling
  pub spelled : IsTrue (list_all is_reply (replies_of x.answered ++ last_reply end))

-- 2^32 reads were not enough for its bytes: all whole frames of what was read were answered, and
-- the replies written.
pub record IsCutOff (x : ServedInput) : Type 0 where
  pub end_is : x.end ≡ ends.TurnLimit
  pub bytes_read : List ℕ
  pub unread : List ℕ
  pub all : bytes_read ++ unread ≡ x.input
  pub long : most_reads ≤ length bytes_read
  pub answers : AnswersAllRead x.answered bytes_read x.written
  -- each reply has a spelling
  pub spelled : IsTrue (list_all is_reply (replies_of x.answered))
  pub first : AreFirstOf (answered_frames x.answered) x.input

-- it was served to the end that its bytes show, or was cut off
abbrev pub IsServedTo : Option End → ServedInput → Type 0
IsServedTo (Some end) x = IsServedWhole x end
IsServedTo None x = IsCutOff x

-- as its end says
abbrev pub WasServed : ServedInput → Type 0
WasServed x = IsServedTo (ingested_end x.end) x

-- the bytes of each
abbrev pub input_bytes : List (Vec ℕ Global) → List (List ℕ)
input_bytes vecs = map (λ v. v.items) vecs

-- These inputs were served, one after another; this was written for each, and each ended so.
pub record AreServed (went : List ServedInput) (inputs written : List (List ℕ))
    (ends_reported : List ExchangeEnd) : Type 0 where
  pub inputs_are : map (λ x. x.input) went ≡ inputs
  pub written_is : map (λ x. x.written) went ≡ written
  pub ends_are : map (λ x. x.end) went ≡ ends_reported
  pub each : AllByRecursion WasServed went

-- all that was answered, one input after another
abbrev pub answered_in : List ServedInput → List Answered
answered_in went = flat_map (λ x. x.answered) went

-- these are first frames of the first of the inputs that are left
abbrev pub AreFirstIn : List Frame → List (List ℕ) → Type 0
AreFirstIn frames [] = frames ≡ []
AreFirstIn frames (input ∷ inputs) = AreFirstOf frames input

-- Of these inputs the first were served, and first frames of the next.
pub record AreServedInPart (went : List ServedInput) (next : List Answered)
    (inputs : List (List ℕ)) : Type 0 where
  pub left : List (List ℕ)
  pub inputs_are : map (λ x. x.input) went ++ left ≡ inputs
  pub each : AllByRecursion WasServed went
  pub first : AreFirstIn (answered_frames next) left

-- the frames of all inputs
abbrev pub input_frames : List (List ℕ) → List Frame
input_frames inputs = flat_map (λ input. (stream_of Second input).0) inputs

module _ {T : Type 0} (answers : T → Frame → List Reply → T → Type 0) (old new : T) where
  -- a server serves this input in an exchange, which writes this and ends so
  pub record ServesInput (input written : List ℕ) (end : ExchangeEnd) : Type 0 where
    pub answered : List Answered
    pub by_server : AnswersAll answers old answered new
    pub served : WasServed
        (record { input = input; answered = answered; written = written; end = end })

  -- it answers first frames of this input
  pub record ServesFirst (input : List ℕ) : Type 0 where
    pub answered : List Answered
    pub by_server : AnswersAll answers old answered new
    pub first : AreFirstOf (answered_frames answered) input

  -- it serves these inputs one after another, writes this, and these are the ends
  pub record ServesInputs (inputs : List (List ℕ)) (reported : Reported) : Type 0 where
    pub went : List ServedInput
    pub by_server : AnswersAll answers old (answered_in went) new
    pub are : AreServed went inputs (input_bytes reported.replies.items) reported.ends.items

  -- it serves the first of these inputs, and first frames of the next
  pub record ServesInPart (inputs : List (List ℕ)) : Type 0 where
    pub went : List ServedInput
    pub next : List Answered
    pub by_server : AnswersAll answers old (answered_in went ++ next) new
    pub are : AreServedInPart went next inputs

module _ {X : Type 0} (S : StoreGhosts X) (limit : ℕ) (before : X) where
  -- These frames were answered in a run from the empty book, beside the store's count of failures,
  -- and the store is as a server leaves it that holds the book after them: each name that is
  -- closed, or of which nothing waits, has its take's file, or what was there before.
  pub record LeavesRun (answered : List Answered) (after : X) : Type 0 where
    pub book : Book
    pub run : IsRun (λ name. is_some (S.contents before name)) (failed_calls (S.failures before) 0)
        (failed_calls (S.failures after) 0) [] answered book
    -- the store was called at most four times for each number that was done, and four for each call
    -- that failed
    pub calls : S.failures after < last_count →
        S.calls after + 4 * S.failures before ≤ S.calls before + 4 * (all_done book + S.failures after)
    pub kept_of : List ℕ → Option Kept
    pub held : Holds limit (store_since S (S.contents before) after) kept_of book
    pub files : (name : List ℕ) → (is_pending (log_of book name) ≡ false)
        ⊎ ((take_in false book name).closed ≡ true) →
        S.contents after name ≡ content_in (S.contents before) limit book name

  -- What is written, the ends and the contents are those of the definitions' exchanges, in which
  -- memory and store give all that is asked of them.
  pub record RunsAsDefined (inputs : List (List ℕ)) (run : Run X) : Type 0 where
    pub replies : input_bytes run.replies.items ≡ map (λ x. replies_bytes x.replies)
        (exchanges (λ name. is_some (S.contents before name)) [] inputs)
    pub ends_are : map ingested_end run.ends.items ≡ map (λ x. Some x.end)
        (exchanges (λ name. is_some (S.contents before name)) [] inputs)
    pub files : (name : List ℕ) → S.contents run.store name
        ≡ content_in (S.contents before) limit (book_after (λ n. is_some (S.contents before n)) []
        (run_without_faults (input_frames inputs))) name

module _ {X Y : Type 0} (S : StoreGhosts X) (J : JournalGhosts Y) (limit : ℕ) (before : X) where
  -- A new server over this store answered these frames, one after another, and its store is the one
  -- that is left: whatever store it is, it was asked what the turns ask, and nothing else.
  pub record WentThrough (answered : List Answered) (after : X) : Type 0 where
    pub server : Server X Y S J
    pub store_is : server_store server ≡ before
    pub limit_is : server_limit server ≡ limit
    pub new : HoldsBook S J (S.contents before) server []
    pub following : Server X Y S J
    pub by_server : AnswersAll (ServerTurn S J) server answered following
    pub left : after ≡ server_store following

  -- it did; or no server was made, nothing was answered, and the store is as it was
  abbrev pub ReceivedBack : List Answered → X → Type 0
  ReceivedBack answered after = WentThrough answered after ⊎ ((answered ≡ []) × (after ≡ before))

  -- The inputs were served, one after another; over an honest store, all in one run.
  pub record Ingests (inputs : List (List ℕ)) (run : Run X) : Type 0 where
    pub went : List ServedInput
    pub are : AreServed went inputs (input_bytes run.replies.items) run.ends.items
    pub store : WentThrough (answered_in went) run.store
    pub leaves : IsTrue (S.honest before) → LeavesRun S limit before (answered_in went) run.store

  -- The first of the inputs were served, and first frames of the next; over an honest store, all in
  -- one run.
  pub record IngestsInPart (inputs : List (List ℕ)) (after : X) : Type 0 where
    pub went : List ServedInput
    pub next : List Answered
    pub are : AreServedInPart went next inputs
    pub store : ReceivedBack (answered_in went ++ next) after
    pub leaves : IsTrue (S.honest before) →
        LeavesRun S limit before (answered_in went ++ next) after

-- there are fewer bytes than an exchange has reads
abbrev pub IsShort : List ℕ → Type 0
IsShort input = length input < most_reads

-- these bytes spell no reply that reports a failure
abbrev pub ReportsNoFailure : List ℕ → Type 0
ReportsNoFailure written = (replies : List Reply) → IsTrue (list_all is_reply replies) →
    written ≡ replies_bytes replies → IsFalse (list_any reports_failure replies)

-- The inputs are short, their frames in number order, and no failure is reported.
pub record GoWell (inputs written : List (List ℕ)) : Type 0 where
  pub short : AllByRecursion IsShort inputs
  pub in_order : AreInOrder [] (input_frames inputs)
  pub no_want : AllByRecursion ReportsNoFailure written
