-- Runs of exchanges on a new server over an empty store.
use Rattle.std.specs.Prelude.{◌≡◌, ◌⊎◌, ℕ, true, false, IsTrue, IsFalse, Option, Some, None}
use Rattle.std.specs.Prelude.{List, [], ◌∷◌, ◌++◌, map, flat_map, Vec}
use Rattle.std.specs.List.{list_all, list_any}
use Rattle.std.specs.declared.alloc.Global.{Global}
use Rattle.bw_model.specs.Wire.{Second}
use Rattle.bw_model.specs.Replies.{Reply, is_reply}
use Rattle.bw_model.specs.Stream.{End, stream_of}
use Rattle.bw_model.specs.Book.{Book, log_of}
use Rattle.bw_model.specs.Turn.{book_after}
use Rattle.bw_model.specs.CountedTurn.{is_pending, is_delayed}
use Rattle.bw_model.specs.NumberOrder.{AreInOrder, reports_failure}
use Rattle.bw_model.specs.Exchange.{Exchange, exchanges, nothing_stands, replies_bytes, last_reply}
use Rattle.bw_model.specs.Exchange.{take_in, content_in}
use Rattle.bw_model.specs.Holds.{Kept, Holds}
use Rattle.bw_exchange.specs.AnsweredFrames.{Answered, answered_frames, replies_of}
use Rattle.bw_session.specs.IngestRuns.{ingested_end, input_frames}
use Rattle.bw_exchange.specs.TurnRuns.{IsRun as IsCountedRun, IsRunOf, run_without_faults}
use Rattle.bw_exchange.specs.declared.serving.ExchangeEnd.{ExchangeEnd}

-- what an exchange reports: its replies and its end
pub record ReportedExchange : Type 0 where
  pub replies : List Reply
  pub end : End

-- what of an exchange is reported
abbrev pub reported_of : Exchange → ReportedExchange
reported_of e = record { replies = e.replies; end = e.end }

-- all replies that are reported
abbrev pub replies_reported : List ReportedExchange → List Reply
replies_reported reported = flat_map (λ t. t.replies) reported

-- These are all frames of the input. Their replies are reported, that to a bad frame after them, and
-- how the input ends.
pub record ReportsInput (input : List ℕ) (answered : List Answered) (t : ReportedExchange) :
    Type 0 where
  pub stream : stream_of Second input ≡ (answered_frames answered, t.end)
  pub replies : t.replies ≡ replies_of answered ++ last_reply t.end

-- this holds for each input
abbrev pub ReportInputs : List (List ℕ) → List (List Answered) → List ReportedExchange → Type 0
ReportInputs [] [] [] = Unit {0}
ReportInputs (input ∷ inputs) (answered ∷ rest) (t ∷ ts) =
    ReportsInput input answered t × ReportInputs inputs rest ts
ReportInputs [] [] (t ∷ ts) = ⊥
ReportInputs [] (answered ∷ rest) ts = ⊥
ReportInputs (input ∷ inputs) [] ts = ⊥
ReportInputs (input ∷ inputs) (answered ∷ rest) [] = ⊥

-- nothing is there at the start
abbrev pub empty_contents : List ℕ → Option (List ℕ)
empty_contents name = None

-- If the frames come in number order and no lack of memory or of the store is reported, exchanges
-- and contents are one function of limit and inputs.
pub record AreExchangesOf (limit : ℕ) (inputs : List (List ℕ)) (reported : List ReportedExchange)
    (contents : List ℕ → Option (List ℕ)) : Type 0 where
  pub reported_is : reported ≡ map reported_of (exchanges nothing_stands [] inputs)
  pub files : (name : List ℕ) → contents name ≡ content_in empty_contents limit
      (book_after nothing_stands [] (run_without_faults (input_frames inputs))) name

-- The inputs are answered so, one exchange after another, by a new server over an empty store, of
-- which this many calls failed, and which then has these contents.
pub record IsReplayRun (limit : ℕ) (inputs : List (List ℕ)) (failures : ℕ)
    (reported : List ReportedExchange)
    (contents : List ℕ → Option (List ℕ)) : Type 0 where
  pub answered : List (List Answered)
  pub reports : ReportInputs inputs answered reported
  -- all turns are a run of the definitions, with some faults at each
  pub book : Book
  pub run : IsRunOf nothing_stands [] (flat_map (λ a. a) answered) book
  -- of which one stops short for each store call that failed, and no other
  pub counted : IsCountedRun nothing_stands 0 failures [] (flat_map (λ a. a) answered) book
  -- a reply says that a store call failed only if one did
  pub delays : failures ≡ 0 → IsFalse (list_any is_delayed (replies_reported reported))
  -- the contents are those of a server that holds the book after them
  pub kept_of : List ℕ → Option Kept
  pub held : Holds limit (record { contents = contents; first = empty_contents; honest = true })
      kept_of book
  -- so each name that is closed, or of which nothing waits, has its take's file
  pub files : (name : List ℕ) →
      (is_pending (log_of book name) ≡ false) ⊎ ((take_in false book name).closed ≡ true) →
      contents name ≡ content_in empty_contents limit book name
  -- and each name does where no store call failed
  pub whole : failures ≡ 0 → (name : List ℕ) →
      contents name ≡ content_in empty_contents limit book name
  pub in_order : AreInOrder [] (input_frames inputs) →
      IsFalse (list_any reports_failure (replies_reported reported)) →
      AreExchangesOf limit inputs reported contents

-- these bytes and this end report the exchange, by replies that have spellings
pub record ReportsExchange (bytes : List ℕ) (end : ExchangeEnd) (t : ReportedExchange) : Type 0 where
  pub replies : bytes ≡ replies_bytes t.replies
  pub spelled : IsTrue (list_all is_reply t.replies)
  pub ended : ingested_end end ≡ Some t.end

-- each says what is at its place
abbrev pub AllReport : List (Vec ℕ Global) → List ExchangeEnd → List ReportedExchange → Type 0
AllReport [] [] [] = Unit {0}
AllReport (r ∷ rs) (e ∷ es) (t ∷ ts) = ReportsExchange r.items e t × AllReport rs es ts
AllReport [] [] (t ∷ ts) = ⊥
AllReport [] (e ∷ es) ts = ⊥
AllReport (r ∷ rs) [] ts = ⊥
AllReport (r ∷ rs) (e ∷ es) [] = ⊥
