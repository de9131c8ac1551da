-- One piece of an exchange: it is read and fed, its frames are answered, their replies written.
use Rattle.std.specs.Prelude.{◌≡◌, ◌⊎◌, ℕ, ◌+◌, ◌-◌, ◌^◌, ◌≤◌, false, true, is_some, Option, List}
use Rattle.std.specs.Prelude.{[], ◌++◌, length, min, IsTrue, IfSome}
use Rattle.std.specs.List.{list_all}
use Rattle.bw_model.specs.Wire.{Frame, are_bytes}
use Rattle.bw_model.specs.Replies.{Reply, is_reply}
use Rattle.bw_model.specs.Exchange.{replies_bytes}
use Rattle.bw_stream.specs.Moves.{Keeps, Writes}
use Rattle.bw_wire.specs.Held.{longest_message_piece}
use Rattle.bw_exchange.specs.declared.exchange.Exchange.{Exchange}
use Rattle.bw_exchange.specs.declared.serving.ExchangeEnd.{ExchangeEnd}
use Rattle.bw_exchange.specs.declared.serving.ExchangeEnd.TheVariants as ends
use Rattle.bw_exchange.specs.AnsweredFrames.{Answered, answered_frames, replies_of, AnswersAll}
use Rattle.bw_exchange.specs.Ends.{end_so_far, IsFinal}
use Rattle.bw_exchange.specs.Parts.{end_of, waiting_in}
use Rattle.bw_exchange.specs.Done.{HasDone, DoesMore, AreFirstOf}
use Rattle.bw_exchange.specs.WholeExchanges.{HasGiven, HasNoneLeft, IsBrokenOff}

-- a piece was read and fed; or the input ended, and the exchange with it
pub record FeedsNext (left left' : Option (List ℕ)) (moved moved' : ℕ) (e e' : Exchange)
    : Type 0 where
  pub piece : List ℕ
  pub given : HasGiven left piece left'
  pub short : length piece ≤ longest_message_piece
  pub counted : moved' ≡ min (moved + length piece) (2 ^ 64 - 1)
  pub does : DoesMore e piece [] [] e'
  pub by_end : ((is_some (end_of e') ≡ false) × (1 ≤ length piece))
      ⊎ ((is_some (end_of e') ≡ true) × HasNoneLeft left left')

-- no piece was read, or one for which there was no memory
abbrev pub StopsReading : ExchangeEnd → Option (List ℕ) → Option (List ℕ) → Type 0
StopsReading ends.ReadFault left left' = Keeps left left'
StopsReading ends.Memory left left' =
    (piece : List ℕ) × IsTrue (are_bytes piece) × HasGiven left piece left'
    × (length piece ≤ longest_message_piece) × (1 ≤ length piece)
StopsReading end left left' = ⊥

-- frames were answered in batches, and all that waited was written after each
pub record WritesAnswers {S : Type 0} (answers : S → Frame → List Reply → S → Type 0)
    (s later : S) (written written' : Option (List ℕ)) (e e' : Exchange) : Type 0 where
  pub answered : List Answered
  pub by_server : AnswersAll answers s answered later
  pub bytes : List ℕ
  pub taken : Writes written bytes written'
  pub does : DoesMore e [] answered bytes e'
  pub none_wait : waiting_in e' ≡ []
  -- an end that has come stays
  pub stays : is_some (end_of e) ≡ true → end_of e' ≡ end_of e
  -- the end that it reaches is one that no more bytes can change
  pub final : is_some (end_of e) ≡ false → (fed : List ℕ) (before : List Answered) (gone : List ℕ) →
      HasDone fed before gone e → IfSome (end_so_far (end_of e')) IsFinal

-- it stopped at a write, or at a commit
abbrev pub EndsUnwritten : ExchangeEnd → Type 0
EndsUnwritten ends.WriteFault = Unit {0}
EndsUnwritten (ends.NotKept cause) = Unit {0}
EndsUnwritten end = ⊥

-- the same, until a write failed, or a commit
pub record StopsWriting {S : Type 0} (answers : S → Frame → List Reply → S → Type 0)
    (end : ExchangeEnd) (s later : S) (written written' : Option (List ℕ)) (e : Exchange) : Type 0 where
  pub stop : EndsUnwritten end
  pub answered : List Answered
  pub by_server : AnswersAll answers s answered later
  pub bytes : List ℕ
  pub taken : Writes written bytes written'
  pub reports : (fed : List ℕ) (before : List Answered) (gone : List ℕ) → HasDone fed before gone e →
      gone ≡ replies_bytes (replies_of before) →
      AreFirstOf (answered_frames (before ++ answered)) fed
      × IsBrokenOff end (before ++ answered) fed (gone ++ bytes)
      × IsTrue (list_all is_reply (replies_of (before ++ answered)))
