-- Batches that a server commits.
use Rattle.std.proofs.Common.{◌≡◌, inl, inr, ℕ, Bool, true, false, if◌then◌else◌, List, [], ◌∷◌, ◌++◌, length, refl, sym, subst, Option}
use Rattle.std.proofs.Common.{arith}
use Rattle.std.specs.Prelude.{Result, Ok, Err, OnOk, IfErr}
use Rattle.bw_model.specs.Wire.{Frame}
use Rattle.bw_model.specs.Replies.{Reply}
use Rattle.bw_exchange.specs.AnsweredFrames.{Answered, AnswersAll}
use Rattle.bw_exchange.specs.Done.{AnswersSome}
use Rattle.bw_exchange.specs.Commits.{CommitsBatch, CommitsBatches, CommitsUntil, HasBatches, LosesBatch}
use Rattle.bw_exchange.specs.WholeExchanges.{ended_by}
use Rattle.bw_exchange.specs.Pieces.{StopsReading}
use Rattle.bw_exchange.specs.declared.exchange.Exchange.{Exchange}
use Rattle.bw_exchange.specs.declared.serving.ExchangeEnd.{ExchangeEnd}
use Rattle.bw_exchange.specs.declared.step.StreamEnd.{StreamEnd}
use Rattle.bw_exchange.specs.declared.step.StreamEnd.TheVariants as streams
use Rattle.bw_exchange.specs.declared.turns.NotKept.{NotKept}
use Rattle.bw_exchange.specs.declared.serving.ExchangeEnd.TheVariants as ends
use Rattle.bw_exchange.proofs.Going.{answers_append}

-- an end before which nothing is uncommitted
abbrev pub IsKept : ExchangeEnd → Type 0
IsKept (ends.NotKept cause) = ⊥
IsKept end = Unit {0}

pub stopped_kept : (end : ExchangeEnd) (left left' : Option (List ℕ)) → StopsReading end left left' → IsKept end
stopped_kept ends.Bye left left' stops = tt
stopped_kept ends.EndOfInput left left' stops = tt
stopped_kept (ends.BadFrame fault) left left' stops = tt
stopped_kept ends.ReadFault left left' stops = tt
stopped_kept ends.WriteFault left left' stops = tt
stopped_kept (ends.NotKept cause) left left' stops = absurd stops
stopped_kept ends.TurnLimit left left' stops = tt
stopped_kept ends.Memory left left' stops = tt

pub ended_kept : (x : StreamEnd) → IsKept (ended_by x)
ended_kept streams.Bye = tt
ended_kept streams.EndOfInput = tt
ended_kept (streams.BadFrame fault) = tt

module _ {S : Type 0} (answers : S → Frame → List Reply → S → Type 0)
    (commits : S → Result (Unit {0}) NotKept → S → Type 0) where
  batches_on : (xs ys : List (List Answered)) (s mid later : S) → CommitsBatches answers commits s xs mid →
      CommitsBatches answers commits mid ys later → CommitsBatches answers commits s (xs ++ ys) later
  batches_on [] ys s mid later f g = subst (λ x. CommitsBatches answers commits x ys later) f g
  batches_on (x ∷ xs) ys s mid later f g =
      (f.0, f.1, f.2, f.3, batches_on xs ys f.1 mid later f.4 g)

  pub batches_none : (s : S) → HasBatches answers commits s s
  batches_none s = ([], refl)

  pub batches_more : (s mid later : S) → HasBatches answers commits s mid → CommitsBatch answers commits mid later →
      HasBatches answers commits s later
  batches_more s mid later f (inl same) = (f.0, subst (λ x. CommitsBatches answers commits s f.0 x) (sym same) f.1)
  batches_more s mid later f (inr g) =
      (f.0 ++ g.0 ∷ [], batches_on f.0 (g.0 ∷ []) s mid later f.1 (g.1, later, g.2, g.3, refl))

  pub until_any : (end : ExchangeEnd) (s later : S) → IsKept end → HasBatches answers commits s later →
      CommitsUntil answers commits end s later
  until_any ends.Bye s later kept h = h
  until_any ends.EndOfInput s later kept h = h
  until_any (ends.BadFrame fault) s later kept h = h
  until_any ends.ReadFault s later kept h = h
  until_any ends.WriteFault s later kept h = h
  until_any (ends.NotKept cause) s later kept h = absurd kept
  until_any ends.TurnLimit s later kept h = h
  until_any ends.Memory s later kept h = h

  pub until_unkept : (cause : NotKept) (s mid later : S) → HasBatches answers commits s mid →
      LosesBatch answers commits cause mid later → CommitsUntil answers commits (ends.NotKept cause) s later
  until_unkept cause s mid later h g = (mid, h, g)

  join : (s mid later : S) → HasBatches answers commits s mid → HasBatches answers commits mid later →
      HasBatches answers commits s later
  join s mid later f g = (f.0 ++ g.0, batches_on f.0 g.0 s mid later f.1 g.1)

  pub until_on : (end : ExchangeEnd) (s mid later : S) → HasBatches answers commits s mid →
      CommitsUntil answers commits end mid later → CommitsUntil answers commits end s later
  until_on ends.Bye s mid later f g = join s mid later f g
  until_on ends.EndOfInput s mid later f g = join s mid later f g
  until_on (ends.BadFrame fault) s mid later f g = join s mid later f g
  until_on ends.ReadFault s mid later f g = join s mid later f g
  until_on ends.WriteFault s mid later f g = join s mid later f g
  until_on (ends.NotKept cause) s mid later f g = (g.0, join s mid g.0 f g.1, g.2)
  until_on ends.TurnLimit s mid later f g = join s mid later f g
  until_on ends.Memory s mid later f g = join s mid later f g

  pub batches_join : (s mid later : S) → HasBatches answers commits s mid → HasBatches answers commits mid later →
      HasBatches answers commits s later
  batches_join s mid later f g = join s mid later f g

  pub none_in_batch : (one : Bool) (s t : S) (a b : Exchange) → one ≡ false →
      AnswersSome answers 1 (if one then 1 else 0) s t a b → CommitsBatch answers commits s t
  none_in_batch true s t a b is f = absurd cc
  none_in_batch false s t a b is f = inl (go f.0.answered f.0.by_server f.1)
    where
      go : (xs : List Answered) → AnswersAll answers s xs t → length xs ≡ 0 → t ≡ s
      go [] h none = h
      go (x ∷ xs) h none = absurd (omega (arith, none))

  pub batch_of : (r : Result (Unit {0}) NotKept) (n k : ℕ) (s mid t t' : S) (a b c : Exchange) →
      AnswersSome answers 1 k s mid a b → (count : ℕ) → AnswersSome answers n count mid t b c →
      commits t r t' → OnOk r (CommitsBatch answers commits s t')
  batch_of (Ok x) n k s mid t t' a b c f count g h = inr (
    f.0.answered ++ g.0.answered,
    t,
    answers_append answers f.0.answered g.0.answered s mid t f.0.by_server g.0.by_server,
    h,
  )
  batch_of (Err e) n k s mid t t' a b c f count g h = tt

  pub lost_of : (r : Result (Unit {0}) NotKept) (n k : ℕ) (s mid t t' : S) (a b c : Exchange) →
      AnswersSome answers 1 k s mid a b → (count : ℕ) → AnswersSome answers n count mid t b c →
      commits t r t' → IfErr r (λ cause. LosesBatch answers commits cause s t')
  lost_of (Ok x) n k s mid t t' a b c f count g h = tt
  lost_of (Err e) n k s mid t t' a b c f count g h = (
    f.0.answered ++ g.0.answered,
    t,
    answers_append answers f.0.answered g.0.answered s mid t f.0.by_server g.0.by_server,
    h,
  )
