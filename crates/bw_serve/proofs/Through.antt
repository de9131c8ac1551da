-- What a server answers and commits through another one.
use Rattle.std.proofs.Common.{List, [], ◌∷◌, sym, ap, subst}
use Rattle.std.specs.Prelude.{Result, Ok, Err}
use Rattle.bw_model.specs.Wire.{Frame}
use Rattle.bw_model.specs.Replies.{Reply}
use Rattle.bw_exchange.specs.AnsweredFrames.{Answered, AnswersAll}
use Rattle.bw_exchange.specs.Commits.{CommitsBatches, CommitsUntil, HasBatches, LosesBatch}
use Rattle.bw_exchange.specs.declared.serving.ExchangeEnd.{ExchangeEnd}
use Rattle.bw_exchange.specs.declared.serving.ExchangeEnd.TheVariants as ends
use Rattle.bw_exchange.specs.declared.turns.NotKept.{NotKept}

-- each turn is one of the server within, as long as this holds
module _ {T S : Type 0} (inner : T → S) (Keeps : T → Type 0) (outer : T → Frame → List Reply → T → Type 0)
    (answers : S → Frame → List Reply → S → Type 0)
    (turns : (t : T) (frame : Frame) (replies : List Reply) (t' : T) → Keeps t → outer t frame replies t' →
    answers (inner t) frame replies (inner t') × Keeps t') where
  pub all_through : (t : T) (xs : List Answered) (t' : T) → Keeps t → AnswersAll outer t xs t' →
      AnswersAll answers (inner t) xs (inner t') × Keeps t'
  all_through t [] t' keeps h = (ap inner h, subst Keeps (sym h) keeps)
  all_through t (a ∷ rest) t' keeps h =
      let first = turns t a.frame a.replies h.0 keeps h.1 in
      let more = all_through h.0 rest t' first.1 h.2 in
      ((inner h.0, first.0, more.0), more.1)

  -- and each commit
  module _ (closes : T → Result (Unit {0}) NotKept → T → Type 0) (commits : S → Result (Unit {0}) NotKept → S → Type 0)
      (commits_through : (t : T) (r : Result (Unit {0}) NotKept) (t' : T) → Keeps t → closes t r t' →
      commits (inner t) r (inner t') × Keeps t') where
    batches_through : (xs : List (List Answered)) (t t' : T) → Keeps t → CommitsBatches outer closes t xs t' →
        CommitsBatches answers commits (inner t) xs (inner t') × Keeps t'
    batches_through [] t t' keeps h = (ap inner h, subst Keeps (sym h) keeps)
    batches_through (x ∷ xs) t t' keeps h =
        let turned = all_through t x h.0 keeps h.2 in
        let closed = commits_through h.0 (Ok tt) h.1 turned.1 h.3 in
        let more = batches_through xs h.1 t' closed.1 h.4 in
        ((inner h.0, inner h.1, turned.0, closed.0, more.0), more.1)

    some_through : (t t' : T) → Keeps t → HasBatches outer closes t t' →
        HasBatches answers commits (inner t) (inner t') × Keeps t'
    some_through t t' keeps h = let all = batches_through h.0 t t' keeps h.1 in ((h.0, all.0), all.1)

    lost_through : (cause : NotKept) (t t' : T) → Keeps t → LosesBatch outer closes cause t t' →
        LosesBatch answers commits cause (inner t) (inner t')
    lost_through cause t t' keeps h =
        let turned = all_through t h.0 h.1 keeps h.2 in
        (h.0, inner h.1, turned.0, (commits_through h.1 (Err cause) t' turned.1 h.3).0)

    -- the batches of an exchange are those of the server within
    pub until_through : (end : ExchangeEnd) (t t' : T) → Keeps t → CommitsUntil outer closes end t t' →
        CommitsUntil answers commits end (inner t) (inner t')
    until_through ends.Bye t t' keeps h = (some_through t t' keeps h).0
    until_through ends.EndOfInput t t' keeps h = (some_through t t' keeps h).0
    until_through (ends.BadFrame fault) t t' keeps h = (some_through t t' keeps h).0
    until_through ends.ReadFault t t' keeps h = (some_through t t' keeps h).0
    until_through ends.WriteFault t t' keeps h = (some_through t t' keeps h).0
    until_through (ends.NotKept cause) t t' keeps h =
        let some = some_through t h.0 keeps h.1 in
        (inner h.0, some.0, lost_through cause h.0 t' some.1 h.2)
    until_through ends.TurnLimit t t' keeps h = (some_through t t' keeps h).0
    until_through ends.Memory t t' keeps h = (some_through t t' keeps h).0
