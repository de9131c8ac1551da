-- What a server has answered and committed behind its gate.
use Rattle.std.proofs.Common.{◌≡◌, ◌∙◌, List, [], ◌∷◌, ap, fold, refl, sym, subst}
use Rattle.std.specs.Prelude.{Result}
use Rattle.bw_model.specs.Wire.{Frame}
use Rattle.bw_model.specs.Replies.{Reply}
use Rattle.bw_exchange.specs.AnsweredFrames.{Answered, AnswersAll, answered_frames}
use Rattle.bw_exchange.specs.Commits.{CommitsUntil}
use Rattle.bw_exchange.specs.MeteredServers.{AnswersCounted}
use Rattle.bw_exchange.specs.declared.link_stats.Metered.{Metered}
use Rattle.bw_exchange.specs.declared.serving.ExchangeEnd.{ExchangeEnd}
use Rattle.bw_exchange.specs.declared.turns.NotKept.{NotKept}
use Rattle.bw_serve.specs.Guards.{Guarded, GuardedOverCommits, is_kept_out, turning_away}
use Rattle.bw_serve.specs.GuardedServers.{AnswersInQuantum, AnswersInExchange, CommitsInExchange, metered_commits}
use Rattle.bw_serve.specs.declared.guarded.GuardedQuantum.{GuardedQuantum}
use Rattle.bw_serve.specs.declared.guarded.GuardedExchange.{GuardedExchange}
use Rattle.bw_serve.proofs.Through.{all_through, until_through}

module _ {T : Type 0} (answers : T → Frame → List Reply → T → Type 0) (first : GuardedQuantum T) where
  -- it has the reference and the gate that it had at first
  abbrev KeepsQuantum : GuardedQuantum T → Type 0
  KeepsQuantum g = (g.metered.ghost_name ≡ first.metered.ghost_name) × (g.gate ≡ first.gate)

  quantum_turns : (g : GuardedQuantum T) (frame : Frame) (replies : List Reply) (g' : GuardedQuantum T) →
      KeepsQuantum g → AnswersInQuantum answers g frame replies g' →
      AnswersCounted (Guarded answers first.gate.allow.now first.gate.peer) g.metered.now frame replies g'.metered.now
      × KeepsQuantum g'
  quantum_turns g frame replies g' keeps h = (
    subst (λ x. AnswersCounted (Guarded answers x.allow.now x.peer) g.metered.now frame replies g'.metered.now) keeps.1
        h.answered,
    (h.reference ∙ keeps.0, h.gate ∙ keeps.1),
  )

  counts_on : (s : GuardedQuantum T) (xs : List Answered) (g : GuardedQuantum T) → s.gate ≡ first.gate →
      AnswersAll (AnswersInQuantum answers) s xs g →
      g.turned_away ≡ fold (turning_away (is_kept_out first.gate.allow.now first.gate.peer)) s.turned_away
      (answered_frames xs)
  counts_on s [] g is h = ap (λ x. x.turned_away) h
  counts_on s (a ∷ rest) g is h =
      let away = turning_away (is_kept_out first.gate.allow.now first.gate.peer) in
      counts_on h.0 rest g (h.1.gate ∙ is) h.2
      ∙ ap (λ n. fold away n (answered_frames rest))
      (subst (λ x. h.0.turned_away ≡ turning_away (is_kept_out x.allow.now x.peer) s.turned_away a.frame) is h.1.counted)

  -- it has counted what was turned away of these frames
  pub counts_by_quantum : (xs : List Answered) (g : GuardedQuantum T) → AnswersAll (AnswersInQuantum answers) first xs g →
      g.turned_away ≡ fold (turning_away (is_kept_out first.gate.allow.now first.gate.peer)) first.turned_away
      (answered_frames xs)
  counts_by_quantum xs g h = counts_on first xs g refl h

  -- the server that it leaves behind
  pub left_by_quantum : (xs : List Answered) (g : GuardedQuantum T) (last : Metered T) →
      AnswersAll (AnswersInQuantum answers) first xs g →
      (first.metered.ghost_name ≡ g.metered.ghost_name → last ≡ g.metered.now) →
      AnswersAll (AnswersCounted (Guarded answers first.gate.allow.now first.gate.peer)) first.metered.now xs last
  left_by_quantum xs g last h is =
      let all = all_through (λ x. x.metered.now) KeepsQuantum (AnswersInQuantum answers)
      (AnswersCounted (Guarded answers first.gate.allow.now first.gate.peer)) quantum_turns first xs g (refl, refl) h in
      subst (λ (x : Metered T). AnswersAll (AnswersCounted (Guarded answers first.gate.allow.now first.gate.peer))
      first.metered.now xs x) (sym (is (sym all.1.0))) all.0

module _ {T : Type 0} (answers : T → Frame → List Reply → T → Type 0) (committed : T → Type 0)
    (commits : T → Result (Unit {0}) NotKept → T → Type 0) (first : GuardedExchange T) where
  abbrev KeepsExchange : GuardedExchange T → Type 0
  KeepsExchange g = (g.metered.ghost_name ≡ first.metered.ghost_name) × (g.gate ≡ first.gate)

  -- what its server answers
  abbrev pub Behind : Metered T → Frame → List Reply → Metered T → Type 0
  Behind = AnswersCounted (GuardedOverCommits answers committed first.gate.allow.now first.gate.peer)

  exchange_turns : (g : GuardedExchange T) (frame : Frame) (replies : List Reply) (g' : GuardedExchange T) →
      KeepsExchange g → AnswersInExchange answers committed g frame replies g' →
      Behind g.metered.now frame replies g'.metered.now × KeepsExchange g'
  exchange_turns g frame replies g' keeps h = (
    subst (λ x. AnswersCounted (GuardedOverCommits answers committed x.allow.now x.peer) g.metered.now frame replies
        g'.metered.now) keeps.1 h.answered,
    (h.reference ∙ keeps.0, h.gate ∙ keeps.1),
  )

  exchange_commits : (g : GuardedExchange T) (r : Result (Unit {0}) NotKept) (g' : GuardedExchange T) →
      KeepsExchange g → CommitsInExchange commits g r g' →
      metered_commits commits g.metered.now r g'.metered.now × KeepsExchange g'
  exchange_commits g r g' keeps h = (h.committed, (h.reference ∙ keeps.0, h.gate ∙ keeps.1))

  module _ (xs : List Answered) (g : GuardedExchange T) (last : Metered T)
      (h : AnswersAll (AnswersInExchange answers committed) first xs g)
      (is : first.metered.ghost_name ≡ g.metered.ghost_name → last ≡ g.metered.now) where
    abbrev all : AnswersAll Behind first.metered.now xs g.metered.now × KeepsExchange g
    all = all_through (λ x. x.metered.now) KeepsExchange (AnswersInExchange answers committed) Behind exchange_turns
        first xs g (refl, refl) h

    last_is : last ≡ g.metered.now
    last_is = is (sym all.1.0)

    pub left_by_exchange : AnswersAll Behind first.metered.now xs last
    left_by_exchange = subst (λ (x : Metered T). AnswersAll Behind first.metered.now xs x) (sym last_is) all.0

    pub committed_by_exchange : (end : ExchangeEnd) →
        CommitsUntil (AnswersInExchange answers committed) (CommitsInExchange commits) end first g →
        CommitsUntil Behind (metered_commits commits) end first.metered.now last
    committed_by_exchange end until = subst (λ (x : Metered T). CommitsUntil Behind (metered_commits commits) end
        first.metered.now x) (sym last_is) (until_through (λ x. x.metered.now) KeepsExchange
        (AnswersInExchange answers committed) Behind exchange_turns (CommitsInExchange commits)
        (metered_commits commits) exchange_commits end first g (refl, refl) until)
