use Rattle.std.proofs.lemmas.Result.{err_from_is_err_and}
use Rattle.bw_session.proofs.NoteForms.{begun_in_part, begun_notes, carried_noted, carried_in_part}
use Rattle.std.proofs.Common.{ap, ◌∙◌, ◌≤◌, inl, inr, rules, ◌≡◌, ℕ, List, Ok, refl, true, false, sym, subst}
use Rattle.bw_model.specs.Take.{Parts, Request, Verdict, AreFields}
use Rattle.bw_model.specs.Requests.{meaning}
use Rattle.bw_model.specs.VerdictMeanings.{verdict_meaning}
use Rattle.bw_session.specs.Prefixes.{HoldsPrefix}
use Rattle.bw_session.specs.NextNumbers.{IsNext, IsDone, noted_of}
use Rattle.bw_journal.specs.Notes.{NotesInPart}
use Rattle.bw_session.proofs.NumberForms.{done_again, done_next}
use Rattle.bw_session.proofs.PlanForms.{nothing_left, carried_by, not_carried}
use Rattle.bw_store.proofs.Asked.{gets_all}
use Rattle.bw_session.specs.Executions.{judged_plan, AsksJudged}
use Rattle.bw_model.specs.Counts.{Counts}
use Rattle.bw_store.specs.StoreSteps.{WasAsked, WasAskedFirst}
use Rattle.bw_session.proofs.AskForms.{verdict_by, keeps_judged}
use Rattle.bw_session.proofs.NoteForms.{carried_entry}
use Rattle.bw_session.proofs.OrderForms.{order_unbegun, order_unwritten, order_unnoted, order_done}
use Rattle.bw_session.proofs.numbering.Progress.number_done.Goals as goal

pub returns-in_default-clause-done : goal.returns-in_default-clause-done
returns-in_default-clause-done g c = λ honest first log n h.
    let r : Request = meaning c.args.request.now in
    let v : Verdict = verdict_meaning c.in_ok-verdict.verdict in
    let p : Parts = c.carry_out.new.state.parts in
    let finished : List (List ℕ × Verdict) = c.args.self.now.ledger.outcomes in
    let name : c.args.self.now.growing.name ≡ c.args.self.now.name = c.args.self.now.same_name in
    let carried = c.in_ok-verdict.ensures.prefix honest first log finished
    (subst (λ (x : List ℕ). HoldsPrefix first log c.args.self.now.state.parts finished r c.args.self.now.growing
    (g.S.TakeStore.contents c.args.stores.now.store x)) (sym name) h) in
    let fields : AreFields p.fields = subst AreFields c.bext-bext.ensures.value c.bext-bext.ensures.widths in
    subst (λ (x : List ℕ). HoldsPrefix first log p finished r c.mark_written.new.growing
    (g.S.TakeStore.contents c.note.new.self.store x)) name
    (subst (λ s. HoldsPrefix first log p finished r c.mark_written.new.growing
    (g.S.TakeStore.contents s c.args.self.now.growing.name)) (sym c.note.ensures.store)
    (done_again first log v p finished r c.carry_out.new.growing c.mark_written.new.growing _ carried
    c.in_ok-verdict.ensures.clean fields c.mark_written.ensures))

pub returns-clause-done : goal.returns-clause-done
returns-clause-done g c = λ honest first log n h.
    let r : Request = meaning c.args.request.now in
    let v : Verdict = verdict_meaning c.in_ok-verdict.verdict in
    let p : Parts = c.carry_out.new.state.parts in
    let finished : List (List ℕ × Verdict) = c.args.self.now.ledger.outcomes in
    let name : c.args.self.now.growing.name ≡ c.args.self.now.name = c.args.self.now.same_name in
    let later : c.carry_out.new.growing.name ≡ c.args.self.now.name = search rules in
    let carried = c.in_ok-verdict.ensures.prefix honest first log finished
    (subst (λ (x : List ℕ). HoldsPrefix first log c.args.self.now.state.parts finished r c.args.self.now.growing
    (g.S.TakeStore.contents c.args.stores.now.store x)) (sym name) h) in
    subst (λ (x : List ℕ). IsDone first log v c.settle.new.state.parts c.settle.new.ledger.outcomes
    c.carry_out.new.growing (g.S.TakeStore.contents c.note.new.self.store x)) name
    (subst (λ s. IsDone first log v c.settle.new.state.parts c.settle.new.ledger.outcomes
    c.carry_out.new.growing (g.S.TakeStore.contents s c.args.self.now.growing.name)) (sym c.note.ensures.store)
    (done_next first log v p c.settle.new.state.parts finished c.settle.new.ledger.outcomes r c.args.digest.now
    c.carry_out.new.growing _ (subst (λ (x : List ℕ). IsNext x log r c.args.digest.now) (sym later) n) carried
    c.settle.ensures.keeps))

pub returns-in_err-begin_notes-clause-noted : goal.returns-in_err-begin_notes-clause-noted
returns-in_err-begin_notes-clause-noted g c = λ honest honest_notes first log n h existed noted.
    let answer = err_from_is_err_and c.from_residual.result c.from_residual.ensures.1 in
    rw answer.1 (begun_in_part (g.J.Journal.header c.args.stores.now.journal c.args.self.now.name)
    c.args.self.now.name log c.args.self.now.noted _ _ noted (c.in_err-begin_notes.ensures.failed honest_notes))

pub returns-in_err-verdict-clause-noted : goal.returns-in_err-verdict-clause-noted
returns-in_err-verdict-clause-noted g c = λ honest honest_notes first log n h existed noted.
    let answer = err_from_is_err_and c.from_residual-in_err-verdict.result c.from_residual-in_err-verdict.ensures.1 in
    let done : c.len.result ≡ log.done = c.len.ensures.value ∙ h.memory.done in
    rw answer.1 (record {
      offset_is = noted.offset_is;
      stands = inr (begun_notes (g.J.Journal.header c.args.stores.now.journal c.args.self.now.name)
          c.args.self.now.name log c.args.self.now.noted _ _ noted
          (λ none. c.in_ok-begin_notes.ensures.begun (done ∙ none) honest_notes)
          (λ some. ap (λ j. g.J.Journal.notes j c.args.self.now.name)
          (c.in_ok-begin_notes.ensures.later (subst (λ (k : ℕ). 1 ≤ k) (sym done) some))));
    })

pub returns-in_default-clause-noted : goal.returns-in_default-clause-noted
returns-in_default-clause-noted g c = λ honest honest_notes first log n h existed noted.
    let r : Request = meaning c.args.request.now in
    let v : Verdict = verdict_meaning c.in_ok-verdict.verdict in
    let finished : List (List ℕ × Verdict) = c.args.self.now.ledger.outcomes in
    let name : c.args.self.now.growing.name ≡ c.args.self.now.name = c.args.self.now.same_name in
    let later : c.carry_out.new.growing.name ≡ c.args.self.now.name = search rules in
    let carried = c.in_ok-verdict.ensures.prefix honest first log finished
    (subst (λ (x : List ℕ). HoldsPrefix first log c.args.self.now.state.parts finished r c.args.self.now.growing
    (g.S.TakeStore.contents c.args.stores.now.store x)) (sym name) h) in
    let done : c.len.result ≡ log.done = c.len.ensures.value ∙ h.memory.done in
    let entries = begun_notes (g.J.Journal.header c.args.stores.now.journal c.args.self.now.name)
    c.args.self.now.name log c.args.self.now.noted _ _ noted
    (λ none. c.in_ok-begin_notes.ensures.begun (done ∙ none) honest_notes)
    (λ some. ap (λ j. g.J.Journal.notes j c.args.self.now.name)
    (c.in_ok-begin_notes.ensures.later (subst (λ (k : ℕ). 1 ≤ k) (sym done) some))) in
    let left : NotesInPart c.args.self.now.noted (noted_of v c.args.digest.now r)
    (g.J.Journal.notes c.begin_notes.new.journal c.args.self.now.name)
    (g.J.Journal.notes c.note.new.self.journal c.args.self.now.name) =
    let failed = c.in_default.ensures.failed (c.begin_notes.ensures.journal.honest ∙ honest_notes) in search rules in
    carried_in_part first (g.J.Journal.header c.args.stores.now.journal c.args.self.now.name) log v
    c.carry_out.new.state.parts finished r c.carry_out.new.growing _ c.args.self.now.name c.args.digest.now existed later
    carried n c.args.self.now.noted _ _ noted.offset_is entries left

pub returns-clause-noted : goal.returns-clause-noted
returns-clause-noted g c = λ honest honest_notes first log n h existed noted.
    let r : Request = meaning c.args.request.now in
    let v : Verdict = verdict_meaning c.in_ok-verdict.verdict in
    let finished : List (List ℕ × Verdict) = c.args.self.now.ledger.outcomes in
    let name : c.args.self.now.growing.name ≡ c.args.self.now.name = c.args.self.now.same_name in
    let later : c.carry_out.new.growing.name ≡ c.args.self.now.name = search rules in
    let carried = c.in_ok-verdict.ensures.prefix honest first log finished
    (subst (λ (x : List ℕ). HoldsPrefix first log c.args.self.now.state.parts finished r c.args.self.now.growing
    (g.S.TakeStore.contents c.args.stores.now.store x)) (sym name) h) in
    let done : c.len.result ≡ log.done = c.len.ensures.value ∙ h.memory.done in
    let entries = begun_notes (g.J.Journal.header c.args.stores.now.journal c.args.self.now.name)
    c.args.self.now.name log c.args.self.now.noted _ _ noted
    (λ none. c.in_ok-begin_notes.ensures.begun (done ∙ none) honest_notes)
    (λ some. ap (λ j. g.J.Journal.notes j c.args.self.now.name)
    (c.in_ok-begin_notes.ensures.later (subst (λ (k : ℕ). 1 ≤ k) (sym done) some))) in
    carried_noted first (g.J.Journal.header c.args.stores.now.journal c.args.self.now.name) log v
    c.carry_out.new.state.parts finished r c.carry_out.new.growing _ c.args.self.now.name c.args.digest.now existed later
    carried n c.args.self.now.noted c.in-Ok.len _ _ noted.offset_is entries c.in-Ok.ensures.value
    (c.in-Ok.ensures.noted (c.begin_notes.ensures.journal.honest ∙ honest_notes))

pub returns-in_default-clause-asked : goal.returns-in_default-clause-asked
returns-in_default-clause-asked g c = (
  c.carry_out.new.growing.made,
  record {
    refused = λ no. c.note.ensures.store ∙ c.in_ok-verdict.ensures.asked.refused no;
    order = tt;
    begun = subst (λ s. WasAskedFirst g.S.TakeStore (judged_plan c.args.self.now.growing c.args.self.now.state.parts
        (meaning c.args.request.now) c.carry_out.new.growing.made) c.args.stores.now.store s) (sym c.note.ensures.store)
        (gets_all c.in_ok-verdict.ensures.asked.order);
  },
)

pub returns-in_err-begin_notes-clause-asked : goal.returns-in_err-begin_notes-clause-asked
returns-in_err-begin_notes-clause-asked g c =
    let answer = err_from_is_err_and c.from_residual.result c.from_residual.ensures.1 in
    rw answer.1 (true, record { refused = λ no. refl; order = tt; begun = search rules })

pub returns-in_err-verdict-clause-asked : goal.returns-in_err-verdict-clause-asked
returns-in_err-verdict-clause-asked g c =
    let answer = err_from_is_err_and c.from_residual-in_err-verdict.result c.from_residual-in_err-verdict.ensures.1 in
    let asked = c.in_err-verdict.ensures.asked in
    rw answer.1 (true, record { refused = asked.refused; order = tt; begun = asked.begun })

pub returns-clause-asked : goal.returns-clause-asked
returns-clause-asked g c = (
  true,
  subst (λ s. AsksJudged g.S.TakeStore (Ok c.in_ok-verdict.verdict) c.args.self.now.growing
      c.args.self.now.state.parts (meaning c.args.request.now) c.carry_out.new.growing.made true
      c.args.stores.now.store s) (sym c.note.ensures.store) c.in_ok-verdict.ensures.asked,
)

pub returns-clause-kept : goal.returns-clause-kept
returns-clause-kept g c = record {
  kept = keeps_judged c.args.self.now.state.parts c.carry_out.new.state.parts c.settle.new.state.parts
      (meaning c.args.request.now) (verdict_meaning c.in_ok-verdict.verdict) c.carry_out.ensures.parts.parts
      c.in_ok-verdict.ensures.verdict c.settle.ensures.parts;
  verdict = verdict_by c.args.self.now.state.parts c.carry_out.new.state.parts c.settle.new.state.parts
      (meaning c.args.request.now) (verdict_meaning c.in_ok-verdict.verdict) c.carry_out.ensures.parts.parts
      c.in_ok-verdict.ensures.verdict c.settle.ensures.parts;
  outcomes = c.settle.ensures.outcomes;
  clean = c.in_ok-verdict.ensures.clean;
  level = c.carry_out.ensures.level;
}

pub returns-in_default-clause-left : goal.returns-in_default-clause-left
returns-in_default-clause-left g c = record {
  ledger = refl;
  noted = refl;
  room = search rules;
  parts = c.carry_out.ensures.parts.parts;
  again = search rules;
  stop = inr (inr (record {
    counted = subst (λ s. Counts (g.S.TakeStore.failures c.args.stores.now.store) (g.S.TakeStore.failures s) false)
        (sym c.note.ensures.store) c.in_ok-verdict.ensures.shared.failures;
    is_made = c.carry_out.new.growing.made;
    asked = subst (λ s. WasAsked g.S.TakeStore (judged_plan c.args.self.now.growing c.args.self.now.state.parts
        (meaning c.args.request.now) c.carry_out.new.growing.made) c.args.stores.now.store s) (sym c.note.ensures.store)
        c.in_ok-verdict.ensures.asked.order;
    again = λ b. nothing_left c.mark_written.new.growing c.carry_out.new.state.parts (meaning c.args.request.now) b
        (carried_by c.carry_out.new.growing c.mark_written.new.growing c.carry_out.new.state.parts
        (meaning c.args.request.now) (verdict_meaning c.in_ok-verdict.verdict) c.in_ok-verdict.ensures.verdict
        c.mark_written.ensures);
  }));
  unnoted = search rules;
}

pub returns-in_err-begin_notes-clause-left : goal.returns-in_err-begin_notes-clause-left
returns-in_err-begin_notes-clause-left g c =
    let answer = err_from_is_err_and c.from_residual.result c.from_residual.ensures.1 in
    rw answer.1 (record {
      ledger = refl;
      noted = refl;
      room = refl;
      parts = refl;
      again = c.requires.dirty;
      stop = inl (refl, refl, refl);
      unnoted = search rules;
    })

pub returns-in_err-verdict-clause-left : goal.returns-in_err-verdict-clause-left
returns-in_err-verdict-clause-left g c =
    let answer = err_from_is_err_and c.from_residual-in_err-verdict.result c.from_residual-in_err-verdict.ensures.1 in
    rw answer.1 (record {
      ledger = refl;
      noted = refl;
      room = search rules;
      parts = c.carry_out.ensures.parts.parts;
      again = search rules;
      stop = inr (inl (c.in_err-verdict.ensures.shared.failures, c.carry_out.ensures.level));
      unnoted = search rules;
    })

pub returns-in_err-begin_notes-clause-ordered : goal.returns-in_err-begin_notes-clause-ordered
returns-in_err-begin_notes-clause-ordered g c = λ honest honest_notes first log n h existed noted order.
    let answer = err_from_is_err_and c.from_residual.result c.from_residual.ensures.1 in
    let none : log.done ≡ 0 = sym (c.len.ensures.value ∙ h.memory.done) ∙ c.in_err-begin_notes.ensures.first in
    rw answer.1 (order_unbegun (g.J.Journal.header c.args.stores.now.journal c.args.self.now.name) first
    c.args.self.now.name log c.args.self.now.noted _ _ _ _ noted order none
    (c.in_err-begin_notes.ensures.failed honest_notes))

pub returns-in_err-verdict-clause-ordered : goal.returns-in_err-verdict-clause-ordered
returns-in_err-verdict-clause-ordered g c = λ honest honest_notes first log n h existed noted order.
    let answer = err_from_is_err_and c.from_residual-in_err-verdict.result c.from_residual-in_err-verdict.ensures.1 in
    let done : c.len.result ≡ log.done = c.len.ensures.value ∙ h.memory.done in
    let entries = begun_notes (g.J.Journal.header c.args.stores.now.journal c.args.self.now.name)
    c.args.self.now.name log c.args.self.now.noted _ _ noted
    (λ none. c.in_ok-begin_notes.ensures.begun (done ∙ none) honest_notes)
    (λ some. ap (λ j. g.J.Journal.notes j c.args.self.now.name)
    (c.in_ok-begin_notes.ensures.later (subst (λ (k : ℕ). 1 ≤ k) (sym done) some))) in
    rw answer.1 (order_unwritten (g.J.Journal.header c.args.stores.now.journal c.args.self.now.name) first
    c.args.self.now.name log c.args.self.now.noted _ _ _ _ _ _ noted order
    (not_carried c.args.self.now.growing c.args.self.now.state.parts (meaning c.args.request.now)
    c.in_err-verdict.ensures.touched c.in_err-verdict.ensures.dirty.0) entries
    (λ none. c.in_ok-begin_notes.ensures.begun (done ∙ none) honest_notes)
    (λ some. ap (λ j. g.J.Journal.notes j c.args.self.now.name)
    (c.in_ok-begin_notes.ensures.later (subst (λ (k : ℕ). 1 ≤ k) (sym done) some))))

pub returns-in_default-clause-ordered : goal.returns-in_default-clause-ordered
returns-in_default-clause-ordered g c = λ honest honest_notes first log n h existed noted order.
    let r : Request = meaning c.args.request.now in
    let v : Verdict = verdict_meaning c.in_ok-verdict.verdict in
    let finished : List (List ℕ × Verdict) = c.args.self.now.ledger.outcomes in
    let name : c.args.self.now.growing.name ≡ c.args.self.now.name = c.args.self.now.same_name in
    let later : c.carry_out.new.growing.name ≡ c.args.self.now.name = search rules in
    let carried = c.in_ok-verdict.ensures.prefix honest first log finished
    (subst (λ (x : List ℕ). HoldsPrefix first log c.args.self.now.state.parts finished r c.args.self.now.growing
    (g.S.TakeStore.contents c.args.stores.now.store x)) (sym name) h) in
    let done : c.len.result ≡ log.done = c.len.ensures.value ∙ h.memory.done in
    let entries = begun_notes (g.J.Journal.header c.args.stores.now.journal c.args.self.now.name)
    c.args.self.now.name log c.args.self.now.noted _ _ noted
    (λ none. c.in_ok-begin_notes.ensures.begun (done ∙ none) honest_notes)
    (λ some. ap (λ j. g.J.Journal.notes j c.args.self.now.name)
    (c.in_ok-begin_notes.ensures.later (subst (λ (k : ℕ). 1 ≤ k) (sym done) some))) in
    let left : NotesInPart c.args.self.now.noted (noted_of v c.args.digest.now r)
    (g.J.Journal.notes c.begin_notes.new.journal c.args.self.now.name)
    (g.J.Journal.notes c.note.new.self.journal c.args.self.now.name) =
    let failed = c.in_default.ensures.failed (c.begin_notes.ensures.journal.honest ∙ honest_notes) in search rules in
    order_unnoted (g.J.Journal.header c.args.stores.now.journal c.args.self.now.name) first c.args.self.now.name log
    c.args.self.now.noted (noted_of v c.args.digest.now r) _ _ _ _ noted.offset_is entries
    (carried_entry first (g.J.Journal.header c.args.stores.now.journal c.args.self.now.name) log v
    c.carry_out.new.state.parts finished r c.carry_out.new.growing _ c.args.self.now.name c.args.digest.now existed later
    carried n) left
    (carried_by c.carry_out.new.growing c.mark_written.new.growing c.carry_out.new.state.parts r v
    c.in_ok-verdict.ensures.verdict c.mark_written.ensures)

pub returns-clause-ordered : goal.returns-clause-ordered
returns-clause-ordered g c = λ honest honest_notes first log n h existed noted order.
    let r : Request = meaning c.args.request.now in
    let v : Verdict = verdict_meaning c.in_ok-verdict.verdict in
    let finished : List (List ℕ × Verdict) = c.args.self.now.ledger.outcomes in
    let name : c.args.self.now.growing.name ≡ c.args.self.now.name = c.args.self.now.same_name in
    let later : c.carry_out.new.growing.name ≡ c.args.self.now.name = search rules in
    let carried = c.in_ok-verdict.ensures.prefix honest first log finished
    (subst (λ (x : List ℕ). HoldsPrefix first log c.args.self.now.state.parts finished r c.args.self.now.growing
    (g.S.TakeStore.contents c.args.stores.now.store x)) (sym name) h) in
    let done : c.len.result ≡ log.done = c.len.ensures.value ∙ h.memory.done in
    let entries = begun_notes (g.J.Journal.header c.args.stores.now.journal c.args.self.now.name)
    c.args.self.now.name log c.args.self.now.noted _ _ noted
    (λ none. c.in_ok-begin_notes.ensures.begun (done ∙ none) honest_notes)
    (λ some. ap (λ j. g.J.Journal.notes j c.args.self.now.name)
    (c.in_ok-begin_notes.ensures.later (subst (λ (k : ℕ). 1 ≤ k) (sym done) some))) in
    order_done (g.J.Journal.header c.args.stores.now.journal c.args.self.now.name) first c.args.self.now.name log
    c.args.self.now.noted c.in-Ok.len (noted_of v c.args.digest.now r) _ _ _ _ noted.offset_is entries
    (carried_entry first (g.J.Journal.header c.args.stores.now.journal c.args.self.now.name) log v
    c.carry_out.new.state.parts finished r c.carry_out.new.growing _ c.args.self.now.name c.args.digest.now existed later
    carried n) c.in-Ok.ensures.value
    (c.in-Ok.ensures.noted (c.begin_notes.ensures.journal.honest ∙ honest_notes))
