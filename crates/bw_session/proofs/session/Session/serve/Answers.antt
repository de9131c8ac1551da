use Rattle.std.proofs.Common.{rules, ◌+◌, ◌≤◌, ℕ, [], ◌∷◌, false, length, inr, refl, sym, ◌∙◌, ap}
use Rattle.std.proofs.Common.{subst, arith, append-nil}
use Rattle.std.specs.Prelude.{is_some}
use Rattle.std.specs.List.{All}
use Rattle.std.proofs.lemmas.List.{length_push}
use Rattle.std.proofs.lemmas.List.Elements.{All-push}
use Rattle.std.proofs.lemmas.Result.{err_from_is_err_and}
use Rattle.bw_model.specs.Wire.{Message}
use Rattle.bw_model.specs.Book.{run_end}
use Rattle.bw_model.specs.Replies as model
use Rattle.bw_model.specs.Turn.{admitted_after, own_reply}
use Rattle.bw_file.specs.GrowingFiles.{Growing}
use Rattle.bw_wire.specs.Frames.{message_of}
use Rattle.bw_session.specs.AdmittedMessages.{with_message}
use Rattle.bw_session.specs.NameNotes.{IsNoted}
use Rattle.bw_session.specs.Sessions.{part_of}
use Rattle.bw_session.specs.ServedMessages.{log_after}
use Rattle.bw_session.specs.ServedReplies.{IsServing, IsTimely}
use Rattle.bw_session.proofs.AdmitForms.{outside_not_new, part_same, notes_same}
use Rattle.bw_session.proofs.ReplyForms.{own_far}
use Rattle.bw_session.proofs.ServeForms.{starts, serves, noted_start}
use Rattle.bw_session.proofs.UseForms.{all_none, timely_any, timely_notice, timely_push, uses_none}
use Rattle.std.proofs.Common.{inl}
use Rattle.bw_session.specs.KeptParts.{Part}
use Rattle.bw_session.specs.ConsecutiveCalls.{DoesRun}
use Rattle.bw_session.proofs.AskForms.{holding_far, run_from_none}
use Rattle.bw_session.proofs.session.Session.serve.Goals as goal

pub returns-then-done-len-clause-both : goal.returns-then-done-len-clause-both
returns-then-done-len-clause-both g c = (
  c.drain.result,
  c.drain.ensures.run.both,
  c.drain.ensures.run.calls,
  timely_push c.drain.result c.drain.new.out.items c.push.new.self.items c.notice.result c.push.ensures.items
      (timely_any c.drain.result c.drain.new.out.items
      (c.drain.ensures.timely (all_none (IsTimely false) c.args.out.now.items c.requires.empty)))
      (timely_notice c.drain.result c.notice.result _ _ _ _ c.notice.ensures.value refl),
)

pub returns-in-Some-clause-both : goal.returns-in-Some-clause-both
returns-in-Some-clause-both g c = (
  c.in_ok-stopped.stopped,
  c.in_ok-stopped.ensures.run.both,
  c.in_ok-stopped.ensures.run.calls,
  timely_push c.in_ok-stopped.stopped c.admit_and_drain.new.out.items c.push-in-Some.new.self.items c.in-Some.reply
      c.push-in-Some.ensures.items
      (timely_any c.in_ok-stopped.stopped c.admit_and_drain.new.out.items c.in_ok-stopped.ensures.timely)
      c.in-Some.ensures.timely,
)

pub returns-in_default-clause-both : goal.returns-in_default-clause-both
returns-in_default-clause-both g c = (
  c.in_ok-stopped.stopped,
  c.in_ok-stopped.ensures.run.both,
  c.in_ok-stopped.ensures.run.calls,
  timely_any c.in_ok-stopped.stopped c.admit_and_drain.new.out.items c.in_ok-stopped.ensures.timely,
)

pub returns-then-done-len-clause-served : goal.returns-then-done-len-clause-served
returns-then-done-len-clause-served g c = λ honest first log h.
    let m : Message = message_of c.args.message.now in
    let long = c.len-done.ensures.value in
    let slots = c.len.ensures.value in
    let number = c.number.ensures.value in
    let past : length c.args.self.now.progress.ledger.outcomes + 16 ≤ m.number = search rules in
    let same = outside_not_new first log _ _ _ _ _ h m.number (inr past) in
    let ended = c.drain.ensures.drained honest first (with_message log m)
    (starts first log m (part_of c.args.self.now) _ h c.len.ensures.slots (part_of c.args.self.now)
    c.args.out.now.items (g.S.TakeStore.contents c.args.stores.now.store) c.args.self.now.progress.name
    c.args.self.now.progress.name c.requires.empty refl (part_same first log _ _ _ _ _ h m same)) in
    let done = h.memory.done in
    serves first log m c.drain.result c.drain.new.out.items (part_of c.drain.new.self) _ ended (c.notice.result ∷ [])
    c.push.new.self.items _ _ (c.requires.name ∙ sym c.args.self.now.progress.same_name
    ∙ sym (ap (λ (x : Growing). x.name) c.drain.ensures.take.growing)) c.push.ensures.items
    (ap (λ (r : model.Reply). r ∷ []) c.notice.ensures.value
    ∙ sym (own_far (is_some first) (admitted_after log m) log.done
    (length c.drain.new.self.progress.ledger.outcomes) (run_end (admitted_after log m) log.done) m
    (omega (arith, past, done))))
    c.drain.ensures.run.both.failures

pub returns-then-done-len-clause-noted : goal.returns-then-done-len-clause-noted
returns-then-done-len-clause-noted g c = λ honest honest_notes first log h existed noted.
    let m : Message = message_of c.args.message.now in
    let long = c.len-done.ensures.value in
    let slots = c.len.ensures.value in
    let number = c.number.ensures.value in
    let past : length c.args.self.now.progress.ledger.outcomes + 16 ≤ m.number = search rules in
    let same = outside_not_new first log _ _ _ _ _ h m.number (inr past) in
    let ended = c.drain.ensures.drained honest first (with_message log m)
    (starts first log m (part_of c.args.self.now) _ h c.len.ensures.slots (part_of c.args.self.now)
    c.args.out.now.items (g.S.TakeStore.contents c.args.stores.now.store) c.args.self.now.progress.name
    c.args.self.now.progress.name c.requires.empty refl (part_same first log _ _ _ _ _ h m same)) in
    subst (λ (n : ℕ). IsNoted (g.J.Journal.header c.args.stores.now.journal c.args.self.now.progress.name)
    c.args.self.now.progress.name (log_after log m n) c.drain.new.self.progress.noted
    (g.J.Journal.notes c.drain.new.stores.journal c.args.self.now.progress.name)) (sym ended.drained.left.memory.done)
    (c.drain.ensures.noted honest honest_notes first (with_message log m)
    (starts first log m (part_of c.args.self.now) _ h c.len.ensures.slots (part_of c.args.self.now)
    c.args.out.now.items (g.S.TakeStore.contents c.args.stores.now.store) c.args.self.now.progress.name
    c.args.self.now.progress.name c.requires.empty refl (part_same first log _ _ _ _ _ h m same)) existed
    (noted_start _ c.args.self.now.progress.name (with_message log m) c.args.self.now.progress.noted _
    c.args.out.now.items c.requires.empty
    (notes_same first log _ _ _ _ _ h m _ c.args.self.now.progress.name _ _ same noted)))

pub returns-in-Some-clause-served : goal.returns-in-Some-clause-served
returns-in-Some-clause-served g c = λ honest first log h.
    let m : Message = message_of c.args.message.now in
    let done = c.len-done.ensures.value ∙ h.memory.done in
    let ended = c.in_ok-stopped.ensures.drained honest first log h in
    serves first log m c.in_ok-stopped.stopped c.admit_and_drain.new.out.items (part_of c.admit_and_drain.new.self) _
    ended (c.in-Some.reply ∷ []) c.push-in-Some.new.self.items _ _ (c.requires.name ∙ sym c.args.self.now.progress.same_name
    ∙ sym (ap (λ (x : Growing). x.name) c.admit_and_drain.ensures.take.growing)) c.push-in-Some.ensures.items
    (c.in-Some.ensures.value first (with_message log m) c.admit_and_drain.new.out.items _ ended (sym done) (search rules)
    ∙ ap (λ (n : ℕ). own_reply (is_some first) (admitted_after log m) n
    (length c.admit_and_drain.new.self.progress.ledger.outcomes) (run_end (admitted_after log m) n) m) done)
    c.in_ok-stopped.ensures.run.both.failures

pub returns-in-Some-clause-noted : goal.returns-in-Some-clause-noted
returns-in-Some-clause-noted g c = λ honest honest_notes first log h existed noted.
    let m : Message = message_of c.args.message.now in
    let done = c.len-done.ensures.value ∙ h.memory.done in
    let ended = c.in_ok-stopped.ensures.drained honest first log h in
    subst (λ (n : ℕ). IsNoted (g.J.Journal.header c.args.stores.now.journal c.args.self.now.progress.name)
    c.args.self.now.progress.name (log_after log m n) c.admit_and_drain.new.self.progress.noted
    (g.J.Journal.notes c.admit_and_drain.new.stores.journal c.args.self.now.progress.name))
    (sym ended.drained.left.memory.done)
    (c.in_ok-stopped.ensures.noted honest honest_notes first log h existed noted)

pub returns-in_default-clause-served : goal.returns-in_default-clause-served
returns-in_default-clause-served g c = λ honest first log h.
    let m : Message = message_of c.args.message.now in
    let done = c.len-done.ensures.value ∙ h.memory.done in
    let ended = c.in_ok-stopped.ensures.drained honest first log h in
    serves first log m c.in_ok-stopped.stopped c.admit_and_drain.new.out.items (part_of c.admit_and_drain.new.self) _
    ended [] c.admit_and_drain.new.out.items _ _ (c.requires.name ∙ sym c.args.self.now.progress.same_name
    ∙ sym (ap (λ (x : Growing). x.name) c.admit_and_drain.ensures.take.growing))
    (sym (append-nil c.admit_and_drain.new.out.items))
    (c.in_default.ensures.value first (with_message log m) c.admit_and_drain.new.out.items _ ended (sym done) (search rules)
    ∙ ap (λ (n : ℕ). own_reply (is_some first) (admitted_after log m) n
    (length c.admit_and_drain.new.self.progress.ledger.outcomes) (run_end (admitted_after log m) n) m) done)
    c.in_ok-stopped.ensures.run.both.failures

pub returns-in_default-clause-noted : goal.returns-in_default-clause-noted
returns-in_default-clause-noted g c = λ honest honest_notes first log h existed noted.
    let m : Message = message_of c.args.message.now in
    let done = c.len-done.ensures.value ∙ h.memory.done in
    let ended = c.in_ok-stopped.ensures.drained honest first log h in
    subst (λ (n : ℕ). IsNoted (g.J.Journal.header c.args.stores.now.journal c.args.self.now.progress.name)
    c.args.self.now.progress.name (log_after log m n) c.admit_and_drain.new.self.progress.noted
    (g.J.Journal.notes c.admit_and_drain.new.stores.journal c.args.self.now.progress.name))
    (sym ended.drained.left.memory.done)
    (c.in_ok-stopped.ensures.noted honest honest_notes first log h existed noted)

pub returns-then-done-len-clause-asked : goal.returns-then-done-len-clause-asked
returns-then-done-len-clause-asked g c =
    let m : Message = message_of c.args.message.now in
    let long = c.len-done.ensures.value in
    let slots = c.len.ensures.value in
    let number = c.number.ensures.value in
    let past : length c.args.self.now.progress.ledger.outcomes + 16 ≤ m.number = search rules in
    inl (
      c.drain.result,
      subst (λ (a : Part). DoesRun g.S.TakeStore 16 c.drain.result a c.args.stores.now.store (part_of c.drain.new.self)
          c.drain.new.stores.store) (sym (holding_far (part_of c.args.self.now) m past))
          (run_from_none g.S.TakeStore c.args.out.now.items c.drain.result (part_of c.args.self.now)
          (part_of c.drain.new.self) c.args.stores.now.store c.drain.new.stores.store c.requires.empty
          c.drain.ensures.run.asked),
    )

pub returns-in-Some-clause-asked : goal.returns-in-Some-clause-asked
returns-in-Some-clause-asked g c = inl (c.in_ok-stopped.stopped, c.in_ok-stopped.ensures.run.asked)

pub returns-in_default-clause-asked : goal.returns-in_default-clause-asked
returns-in_default-clause-asked g c = inl (c.in_ok-stopped.stopped, c.in_ok-stopped.ensures.run.asked)

pub returns-then-done-len-clause-ordered : goal.returns-then-done-len-clause-ordered
returns-then-done-len-clause-ordered g c = λ honest honest_notes first log h existed noted order.
    let m : Message = message_of c.args.message.now in
    let long = c.len-done.ensures.value in
    let slots = c.len.ensures.value in
    let number = c.number.ensures.value in
    let past : length c.args.self.now.progress.ledger.outcomes + 16 ≤ m.number = search rules in
    let same = outside_not_new first log _ _ _ _ _ h m.number (inr past) in
    c.drain.ensures.ordered honest honest_notes first (with_message log m)
    (starts first log m (part_of c.args.self.now) _ h c.len.ensures.slots (part_of c.args.self.now)
    c.args.out.now.items (g.S.TakeStore.contents c.args.stores.now.store) c.args.self.now.progress.name
    c.args.self.now.progress.name c.requires.empty refl (part_same first log _ _ _ _ _ h m same)) existed
    (noted_start _ c.args.self.now.progress.name (with_message log m) c.args.self.now.progress.noted _
    c.args.out.now.items c.requires.empty
    (notes_same first log _ _ _ _ _ h m _ c.args.self.now.progress.name _ _ same noted)) order

pub returns-in-Some-clause-ordered : goal.returns-in-Some-clause-ordered
returns-in-Some-clause-ordered g c = c.in_ok-stopped.ensures.ordered

pub returns-in_default-clause-ordered : goal.returns-in_default-clause-ordered
returns-in_default-clause-ordered g c = c.in_ok-stopped.ensures.ordered

pub returns-in_err-stopped-clause-both : goal.returns-in_err-stopped-clause-both
returns-in_err-stopped-clause-both g c =
    let left = c.in_err-stopped.ensures.refused.left in
    uses_none g.S.TakeStore g.J.Journal c.args.self.now.progress.name c.args.stores.now.store
    c.admit_and_drain.new.stores.store c.args.stores.now.journal c.admit_and_drain.new.stores.journal _ _ _ left.store
    left.journal (ap length left.progress.outcomes) c.in_err-stopped.ensures.unreported

pub returns-in_err-stopped-clause-asked : goal.returns-in_err-stopped-clause-asked
returns-in_err-stopped-clause-asked g c =
    let left = c.in_err-stopped.ensures.refused.left in
    inr (left.store, left.progress.outcomes)

pub returns-in_err-stopped-clause-take : goal.returns-in_err-stopped-clause-take
returns-in_err-stopped-clause-take g c = c.admit_and_drain.ensures.take

pub returns-in_err-stopped-clause-reported : goal.returns-in_err-stopped-clause-reported
returns-in_err-stopped-clause-reported g c = c.admit_and_drain.ensures.reported

pub returns-in_err-stopped-clause-refused : goal.returns-in_err-stopped-clause-refused
returns-in_err-stopped-clause-refused g c =
    let answer = err_from_is_err_and c.from_residual.result c.from_residual.ensures.1 in
    rw answer.1 c.in_err-stopped.ensures.refused

pub returns-in_err-stopped-clause-unreported : goal.returns-in_err-stopped-clause-unreported
returns-in_err-stopped-clause-unreported g c =
    let answer = err_from_is_err_and c.from_residual.result c.from_residual.ensures.1 in
    rw answer.1 c.in_err-stopped.ensures.unreported

pub returns-in_default-clause-take : goal.returns-in_default-clause-take
returns-in_default-clause-take g c = c.admit_and_drain.ensures.take

pub returns-in_default-clause-reported : goal.returns-in_default-clause-reported
returns-in_default-clause-reported g c = c.admit_and_drain.ensures.reported

pub returns-in-Some-clause-take : goal.returns-in-Some-clause-take
returns-in-Some-clause-take g c = c.admit_and_drain.ensures.take

pub returns-in-Some-clause-few : goal.returns-in-Some-clause-few
returns-in-Some-clause-few g c =
    let few = c.admit_and_drain.ensures.few in
    let more = ap length c.push-in-Some.ensures.items ∙ length_push c.admit_and_drain.new.out.items c.in-Some.reply in
    omega (arith, few, more)

pub returns-in-Some-clause-reported : goal.returns-in-Some-clause-reported
returns-in-Some-clause-reported g c =
    subst (All IsServing) (sym c.push-in-Some.ensures.items)
    (All-push IsServing c.admit_and_drain.new.out.items c.in-Some.reply c.admit_and_drain.ensures.reported
    c.in-Some.ensures.served)

pub returns-then-done-len-clause-take : goal.returns-then-done-len-clause-take
returns-then-done-len-clause-take g c = c.drain.ensures.take

pub returns-then-done-len-clause-few : goal.returns-then-done-len-clause-few
returns-then-done-len-clause-few g c =
    let few = c.drain.ensures.few in
    let more = ap length c.push.ensures.items ∙ length_push c.drain.new.out.items c.notice.result in
    omega (arith, few, more)

pub returns-then-done-len-clause-reported : goal.returns-then-done-len-clause-reported
returns-then-done-len-clause-reported g c =
    subst (All IsServing) (sym c.push.ensures.items)
    (All-push IsServing c.drain.new.out.items c.notice.result
    (c.drain.ensures.served (all_none IsServing c.args.out.now.items c.requires.empty)) (search rules))
