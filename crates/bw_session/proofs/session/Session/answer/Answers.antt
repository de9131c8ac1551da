use Rattle.std.proofs.Common.{◌≡◌, ◌++◌, ℕ, List, [], ◌∷◌, true, false, length, map, refl, sym, ◌∙◌, ap, subst, Bool, cond, Option}
use Rattle.bw_model.specs.Wire.{Message}
use Rattle.bw_model.specs.Replies as model
use Rattle.bw_model.specs.Turn.{notice, is_turned_away}
use Rattle.bw_wire.specs.Frames.{message_of}
use Rattle.bw_wire.specs.Replies.{reply_of}
use Rattle.bw_wire.specs.declared.reply.Reply.{Reply}
use Rattle.bw_session.specs.NextNumbers.{failed_calls}
use Rattle.bw_session.specs.Sessions.{part_of}
use Rattle.bw_session.specs.NameNotes.{IsNoted}
use Rattle.bw_session.specs.ServedMessages.{Answers, log_after}
use Rattle.bw_session.proofs.AnswerForms.{answers_served, answers_refused, same_part, served_here, none_away}
use Rattle.bw_session.proofs.UseForms.{timely_push, timely_notice}
use Rattle.bw_session.specs.WriteOrders.{FileComesFirst, NextIsCarriedOut}
use Rattle.bw_session.proofs.AskForms.{part_kept}
use Rattle.bw_session.proofs.OrderForms.{order_as}
use Rattle.bw_session.proofs.session.Session.answer.Goals as goal

pub returns-in_default-clause-answers : goal.returns-in_default-clause-answers
returns-in_default-clause-answers g c = λ honest first log h.
    answers_served true false first log (message_of c.args.message.now) refl refl _ _ c.serve.new.out.items
    (part_of c.serve.new.self) _ (c.in_default.ensures.served honest first log h)

pub returns-in-Err-clause-both : goal.returns-in-Err-clause-both
returns-in-Err-clause-both g c =
    let both = c.serve.ensures.both in (
      both.0,
      both.1,
      both.2,
      timely_push both.0 c.serve.new.out.items c.push.new.self.items c.notice.result c.push.ensures.items both.3
          (timely_notice both.0 c.notice.result _ _ _ _ c.notice.ensures.value refl),
    )

pub returns-in-Err-clause-answers : goal.returns-in-Err-clause-answers
returns-in-Err-clause-answers g c = λ honest first log h.
    let m : Message = message_of c.args.message.now in
    let e = c.in-Err.ensures in
    let next : length c.serve.new.self.progress.ledger.outcomes ≡ log.done =
    ap length e.refused.left.progress.outcomes ∙ h.memory.done in
    let reported : map reply_of c.push.new.self.items ≡ notice m model.NoRoom log.done =
    ap (map reply_of) (c.push.ensures.items ∙ ap (λ (rs : List Reply). rs ++ c.notice.result ∷ []) e.unreported)
    ∙ ap (λ (r : model.Reply). r ∷ []) (c.notice.ensures.value
    ∙ ap (model.Noticed m.name m.number model.NoRoom) next) in
    let before : ℕ = failed_calls (g.S.TakeStore.failures c.args.stores.now.store)
    (g.J.Journal.failures c.args.stores.now.journal) in
    subst (λ (j : _). Answers true false first log m before (failed_calls (g.S.TakeStore.failures c.serve.new.stores.store)
    (g.J.Journal.failures j)) c.push.new.self.items (part_of c.serve.new.self)
    (g.S.TakeStore.contents c.serve.new.stores.store c.args.self.now.progress.name)) (sym e.refused.left.journal)
    (subst (λ (s : _). Answers true false first log m before (failed_calls (g.S.TakeStore.failures s)
    (g.J.Journal.failures c.args.stores.now.journal)) c.push.new.self.items (part_of c.serve.new.self)
    (g.S.TakeStore.contents s c.args.self.now.progress.name)) (sym e.refused.left.store)
    (answers_refused true false first log m refl refl before c.push.new.self.items (part_of c.serve.new.self) _
    (e.refused.refused first log _ h) reported
    (same_part first log c.args.self.now c.serve.new.self _ e.refused.left.progress e.refused.left.window h)))

pub returns-in_default-clause-noted : goal.returns-in_default-clause-noted
returns-in_default-clause-noted g c = λ honest honest_notes first log h existed noted.
    let m : Message = message_of c.args.message.now in
    subst (λ (b : Bool). IsNoted (g.J.Journal.header c.args.stores.now.journal c.args.self.now.progress.name)
    c.args.self.now.progress.name
    (cond b log (log_after log m (length c.serve.new.self.progress.ledger.outcomes)))
    c.serve.new.self.progress.noted (g.J.Journal.notes c.serve.new.stores.journal c.args.self.now.progress.name))
    (sym (none_away c.serve.new.out.items c.in_default.ensures.reported))
    (c.in_default.ensures.noted honest honest_notes first log h existed noted)

pub returns-in-Err-clause-noted : goal.returns-in-Err-clause-noted
returns-in-Err-clause-noted g c = λ honest honest_notes first log h existed noted.
    let m : Message = message_of c.args.message.now in
    let e = c.in-Err.ensures in
    let reported : map reply_of c.push.new.self.items ≡ reply_of c.notice.result ∷ [] =
    ap (map reply_of) (c.push.ensures.items ∙ ap (λ (rs : List Reply). rs ++ c.notice.result ∷ []) e.unreported) in
    let away : is_turned_away (map reply_of c.push.new.self.items) ≡ true =
    ap is_turned_away (reported ∙ ap (λ (r : model.Reply). r ∷ []) c.notice.ensures.value) in
    subst (λ (b : Bool). IsNoted (g.J.Journal.header c.args.stores.now.journal c.args.self.now.progress.name)
    c.args.self.now.progress.name
    (cond b log (log_after log m (length c.serve.new.self.progress.ledger.outcomes)))
    c.serve.new.self.progress.noted (g.J.Journal.notes c.serve.new.stores.journal c.args.self.now.progress.name))
    (sym away)
    (subst (λ (n : ℕ). IsNoted (g.J.Journal.header c.args.stores.now.journal c.args.self.now.progress.name)
    c.args.self.now.progress.name log n
    (g.J.Journal.notes c.serve.new.stores.journal c.args.self.now.progress.name)) (sym e.refused.left.progress.noted)
    (subst (λ (j : _). IsNoted (g.J.Journal.header c.args.stores.now.journal c.args.self.now.progress.name)
    c.args.self.now.progress.name log c.args.self.now.progress.noted
    (g.J.Journal.notes j c.args.self.now.progress.name)) (sym e.refused.left.journal) noted))

pub returns-in_default-clause-uncalled : goal.returns-in_default-clause-uncalled
returns-in_default-clause-uncalled g c = λ away. served_here c.serve.new.out.items c.in_default.ensures.reported away

pub returns-in-Err-clause-uncalled : goal.returns-in-Err-clause-uncalled
returns-in-Err-clause-uncalled g c = λ away. c.in-Err.ensures.refused.left

pub returns-in_default-clause-ordered : goal.returns-in_default-clause-ordered
returns-in_default-clause-ordered g c = c.in_default.ensures.ordered

pub returns-in-Err-clause-ordered : goal.returns-in-Err-clause-ordered
returns-in-Err-clause-ordered g c = λ honest honest_notes first log h existed noted order.
    let name : List ℕ = c.args.self.now.progress.name in
    let head = g.J.Journal.header c.args.stores.now.journal name in
    let left = c.in-Err.ensures.refused.left in
    let same : part_of c.serve.new.self ≡ part_of c.args.self.now =
    part_kept c.args.self.now c.serve.new.self left.progress
    ∙ ap (λ (w : List (Option (List ℕ))). record (part_of c.args.self.now) { window = w }) left.window in
    subst (λ (s : _). FileComesFirst head first name c.serve.new.self.progress.noted
    (NextIsCarriedOut (part_of c.serve.new.self)) (g.J.Journal.notes c.serve.new.stores.journal name)
    (g.S.TakeStore.contents s name)) (sym left.store)
    (subst (λ (j : _). FileComesFirst head first name c.serve.new.self.progress.noted
    (NextIsCarriedOut (part_of c.serve.new.self)) (g.J.Journal.notes j name)
    (g.S.TakeStore.contents c.args.stores.now.store name)) (sym left.journal)
    (subst (λ (n : ℕ). FileComesFirst head first name n (NextIsCarriedOut (part_of c.serve.new.self))
    (g.J.Journal.notes c.args.stores.now.journal name) (g.S.TakeStore.contents c.args.stores.now.store name))
    (sym left.progress.noted)
    (order_as _ _ _ _ _ _ _ _ (subst NextIsCarriedOut (sym same)) order)))
