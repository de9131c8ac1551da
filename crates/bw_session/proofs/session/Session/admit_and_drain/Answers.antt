use Rattle.std.proofs.lemmas.Result.{err_from_is_err_and}
use Rattle.std.proofs.Common.{rules, ◌≡◌, ◌+◌, false, length, refl, sym, ◌∙◌, ap, subst, arith}
use Rattle.bw_model.specs.Wire.{Message}
use Rattle.bw_session.specs.declared.borrowing.Tried.{Tried}
use Rattle.bw_file.specs.GrowingFiles.{Growing}
use Rattle.bw_wire.specs.Frames.{message_of}
use Rattle.bw_session.specs.AdmittedMessages.{with_message}
use Rattle.bw_session.specs.NextNumbers.{KeepsBoth}
use Rattle.bw_session.specs.Drains.{DrainsNext, drained_by, drained_log, drained_count, is_stopped}
use Rattle.bw_session.specs.NameNotes.{IsNoted}
use Rattle.bw_session.specs.Sessions.{part_of}
use Rattle.bw_session.specs.Runs.{with_more_done}
use Rattle.bw_session.proofs.RunForms.{both_then, noted_then}
use Rattle.bw_session.proofs.PromiseForms.{run_since, runs_from_none}
use Rattle.bw_session.specs.ServedReplies.{IsServing, IsTimely}
use Rattle.bw_session.proofs.UseForms.{all_none}
use Rattle.bw_session.proofs.ServeForms.{starts, starts_done, stops_at_once, ends_under, noted_start, noted_one}
use Rattle.std.proofs.Common.{List, Option, ℕ}
use Rattle.bw_session.specs.ConsecutiveCalls.{AsksNext, holding}
use Rattle.bw_session.proofs.AskForms.{run_after, run_tried, part_kept, run_from_one}
use Rattle.bw_session.specs.WriteOrders.{FileComesFirst, NextIsCarriedOut}
use Rattle.bw_session.proofs.OrderForms.{order_as, order_then}
use Rattle.bw_session.proofs.OrderSteps.{holding_carried}
use Rattle.bw_session.proofs.session.Session.admit_and_drain.Goals as goal

pub returns-then-is_held-clause-drained : goal.returns-then-is_held-clause-drained
returns-then-is_held-clause-drained g c = λ honest first log h.
    let m : Message = message_of c.args.message.now in
    let kept = c.in_ok-admit.ensures.progress in
    ends_under first (with_message log m) c.drain.result _ _ (g.S.TakeStore.contents c.drain.new.stores.store)
    c.admit.new.self.progress.name _ kept.name
    (c.drain.ensures.drained honest first (with_message log m)
    (starts first log m (part_of c.args.self.now) _ h c.get.ensures.slots (part_of c.admit.new.self)
    c.args.out.now.items (g.S.TakeStore.contents c.args.stores.now.store) c.args.self.now.progress.name
    c.admit.new.self.progress.name c.requires.empty (sym kept.name) (c.in_ok-admit.ensures.ok first log _ h)))

pub returns-then-is_held-clause-noted : goal.returns-then-is_held-clause-noted
returns-then-is_held-clause-noted g c = λ honest honest_notes first log h existed noted.
    let m : Message = message_of c.args.message.now in
    let kept = c.in_ok-admit.ensures.progress in
    noted_then c.admit.new.self.progress.name c.args.self.now.progress.name
    (g.J.Journal.header c.args.stores.now.journal) _ first
    (with_more_done (with_message log m) (length c.args.out.now.items))
    (with_more_done (with_message log m) (length c.drain.new.out.items)) c.admit.new.self.progress.noted _
    (g.J.Journal.notes c.args.stores.now.journal) (g.J.Journal.notes c.drain.new.stores.journal) kept.name refl
    (c.drain.ensures.noted honest honest_notes first (with_message log m)
    (starts first log m (part_of c.args.self.now) _ h c.get.ensures.slots (part_of c.admit.new.self)
    c.args.out.now.items (g.S.TakeStore.contents c.args.stores.now.store) c.args.self.now.progress.name
    c.admit.new.self.progress.name c.requires.empty (sym kept.name) (c.in_ok-admit.ensures.ok first log _ h)))
    existed
    (noted_start _ c.args.self.now.progress.name (with_message log m) c.admit.new.self.progress.noted _
    c.args.out.now.items c.requires.empty (c.in_ok-admit.ensures.noted first log _ _ _ h noted))

pub returns-in-Done-clause-drained : goal.returns-in-Done-clause-drained
returns-in-Done-clause-drained g c = λ honest first log h.
    let m : Message = message_of c.args.message.now in
    let take = c.in_ok-verdict.ensures.take in
    let both = c.in_ok-verdict.ensures.tried.both in
    let next = subst (λ (a : Tried). DrainsNext (drained_by a) first (with_message log m)
    c.do_next.new.self.progress.state.parts c.do_next.new.self.progress.ledger.outcomes c.do_next.new.self.window
    c.do_next.new.self.progress.growing
    (g.S.TakeStore.contents c.do_next.new.stores.store c.args.self.now.progress.name)) c.in-Done.is
    (c.in_ok-verdict.ensures.drained honest first log h) in
    ends_under first (with_message log m) c.drain-in-Done.result _ _
    (g.S.TakeStore.contents c.drain-in-Done.new.stores.store) c.do_next.new.self.progress.name _ take.name
    (c.drain-in-Done.ensures.drained (both.honest ∙ honest) first (with_message log m)
    (starts_done first log m (part_of c.args.self.now) _ h c.get.ensures.slots c.number-in-Done.result c.in-Done.verdict
    c.name.result c.push.new.self.items c.args.out.now.items (part_of c.do_next.new.self)
    (g.S.TakeStore.contents c.do_next.new.stores.store) c.args.self.now.progress.name
    c.do_next.new.self.progress.name c.requires.empty c.push.ensures.items
    (ap (λ (x : Growing). x.name) take.growing ∙ c.args.self.now.progress.same_name ∙ sym c.requires.name
    ∙ sym c.name.ensures) (search rules) (sym take.name) next))

pub returns-in-Done-clause-noted : goal.returns-in-Done-clause-noted
returns-in-Done-clause-noted g c = λ honest honest_notes first log h existed noted.
    let m : Message = message_of c.args.message.now in
    let take = c.in_ok-verdict.ensures.take in
    let both = c.in_ok-verdict.ensures.tried.both in
    let next = subst (λ (a : Tried). DrainsNext (drained_by a) first (with_message log m)
    c.do_next.new.self.progress.state.parts c.do_next.new.self.progress.ledger.outcomes c.do_next.new.self.window
    c.do_next.new.self.progress.growing
    (g.S.TakeStore.contents c.do_next.new.stores.store c.args.self.now.progress.name)) c.in-Done.is
    (c.in_ok-verdict.ensures.drained honest first log h) in
    let one = subst (λ (a : Tried).
    IsNoted (g.J.Journal.header c.args.stores.now.journal c.args.self.now.progress.name)
    c.args.self.now.progress.name (drained_log (drained_by a) (with_message log m))
    c.do_next.new.self.progress.noted
    (g.J.Journal.notes c.do_next.new.stores.journal c.args.self.now.progress.name)) c.in-Done.is
    (c.in_ok-verdict.ensures.noted honest honest_notes first log h existed noted) in
    noted_then c.do_next.new.self.progress.name c.args.self.now.progress.name
    (g.J.Journal.header c.do_next.new.stores.journal) _ first
    (with_more_done (with_message log m) (length c.push.new.self.items))
    (with_more_done (with_message log m) (length c.drain-in-Done.new.out.items)) c.do_next.new.self.progress.noted _
    (g.J.Journal.notes c.do_next.new.stores.journal) (g.J.Journal.notes c.drain-in-Done.new.stores.journal) take.name
    (both.headers honest_notes c.args.self.now.progress.name)
    (c.drain-in-Done.ensures.noted (both.honest ∙ honest) (both.honest_notes ∙ honest_notes) first (with_message log m)
    (starts_done first log m (part_of c.args.self.now) _ h c.get.ensures.slots c.number-in-Done.result c.in-Done.verdict
    c.name.result c.push.new.self.items c.args.out.now.items (part_of c.do_next.new.self)
    (g.S.TakeStore.contents c.do_next.new.stores.store) c.args.self.now.progress.name
    c.do_next.new.self.progress.name c.requires.empty c.push.ensures.items
    (ap (λ (x : Growing). x.name) take.growing ∙ c.args.self.now.progress.same_name ∙ sym c.requires.name
    ∙ sym c.name.ensures) (search rules) (sym take.name) next))
    existed
    (noted_one _ c.args.self.now.progress.name (with_message log m) c.do_next.new.self.progress.noted _ _
    c.push.new.self.items c.args.out.now.items c.requires.empty c.push.ensures.items one)

pub returns-in-Held-clause-drained : goal.returns-in-Held-clause-drained
returns-in-Held-clause-drained g c = λ honest first log h.
    let m : Message = message_of c.args.message.now in
    stops_at_once first log m (part_of c.args.self.now) _ h c.get.ensures.slots c.args.out.now.items
    (part_of c.do_next.new.self) (g.S.TakeStore.contents c.do_next.new.stores.store) c.args.self.now.progress.name
    c.args.self.now.progress.name c.requires.empty refl
    (subst (λ (a : Tried). DrainsNext (drained_by a) first (with_message log m)
    c.do_next.new.self.progress.state.parts c.do_next.new.self.progress.ledger.outcomes c.do_next.new.self.window
    c.do_next.new.self.progress.growing
    (g.S.TakeStore.contents c.do_next.new.stores.store c.args.self.now.progress.name)) c.in-Held.is
    (c.in_ok-verdict.ensures.drained honest first log h))

pub returns-in-Held-clause-noted : goal.returns-in-Held-clause-noted
returns-in-Held-clause-noted g c = λ honest honest_notes first log h existed noted.
    let m : Message = message_of c.args.message.now in
    noted_start _ c.args.self.now.progress.name (with_message log m) c.do_next.new.self.progress.noted _
    c.args.out.now.items c.requires.empty
    (subst (λ (a : Tried).
    IsNoted (g.J.Journal.header c.args.stores.now.journal c.args.self.now.progress.name)
    c.args.self.now.progress.name (drained_log (drained_by a) (with_message log m))
    c.do_next.new.self.progress.noted
    (g.J.Journal.notes c.do_next.new.stores.journal c.args.self.now.progress.name)) c.in-Held.is
    (c.in_ok-verdict.ensures.noted honest honest_notes first log h existed noted))

pub do_next-requires-clause-free : goal.do_next-requires-clause-free
do_next-requires-clause-free g c = search rules

pub returns-then-is_held-clause-run : goal.returns-then-is_held-clause-run
returns-then-is_held-clause-run g c =
    run_since g.S.TakeStore g.J.Journal 16 c.drain.result (holding (part_of c.args.self.now) (message_of c.args.message.now))
    c.args.self.now c.admit.new.self c.drain.new.self c.args.stores.now c.drain.new.stores
    c.in_ok-admit.ensures.progress
    (part_kept c.args.self.now c.admit.new.self c.in_ok-admit.ensures.progress
    ∙ ap (λ (w : List (Option (List ℕ))). record (part_of c.args.self.now) { window = w }) c.in_ok-admit.ensures.held)
    (runs_from_none g.S.TakeStore g.J.Journal c.args.out.now.items c.drain.result (part_of c.admit.new.self)
    c.admit.new.self c.drain.new.self c.args.stores.now c.drain.new.stores c.requires.empty c.drain.ensures.run)

pub returns-in-Done-clause-run : goal.returns-in-Done-clause-run
returns-in-Done-clause-run g c =
    let m : Message = message_of c.args.message.now in
    let first = subst (λ (a : Tried). AsksNext g.S.TakeStore (drained_by a)
    (holding (part_of c.args.self.now) m) c.args.stores.now.store (part_of c.do_next.new.self)
    c.do_next.new.stores.store) c.in-Done.is c.in_ok-verdict.ensures.asked in
    let done = subst (λ (a : Tried). length c.do_next.new.self.progress.ledger.outcomes
    ≡ length c.args.self.now.progress.ledger.outcomes + drained_count (drained_by a)) c.in-Done.is
    c.in_ok-verdict.ensures.tried.done in
    let both = subst (λ (a : Tried). KeepsBoth g.S.TakeStore g.J.Journal (is_stopped (drained_by a))
    c.args.self.now.progress.name c.args.stores.now.store c.do_next.new.stores.store c.args.stores.now.journal
    c.do_next.new.stores.journal) c.in-Done.is c.in_ok-verdict.ensures.tried.both in
    let run = c.drain-in-Done.ensures.run in
    let before = c.in_ok-verdict.ensures.tried.calls in
    let later = run.calls in
    record {
      both = both_then g.S.TakeStore g.J.Journal _ _ _ _ _ _ _ _ _ c.in_ok-verdict.ensures.take.name both run.both;
      calls = omega (arith, done, before, later);
      asked = run_after g.S.TakeStore 15 c.drain-in-Done.result (holding (part_of c.args.self.now) m)
          (part_of c.do_next.new.self) (part_of c.drain-in-Done.new.self) c.args.stores.now.store
          c.do_next.new.stores.store c.drain-in-Done.new.stores.store first
          (run_from_one g.S.TakeStore c.args.out.now.items c.push.new.self.items _ c.drain-in-Done.result
          (part_of c.do_next.new.self) (part_of c.drain-in-Done.new.self) c.do_next.new.stores.store
          c.drain-in-Done.new.stores.store c.requires.empty c.push.ensures.items run.asked);
    }

pub returns-in-Held-clause-run : goal.returns-in-Held-clause-run
returns-in-Held-clause-run g c =
    let m : Message = message_of c.args.message.now in
    let done = subst (λ (a : Tried). length c.do_next.new.self.progress.ledger.outcomes
    ≡ length c.args.self.now.progress.ledger.outcomes + drained_count (drained_by a)) c.in-Held.is
    c.in_ok-verdict.ensures.tried.done in
    let before = c.in_ok-verdict.ensures.tried.calls in
    record {
      both = subst (λ (a : Tried). KeepsBoth g.S.TakeStore g.J.Journal (is_stopped (drained_by a))
          c.args.self.now.progress.name c.args.stores.now.store c.do_next.new.stores.store c.args.stores.now.journal
          c.do_next.new.stores.journal) c.in-Held.is c.in_ok-verdict.ensures.tried.both;
      calls = omega (arith, done, before);
      asked = run_tried g.S.TakeStore 16 (holding (part_of c.args.self.now) m) (part_of c.do_next.new.self)
          c.args.stores.now.store c.do_next.new.stores.store
          (subst (λ (a : Tried). AsksNext g.S.TakeStore (drained_by a)
          (holding (part_of c.args.self.now) m) c.args.stores.now.store (part_of c.do_next.new.self)
          c.do_next.new.stores.store) c.in-Held.is c.in_ok-verdict.ensures.asked);
    }

pub returns-in_err-admit-clause-refused : goal.returns-in_err-admit-clause-refused
returns-in_err-admit-clause-refused g c =
    let answer = err_from_is_err_and c.from_residual.result c.from_residual.ensures.1 in
    rw answer.1 (record {
      left = record { store = refl; journal = refl; progress = c.admit.ensures.progress; window = search rules };
      refused = c.in_err-admit.ensures.refused;
    })

pub returns-in_err-verdict-clause-refused : goal.returns-in_err-verdict-clause-refused
returns-in_err-verdict-clause-refused g c =
    let answer = err_from_is_err_and c.from_residual-in_err-verdict.result c.from_residual-in_err-verdict.ensures.1 in
    rw answer.1 c.in_err-verdict.ensures.refused

pub returns-then-is_held-clause-ordered : goal.returns-then-is_held-clause-ordered
returns-then-is_held-clause-ordered g c = λ honest honest_notes first log h existed noted order.
    let m : Message = message_of c.args.message.now in
    let kept = c.in_ok-admit.ensures.progress in
    let held = part_kept c.args.self.now c.admit.new.self kept
    ∙ ap (λ (w : List (Option (List ℕ))). record (part_of c.args.self.now) { window = w }) c.in_ok-admit.ensures.held in
    order_then c.admit.new.self.progress.name c.args.self.now.progress.name
    (g.J.Journal.header c.args.stores.now.journal) _ first
    (with_more_done (with_message log m) (length c.args.out.now.items)) c.admit.new.self.progress.noted _ _ _
    (g.J.Journal.notes c.args.stores.now.journal) (g.J.Journal.notes c.drain.new.stores.journal)
    (g.S.TakeStore.contents c.args.stores.now.store) (g.S.TakeStore.contents c.drain.new.stores.store) kept.name refl
    (c.drain.ensures.ordered honest honest_notes first (with_message log m)
    (starts first log m (part_of c.args.self.now) _ h c.get.ensures.slots (part_of c.admit.new.self)
    c.args.out.now.items (g.S.TakeStore.contents c.args.stores.now.store) c.args.self.now.progress.name
    c.admit.new.self.progress.name c.requires.empty (sym kept.name) (c.in_ok-admit.ensures.ok first log _ h)))
    existed
    (noted_start _ c.args.self.now.progress.name (with_message log m) c.admit.new.self.progress.noted _
    c.args.out.now.items c.requires.empty (c.in_ok-admit.ensures.noted first log _ _ _ h noted))
    (subst (λ (n : ℕ). FileComesFirst (g.J.Journal.header c.args.stores.now.journal c.args.self.now.progress.name) first
    c.args.self.now.progress.name n (NextIsCarriedOut (part_of c.admit.new.self))
    (g.J.Journal.notes c.args.stores.now.journal c.args.self.now.progress.name)
    (g.S.TakeStore.contents c.args.stores.now.store c.args.self.now.progress.name)) (sym kept.noted)
    (order_as _ _ _ _ _ _ _ _ (holding_carried (part_of c.args.self.now) (part_of c.admit.new.self)
    (length c.args.self.now.progress.ledger.outcomes) m held) order))

pub returns-in-Done-clause-ordered : goal.returns-in-Done-clause-ordered
returns-in-Done-clause-ordered g c = λ honest honest_notes first log h existed noted order.
    let m : Message = message_of c.args.message.now in
    let take = c.in_ok-verdict.ensures.take in
    let both = c.in_ok-verdict.ensures.tried.both in
    let next = subst (λ (a : Tried). DrainsNext (drained_by a) first (with_message log m)
    c.do_next.new.self.progress.state.parts c.do_next.new.self.progress.ledger.outcomes c.do_next.new.self.window
    c.do_next.new.self.progress.growing
    (g.S.TakeStore.contents c.do_next.new.stores.store c.args.self.now.progress.name)) c.in-Done.is
    (c.in_ok-verdict.ensures.drained honest first log h) in
    let one = subst (λ (a : Tried).
    IsNoted (g.J.Journal.header c.args.stores.now.journal c.args.self.now.progress.name)
    c.args.self.now.progress.name (drained_log (drained_by a) (with_message log m))
    c.do_next.new.self.progress.noted
    (g.J.Journal.notes c.do_next.new.stores.journal c.args.self.now.progress.name)) c.in-Done.is
    (c.in_ok-verdict.ensures.noted honest honest_notes first log h existed noted) in
    order_then c.do_next.new.self.progress.name c.args.self.now.progress.name
    (g.J.Journal.header c.do_next.new.stores.journal) _ first
    (with_more_done (with_message log m) (length c.push.new.self.items)) c.do_next.new.self.progress.noted _ _ _
    (g.J.Journal.notes c.do_next.new.stores.journal) (g.J.Journal.notes c.drain-in-Done.new.stores.journal)
    (g.S.TakeStore.contents c.do_next.new.stores.store) (g.S.TakeStore.contents c.drain-in-Done.new.stores.store) take.name
    (both.headers honest_notes c.args.self.now.progress.name)
    (c.drain-in-Done.ensures.ordered (both.honest ∙ honest) (both.honest_notes ∙ honest_notes) first (with_message log m)
    (starts_done first log m (part_of c.args.self.now) _ h c.get.ensures.slots c.number-in-Done.result c.in-Done.verdict
    c.name.result c.push.new.self.items c.args.out.now.items (part_of c.do_next.new.self)
    (g.S.TakeStore.contents c.do_next.new.stores.store) c.args.self.now.progress.name
    c.do_next.new.self.progress.name c.requires.empty c.push.ensures.items
    (ap (λ (x : Growing). x.name) take.growing ∙ c.args.self.now.progress.same_name ∙ sym c.requires.name
    ∙ sym c.name.ensures) (search rules) (sym take.name) next))
    existed
    (noted_one _ c.args.self.now.progress.name (with_message log m) c.do_next.new.self.progress.noted _ _
    c.push.new.self.items c.args.out.now.items c.requires.empty c.push.ensures.items one)
    (c.in_ok-verdict.ensures.ordered honest honest_notes first log h existed noted order)

pub returns-in-Held-clause-ordered : goal.returns-in-Held-clause-ordered
returns-in-Held-clause-ordered g c = c.in_ok-verdict.ensures.ordered

pub returns-in_err-admit-clause-reported : goal.returns-in_err-admit-clause-reported
returns-in_err-admit-clause-reported g c = all_none IsServing c.args.out.now.items c.requires.empty

pub returns-in_err-admit-clause-timely : goal.returns-in_err-admit-clause-timely
returns-in_err-admit-clause-timely g c = all_none (IsTimely false) c.args.out.now.items c.requires.empty

pub returns-in_err-verdict-clause-reported : goal.returns-in_err-verdict-clause-reported
returns-in_err-verdict-clause-reported g c = all_none IsServing c.args.out.now.items c.requires.empty

pub returns-in_err-verdict-clause-timely : goal.returns-in_err-verdict-clause-timely
returns-in_err-verdict-clause-timely g c = all_none (IsTimely false) c.args.out.now.items c.requires.empty

pub returns-in-Held-clause-reported : goal.returns-in-Held-clause-reported
returns-in-Held-clause-reported g c = all_none IsServing c.args.out.now.items c.requires.empty

pub returns-in-Held-clause-timely : goal.returns-in-Held-clause-timely
returns-in-Held-clause-timely g c = all_none (IsTimely false) c.args.out.now.items c.requires.empty

pub returns-in_err-verdict-clause-take : goal.returns-in_err-verdict-clause-take
returns-in_err-verdict-clause-take g c = c.do_next.ensures.take

pub returns-in-Held-clause-take : goal.returns-in-Held-clause-take
returns-in-Held-clause-take g c = c.do_next.ensures.take

pub returns-then-is_held-clause-few : goal.returns-then-is_held-clause-few
returns-then-is_held-clause-few g c = c.drain.ensures.few

pub returns-then-is_held-clause-reported : goal.returns-then-is_held-clause-reported
returns-then-is_held-clause-reported g c = c.drain.ensures.served (all_none IsServing c.args.out.now.items c.requires.empty)

pub returns-then-is_held-clause-timely : goal.returns-then-is_held-clause-timely
returns-then-is_held-clause-timely g c = c.drain.ensures.timely (all_none (IsTimely false) c.args.out.now.items c.requires.empty)

pub returns-in-Done-clause-few : goal.returns-in-Done-clause-few
returns-in-Done-clause-few g c = c.drain-in-Done.ensures.few
