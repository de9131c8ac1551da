use Rattle.std.proofs.Common.{rules, inl, inr, ◌≡◌, ◌+◌, ◌≤◌, ℕ, suc, false, length, refl, sym, ◌∙◌, ap, subst, arith}
use Rattle.std.specs.Prelude.{is_some}
use Rattle.std.specs.List.{All}
use Rattle.std.proofs.lemmas.List.{length_push}
use Rattle.std.proofs.lemmas.List.Elements.{All-append, All-push}
use Rattle.bw_model.specs.Wire.{Second, last_number}
use Rattle.bw_file.specs.GrowingFiles.{Growing}
use Rattle.bw_session.specs.ServedReplies.{IsServing, IsTimely}
use Rattle.bw_session.specs.NameNotes.{IsNoted}
use Rattle.bw_session.specs.NextNumbers.{with_done}
use Rattle.bw_session.specs.Sessions.{part_of}
use Rattle.bw_session.specs.Runs.{with_more_done}
use Rattle.bw_session.proofs.RunForms.{both_then, holds_under, noted_then, drained_push, drained_end}
use Rattle.bw_session.proofs.OrderForms.{order_then}
use Rattle.bw_session.proofs.session.Session.drain.Goals as goal

pub returns-in-Idle-clause-noted : goal.returns-in-Idle-clause-noted
returns-in-Idle-clause-noted g c = λ honest honest_notes first log h existed noted.
    let loop = c.loop-slot.invariant in
    let drained = loop.drained honest first log h in
    noted_then c.loop-slot.self.progress.name c.args.self.now.progress.name
    (g.J.Journal.header c.loop-slot.stores.journal) _ first (with_more_done log (length c.loop-slot.out.items)) _
    c.loop-slot.self.progress.noted _ (g.J.Journal.notes c.loop-slot.stores.journal)
    (g.J.Journal.notes c.drain_one.new.stores.journal) loop.take.name
    (loop.both.headers honest_notes c.args.self.now.progress.name)
    (c.in-Idle.ensures.noted (loop.both.honest ∙ honest) (loop.both.honest_notes ∙ honest_notes) first
    (with_more_done log (length c.loop-slot.out.items))
    (holds_under first _ _ (g.S.TakeStore.contents c.loop-slot.stores.store) _ _ (sym loop.take.name) drained.left))
    existed (loop.noted honest honest_notes first log h existed noted)

pub returns-in-Stopped-clause-noted : goal.returns-in-Stopped-clause-noted
returns-in-Stopped-clause-noted g c = λ honest honest_notes first log h existed noted.
    let loop = c.loop-slot.invariant in
    let drained = loop.drained honest first log h in
    noted_then c.loop-slot.self.progress.name c.args.self.now.progress.name
    (g.J.Journal.header c.loop-slot.stores.journal) _ first (with_more_done log (length c.loop-slot.out.items)) _
    c.loop-slot.self.progress.noted _ (g.J.Journal.notes c.loop-slot.stores.journal)
    (g.J.Journal.notes c.drain_one.new.stores.journal) loop.take.name
    (loop.both.headers honest_notes c.args.self.now.progress.name)
    (c.in-Stopped.ensures.noted (loop.both.honest ∙ honest) (loop.both.honest_notes ∙ honest_notes) first
    (with_more_done log (length c.loop-slot.out.items))
    (holds_under first _ _ (g.S.TakeStore.contents c.loop-slot.stores.store) _ _ (sym loop.take.name) drained.left))
    existed (loop.noted honest honest_notes first log h existed noted)

pub loop-slot-preserved : goal.loop-slot-preserved
loop-slot-preserved g c =
    let tried : c.len-number.result ≤ last_number Second =
    subst (λ (n : ℕ). n ≤ last_number Second) (sym c.len-number.ensures.value) c.in-Done.ensures.number in
    let more = ap length c.push.ensures.items ∙ length_push c.loop-slot.out.items _ in
    record {
      both = both_then g.S.TakeStore g.J.Journal _ _ _ _ _ _ _ _ _ c.loop-slot.invariant.take.name
          c.loop-slot.invariant.both c.in-Done.ensures.both;
      calls = let before = c.loop-slot.invariant.calls in
          let now = c.in-Done.ensures.calls in
          let done = c.in-Done.ensures.done in
          omega (arith, done, before, now);
      reached = let far = c.loop-slot.invariant.reached in
          omega (arith, far);
      asked = (
        suc c.loop-slot.invariant.asked.0,
        (part_of c.loop-slot.self, c.loop-slot.stores.store, c.loop-slot.invariant.asked.1, c.in-Done.ensures.asked),
      );
      take = search rules;
      few = search rules;
      served = λ all. subst (All IsServing) (sym c.push.ensures.items)
          (All-append IsServing c.loop-slot.out.items _ (c.loop-slot.invariant.served all) (search rules));
      timely = λ all. subst (All (IsTimely false)) (sym c.push.ensures.items)
          (All-push (IsTimely false) c.loop-slot.out.items _ (c.loop-slot.invariant.timely all) (λ t. t));
      drained = λ honest first log h.
          let loop = c.loop-slot.invariant in
          let drained = loop.drained honest first log h in
          let next = c.in-Done.ensures.drained (loop.both.honest ∙ honest) first
          (with_more_done log (length c.loop-slot.out.items))
          (holds_under first _ _ (g.S.TakeStore.contents c.loop-slot.stores.store) _ _ (sym loop.take.name)
          drained.left) in
          drained_push first log c.loop-slot.out.items _ _ c.in-Done.verdict c.push.new.self.items
          c.loop-slot.self.progress.growing.name _ _
          c.push.ensures.items (ap (λ (x : Growing). x.name) c.in-Done.ensures.known)
          (c.copy.ensures ∙ c.in-Done.ensures.name ∙ sym c.loop-slot.self.progress.same_name)
          (let count = c.len-number.ensures.value in let done = drained.left.memory.done in
          omega (arith, count, done, tried))
          next.reported.1 drained.reported drained.none_past
          (holds_under first _ _ (g.S.TakeStore.contents c.drain_one.new.stores.store) _ _ loop.take.name next.left);
      noted = λ honest honest_notes first log h existed noted.
          let loop = c.loop-slot.invariant in
          let drained = loop.drained honest first log h in
          let further : suc (log.done + length c.loop-slot.out.items) ≡ log.done + length c.push.new.self.items =
          omega (arith, more) in
          subst (λ (n : ℕ). IsNoted (g.J.Journal.header c.args.stores.now.journal c.args.self.now.progress.name)
          c.args.self.now.progress.name (record log { done = n }) c.drain_one.new.progress.noted
          (g.J.Journal.notes c.drain_one.new.stores.journal c.args.self.now.progress.name)) further
          (noted_then c.loop-slot.self.progress.name c.args.self.now.progress.name
          (g.J.Journal.header c.loop-slot.stores.journal) _ first (with_more_done log (length c.loop-slot.out.items))
          (with_done (with_more_done log (length c.loop-slot.out.items)))
          c.loop-slot.self.progress.noted _ (g.J.Journal.notes c.loop-slot.stores.journal)
          (g.J.Journal.notes c.drain_one.new.stores.journal) loop.take.name
          (loop.both.headers honest_notes c.args.self.now.progress.name)
          (c.in-Done.ensures.noted (loop.both.honest ∙ honest) (loop.both.honest_notes ∙ honest_notes) first
          (with_more_done log (length c.loop-slot.out.items))
          (holds_under first _ _ (g.S.TakeStore.contents c.loop-slot.stores.store) _ _ (sym loop.take.name)
          drained.left))
          existed (loop.noted honest honest_notes first log h existed noted));
      ordered = λ honest honest_notes first log h existed noted order.
          let loop = c.loop-slot.invariant in
          let drained = loop.drained honest first log h in
          order_then c.loop-slot.self.progress.name c.args.self.now.progress.name
          (g.J.Journal.header c.loop-slot.stores.journal) _ first (with_more_done log (length c.loop-slot.out.items))
          c.loop-slot.self.progress.noted _ _ _ (g.J.Journal.notes c.loop-slot.stores.journal)
          (g.J.Journal.notes c.drain_one.new.stores.journal) (g.S.TakeStore.contents c.loop-slot.stores.store)
          (g.S.TakeStore.contents c.drain_one.new.stores.store) loop.take.name
          (loop.both.headers honest_notes c.args.self.now.progress.name)
          (c.in-Done.ensures.ordered (loop.both.honest ∙ honest) (loop.both.honest_notes ∙ honest_notes) first
          (with_more_done log (length c.loop-slot.out.items))
          (holds_under first _ _ (g.S.TakeStore.contents c.loop-slot.stores.store) _ _ (sym loop.take.name)
          drained.left))
          existed (loop.noted honest honest_notes first log h existed noted)
          (loop.ordered honest honest_notes first log h existed noted order);
    }

pub returns-in-Idle-clause-run : goal.returns-in-Idle-clause-run
returns-in-Idle-clause-run g c =
    let loop = c.loop-slot.invariant in
    record {
      both = both_then g.S.TakeStore g.J.Journal _ _ _ _ _ _ _ _ _ loop.take.name loop.both c.in-Idle.ensures.both;
      calls = let before = loop.calls in let now = c.in-Idle.ensures.calls in let done = c.in-Idle.ensures.done in
          omega (arith, done, before, now);
      asked = record {
        count = loop.asked.0;
        last = part_of c.loop-slot.self;
        reached = c.loop-slot.stores.store;
        done = loop.asked.1;
        within = let far = c.loop-slot.invariant.reached in omega (arith, far);
        end = c.in-Idle.ensures.asked.1;
        all = λ whole. inl c.in-Idle.ensures.asked.0;
      };
    }

pub returns-in-Stopped-clause-run : goal.returns-in-Stopped-clause-run
returns-in-Stopped-clause-run g c =
    let loop = c.loop-slot.invariant in
    record {
      both = both_then g.S.TakeStore g.J.Journal _ _ _ _ _ _ _ _ _ loop.take.name loop.both c.in-Stopped.ensures.both;
      calls = let before = loop.calls in let now = c.in-Stopped.ensures.calls in let done = c.in-Stopped.ensures.done in
          omega (arith, done, before, now);
      asked = record {
        count = loop.asked.0;
        last = part_of c.loop-slot.self;
        reached = c.loop-slot.stores.store;
        done = loop.asked.1;
        within = let far = c.loop-slot.invariant.reached in omega (arith, far);
        end = c.in-Stopped.ensures.asked;
        all = λ whole. absurd cc;
      };
    }

pub returns-clause-run : goal.returns-clause-run
returns-clause-run g c =
    let loop = c.loop-slot.invariant in
    record {
      both = loop.both;
      calls = loop.calls;
      asked = record {
        count = loop.asked.0;
        last = part_of c.loop-slot.self;
        reached = c.loop-slot.stores.store;
        done = loop.asked.1;
        within = let far = c.loop-slot.invariant.reached in omega (arith, far);
        end = (refl, refl);
        all = λ whole. inr (let far = c.loop-slot.invariant.reached in omega (arith, far));
      };
    }

pub loop-slot-init : goal.loop-slot-init
loop-slot-init g c = record {
  both = search rules;
  calls = search rules;
  asked = (0, (refl, refl));
  reached = let count = c.len-slot.ensures.value in omega (arith, count);
  take = search rules;
  few = search rules;
  served = λ all. all;
  timely = λ all. all;
  drained = λ honest first log h. h;
  noted = λ honest honest_notes first log h existed noted. noted;
  ordered = λ honest honest_notes first log h existed noted order. order;
}

pub returns-in-Idle-clause-ordered : goal.returns-in-Idle-clause-ordered
returns-in-Idle-clause-ordered g c = λ honest honest_notes first log h existed noted order.
    let loop = c.loop-slot.invariant in
    let drained = loop.drained honest first log h in
    order_then c.loop-slot.self.progress.name c.args.self.now.progress.name
    (g.J.Journal.header c.loop-slot.stores.journal) _ first (with_more_done log (length c.loop-slot.out.items))
    c.loop-slot.self.progress.noted _ _ _ (g.J.Journal.notes c.loop-slot.stores.journal)
    (g.J.Journal.notes c.drain_one.new.stores.journal) (g.S.TakeStore.contents c.loop-slot.stores.store)
    (g.S.TakeStore.contents c.drain_one.new.stores.store) loop.take.name
    (loop.both.headers honest_notes c.args.self.now.progress.name)
    (c.in-Idle.ensures.ordered (loop.both.honest ∙ honest) (loop.both.honest_notes ∙ honest_notes) first
    (with_more_done log (length c.loop-slot.out.items))
    (holds_under first _ _ (g.S.TakeStore.contents c.loop-slot.stores.store) _ _ (sym loop.take.name) drained.left))
    existed (loop.noted honest honest_notes first log h existed noted)
    (loop.ordered honest honest_notes first log h existed noted order)

pub returns-in-Stopped-clause-ordered : goal.returns-in-Stopped-clause-ordered
returns-in-Stopped-clause-ordered g c = λ honest honest_notes first log h existed noted order.
    let loop = c.loop-slot.invariant in
    let drained = loop.drained honest first log h in
    order_then c.loop-slot.self.progress.name c.args.self.now.progress.name
    (g.J.Journal.header c.loop-slot.stores.journal) _ first (with_more_done log (length c.loop-slot.out.items))
    c.loop-slot.self.progress.noted _ _ _ (g.J.Journal.notes c.loop-slot.stores.journal)
    (g.J.Journal.notes c.drain_one.new.stores.journal) (g.S.TakeStore.contents c.loop-slot.stores.store)
    (g.S.TakeStore.contents c.drain_one.new.stores.store) loop.take.name
    (loop.both.headers honest_notes c.args.self.now.progress.name)
    (c.in-Stopped.ensures.ordered (loop.both.honest ∙ honest) (loop.both.honest_notes ∙ honest_notes) first
    (with_more_done log (length c.loop-slot.out.items))
    (holds_under first _ _ (g.S.TakeStore.contents c.loop-slot.stores.store) _ _ (sym loop.take.name) drained.left))
    existed (loop.noted honest honest_notes first log h existed noted)
    (loop.ordered honest honest_notes first log h existed noted order)

pub returns-clause-ordered : goal.returns-clause-ordered
returns-clause-ordered g c = λ honest honest_notes first log h existed noted order.
    c.loop-slot.invariant.ordered honest honest_notes first log h existed noted order

pub returns-in-Idle-clause-drained : goal.returns-in-Idle-clause-drained
returns-in-Idle-clause-drained g c = λ honest first log h.
    let loop = c.loop-slot.invariant in
    let drained = loop.drained honest first log h in
    let next = c.in-Idle.ensures.drained (loop.both.honest ∙ honest) first
    (with_more_done log (length c.loop-slot.out.items))
    (holds_under first _ _ (g.S.TakeStore.contents c.loop-slot.stores.store) _ _ (sym loop.take.name) drained.left) in
    drained_end first log _ c.loop-slot.out.items (part_of c.loop-slot.self) _ _ _ drained
    (ap (λ (x : Growing). x.name) c.in-Idle.ensures.known)
    (holds_under first _ _ (g.S.TakeStore.contents c.drain_one.new.stores.store) _ _ loop.take.name next.left)
    (ap is_some next.reported)

pub returns-in-Stopped-clause-drained : goal.returns-in-Stopped-clause-drained
returns-in-Stopped-clause-drained g c = λ honest first log h.
    let loop = c.loop-slot.invariant in
    let drained = loop.drained honest first log h in
    let next = c.in-Stopped.ensures.drained (loop.both.honest ∙ honest) first
    (with_more_done log (length c.loop-slot.out.items))
    (holds_under first _ _ (g.S.TakeStore.contents c.loop-slot.stores.store) _ _ (sym loop.take.name) drained.left) in
    drained_end first log _ c.loop-slot.out.items (part_of c.loop-slot.self) _ _ _ drained
    (ap (λ (x : Growing). x.name) c.in-Stopped.ensures.known)
    (holds_under first _ _ (g.S.TakeStore.contents c.drain_one.new.stores.store) _ _ loop.take.name next.left)
    next.reported
