use Rattle.std.proofs.Common.{rules, ◌≡◌, ℕ, ◌+◌, List, length, refl, sym, ◌∙◌, ap, arith}
use Rattle.std.specs.Prelude.{is_some}
use Rattle.std.proofs.lemmas.List.{length_push}
use Rattle.bw_model.specs.Take.{Request, Verdict}
use Rattle.bw_model.specs.Requests.{meaning}
use Rattle.bw_model.specs.VerdictMeanings.{verdict_meaning}
use Rattle.bw_file.specs.GrowingFiles.{Growing}
use Rattle.bw_wire.specs.Frames.{message_of}
use Rattle.bw_session.proofs.DrainForms.{count_prefix, fits_done, part_waits, part_done}
use Rattle.bw_session.proofs.NextForms.{prefix_here}
use Rattle.bw_session.specs.Sessions.{kept_with}
use Rattle.bw_session.proofs.AskForms.{does_first, tries_first}
use Rattle.bw_session.proofs.OrderForms.{order_as}
use Rattle.bw_session.proofs.OrderSteps.{carried_next, next_carried}
use Rattle.bw_session.proofs.drains.drain_one.Goals as goal

pub number_done-requires-clause-room : goal.number_done-requires-clause-room
number_done-requires-clause-room g c =
    let count = count_prefix c.args.window.now c.in-Some.body.now (sym c.in-Some.ensures.value) in
    let enough = c.requires.fits.storable in
    omega (arith, count, enough)

pub number_done-requires-clause-place : goal.number_done-requires-clause-place
number_done-requires-clause-place g c =
    let count = count_prefix c.args.window.now c.in-Some.body.now (sym c.in-Some.ensures.value) in
    let enough = c.requires.fits.keepable in
    omega (arith, count, enough)

pub returns-in-Ok-clause-fits : goal.returns-in-Ok-clause-fits
returns-in-Ok-clause-fits g c =
    let old : List (List ℕ × Verdict) = c.args.progress.now.ledger.outcomes in
    let more : length c.number_done.new.self.ledger.outcomes ≡ length old + 1 =
    ap length c.in-Ok.ensures.kept.outcomes ∙ length_push old (c.digest.result.now, verdict_meaning c.in-Ok.verdict) in
    fits_done c.args.progress.now.growing c.number_done.new.self.growing c.args.progress.now.state.parts
    c.number_done.new.self.state.parts (length old) _ c.args.progress.now.state.room
    c.number_done.new.self.state.room c.args.progress.now.ledger.room c.number_done.new.self.ledger.room
    c.args.window.now _ c.in-Some.body.now c.requires.fits (sym c.in-Some.ensures.value)
    (search rules) more c.in-Ok.ensures.places.room c.in-Ok.ensures.places.places c.in-Ok.ensures.kept.clean

pub returns-in-Ok-clause-drained : goal.returns-in-Ok-clause-drained
returns-in-Ok-clause-drained g c = λ honest first log h.
    let r : Request = meaning c.request-request.result in
    let g0 : Growing = c.args.progress.now.growing in
    let finished : List (List ℕ × Verdict) = c.args.progress.now.ledger.outcomes in
    let prefix = prefix_here first log c.args.progress.now c.args.window.now _ h (message_of c.message-message.result) r
    c.digest.result.now c.in-Some.body.now (sym c.in-Some.ensures.value) c.message-message.ensures.spelled
    c.request-request.ensures.value c.request-request.ensures.fits c.digest.ensures in
    let done = c.in-Ok.ensures.done honest first log prefix.0 prefix.1 in
    record {
      reported = (ap is_some prefix.0.here, done.verdict_is);
      left = part_done first log c.args.progress.now.state.parts finished c.args.window.now g0 _ h
          (verdict_meaning c.in-Ok.verdict) c.number_done.new.self.state.parts c.number_done.new.self.ledger.outcomes
          _ c.number_done.new.self.growing _ (ap (λ (x : Growing). x.name) c.in-Ok.ensures.places.known)
          c.in-Ok.ensures.kept.clean (search rules) done;
    }

pub returns-in-Ok-clause-noted : goal.returns-in-Ok-clause-noted
returns-in-Ok-clause-noted g c = λ honest honest_notes first log h existed noted.
    let r : Request = meaning c.request-request.result in
    let prefix = prefix_here first log c.args.progress.now c.args.window.now _ h (message_of c.message-message.result) r
    c.digest.result.now c.in-Some.body.now (sym c.in-Some.ensures.value) c.message-message.ensures.spelled
    c.request-request.ensures.value c.request-request.ensures.fits c.digest.ensures in
    c.in-Ok.ensures.noted honest honest_notes first log prefix.0 prefix.1 existed noted

pub returns-in-Err-clause-drained : goal.returns-in-Err-clause-drained
returns-in-Err-clause-drained g c = λ honest first log h.
    let r : Request = meaning c.request-request.result in
    let g0 : Growing = c.args.progress.now.growing in
    let finished : List (List ℕ × Verdict) = c.args.progress.now.ledger.outcomes in
    let prefix = prefix_here first log c.args.progress.now c.args.window.now _ h (message_of c.message-message.result) r
    c.digest.result.now c.in-Some.body.now (sym c.in-Some.ensures.value) c.message-message.ensures.spelled
    c.request-request.ensures.value c.request-request.ensures.fits c.digest.ensures in
    record {
      reported = ap is_some prefix.0.here;
      left = part_waits first log c.args.progress.now.state.parts finished c.args.window.now g0 _ h
          c.number_done.new.self.state.parts c.number_done.new.self.ledger.outcomes r c.number_done.new.self.growing _
          prefix.0.here
          (ap (λ (x : Growing). x.name) c.in-Err.ensures.places.known)
          (c.in-Err.ensures.done honest first log prefix.0 prefix.1);
    }

pub returns-in-Err-clause-noted : goal.returns-in-Err-clause-noted
returns-in-Err-clause-noted g c = λ honest honest_notes first log h existed noted.
    let r : Request = meaning c.request-request.result in
    let prefix = prefix_here first log c.args.progress.now c.args.window.now _ h (message_of c.message-message.result) r
    c.digest.result.now c.in-Some.body.now (sym c.in-Some.ensures.value) c.message-message.ensures.spelled
    c.request-request.ensures.value c.request-request.ensures.fits c.digest.ensures in
    c.in-Err.ensures.noted honest honest_notes first log prefix.0 prefix.1 existed noted

pub returns-in-Ok-clause-asked : goal.returns-in-Ok-clause-asked
returns-in-Ok-clause-asked g c =
    does_first g.S.TakeStore
    (kept_with c.args.progress.now c.args.window.now)
    (kept_with c.number_done.new.self c.advance.new.self)
    c.args.stores.now.store c.number_done.new.stores.store c.in-Some.body.now c.digest.result.now
    (meaning c.request-request.result) (verdict_meaning c.in-Ok.verdict) (sym c.in-Some.ensures.value)
    (c.request-request.ensures.value ∙ ap (λ m. m.request) c.message-message.ensures.value) c.digest.ensures
    c.in-Ok.ensures.asked.1.order c.in-Ok.ensures.places.known c.in-Ok.ensures.kept.clean c.in-Ok.ensures.kept.level
    c.in-Ok.ensures.kept.kept c.in-Ok.ensures.kept.verdict c.in-Ok.ensures.kept.outcomes c.advance.ensures

pub returns-in-Err-clause-asked : goal.returns-in-Err-clause-asked
returns-in-Err-clause-asked g c =
    tries_first g.S.TakeStore
    (kept_with c.args.progress.now c.args.window.now)
    (kept_with c.number_done.new.self c.args.window.now)
    c.args.stores.now.store c.number_done.new.stores.store c.in-Some.body.now
    (meaning c.request-request.result) (sym c.in-Some.ensures.value)
    (c.request-request.ensures.value ∙ ap (λ m. m.request) c.message-message.ensures.value)
    (c.in-Err.ensures.asked.0, c.in-Err.ensures.asked.1.begun) c.in-Err.ensures.left.stop
    (ap (λ l. l.outcomes) c.in-Err.ensures.left.ledger) refl

pub returns-in-Ok-clause-ordered : goal.returns-in-Ok-clause-ordered
returns-in-Ok-clause-ordered g c = λ honest honest_notes first log h existed noted order.
    let r : Request = meaning c.request-request.result in
    let prefix = prefix_here first log c.args.progress.now c.args.window.now _ h (message_of c.message-message.result) r
    c.digest.result.now c.in-Some.body.now (sym c.in-Some.ensures.value) c.message-message.ensures.spelled
    c.request-request.ensures.value c.request-request.ensures.fits c.digest.ensures in
    order_as _ _ _ _ _ _ _ _ (λ none. absurd none)
    (c.in-Ok.ensures.ordered honest honest_notes first log prefix.0 prefix.1 existed noted
    (order_as _ _ _ _ _ _ _ _ (carried_next (kept_with c.args.progress.now c.args.window.now) c.in-Some.body.now r
    (sym c.in-Some.ensures.value)
    (c.request-request.ensures.value ∙ ap (λ m. m.request) c.message-message.ensures.value)) order))

pub returns-in-Err-clause-ordered : goal.returns-in-Err-clause-ordered
returns-in-Err-clause-ordered g c = λ honest honest_notes first log h existed noted order.
    let r : Request = meaning c.request-request.result in
    let prefix = prefix_here first log c.args.progress.now c.args.window.now _ h (message_of c.message-message.result) r
    c.digest.result.now c.in-Some.body.now (sym c.in-Some.ensures.value) c.message-message.ensures.spelled
    c.request-request.ensures.value c.request-request.ensures.fits c.digest.ensures in
    let here = sym c.in-Some.ensures.value in
    let read = c.request-request.ensures.value ∙ ap (λ m. m.request) c.message-message.ensures.value in
    order_as _ _ _ _ _ _ _ _
    (next_carried (kept_with c.number_done.new.self c.args.window.now) c.in-Some.body.now r here read)
    (c.in-Err.ensures.ordered honest honest_notes first log prefix.0 prefix.1 existed noted
    (order_as _ _ _ _ _ _ _ _ (carried_next (kept_with c.args.progress.now c.args.window.now) c.in-Some.body.now r
    here read) order))
