use Rattle.std.proofs.Common.{rules, ◌≡◌, ◌+◌, ◌<◌, ◌≤◌, ℕ, List, length, true, false, [], ◌∷◌, sym, ◌∙◌, ap, arith}
use Rattle.std.proofs.Common.{refl}
use Rattle.std.specs.Prelude.{is_some}
use Rattle.bw_model.specs.Wire.{Message}
use Rattle.bw_model.specs.Replies as model
use Rattle.bw_model.specs.Book.{run_end, verdict_at}
use Rattle.bw_model.specs.VerdictMeanings.{verdict_meaning}
use Rattle.bw_wire.specs.Frames.{message_of}
use Rattle.bw_session.specs.Runs.{with_more_done}
use Rattle.bw_session.specs.Sessions.{part_of}
use Rattle.bw_session.proofs.ReplyForms.{own_conflict, own_waits, own_done, own_drained, short_at, verdict_kept}
use Rattle.bw_session.proofs.UseForms.{timely_notice, timely_waits}
use Rattle.bw_session.proofs.session.Session.reply_to.Goals as goal

pub returns-then-not-has_admitted-clause-value : goal.returns-then-not-has_admitted-clause-value
returns-then-not-has_admitted-clause-value c = λ first log drained found h same near.
    let m : Message = message_of c.args.message.now in
    let reported : c.has_admitted.result ≡ false = search rules in
    let repeat = sym (c.has_admitted.ensures first (with_more_done log (length drained)) found m h.drained.left
    c.requires.name (sym c.number-number.ensures.value) c.requires.digest) ∙ reported in
    ap (λ (r : model.Reply). r ∷ []) c.notice.ensures.value
    ∙ sym (own_conflict (is_some first) log.admitted c.args.done (length c.args.self.now.progress.ledger.outcomes)
    (run_end log.admitted c.args.done) m near repeat)

pub returns-then-not-has_admitted-clause-timely : goal.returns-then-not-has_admitted-clause-timely
returns-then-not-has_admitted-clause-timely c =
    timely_notice c.args.stopped c.notice.result _ _ _ _ c.notice.ensures.value refl

pub returns-then-len-number-clause-timely : goal.returns-then-len-number-clause-timely
returns-then-len-number-clause-timely c =
    timely_waits c.args.stopped c.notice-then-len-number.result _ _ _ _ c.notice-then-len-number.ensures.value
    c.waits.ensures

pub returns-then-len-number-clause-value : goal.returns-then-len-number-clause-value
returns-then-len-number-clause-value c = λ first log drained found h same near.
    let m : Message = message_of c.args.message.now in
    let reported : c.has_admitted.result ≡ true = search rules in
    let repeat = sym (c.has_admitted.ensures first (with_more_done log (length drained)) found m h.drained.left
    c.requires.name (sym c.number-number.ensures.value) c.requires.digest) ∙ reported in
    let later : length c.args.self.now.progress.ledger.outcomes ≡ log.done + length drained =
    h.drained.left.memory.done in
    let above : length c.args.self.now.progress.ledger.outcomes ≤ m.number = search rules in
    ap (λ (r : model.Reply). r ∷ []) (c.notice-then-len-number.ensures.value
    ∙ ap (λ (n : model.Notice). model.Noticed m.name m.number n (length c.args.self.now.progress.ledger.outcomes))
    c.waits.ensures)
    ∙ sym (own_waits (is_some first) log.admitted c.args.done (length c.args.self.now.progress.ledger.outcomes)
    (run_end log.admitted c.args.done) m near repeat (omega (arith, later, same)) above c.args.stopped
    (short_at first log c.args.stopped drained (part_of c.args.self.now) found c.args.done h same))

pub returns-then-number-done-clause-value : goal.returns-then-number-done-clause-value
returns-then-number-done-clause-value c = λ first log drained found h same near.
    let m : Message = message_of c.args.message.now in
    let reported : c.has_admitted.result ≡ true = search rules in
    let repeat = sym (c.has_admitted.ensures first (with_more_done log (length drained)) found m h.drained.left
    c.requires.name (sym c.number-number.ensures.value) c.requires.digest) ∙ reported in
    let number : c.number-number.result ≡ m.number = c.number-number.ensures.value in
    let below : m.number < c.args.done = search rules in
    let kept = verdict_kept first (with_more_done log (length drained)) (part_of c.args.self.now) found h.drained.left
    c.number-number.result (verdict_meaning c.verdict_at.result) (search rules) c.verdict_at.ensures in
    ap (λ (r : model.Reply). r ∷ [])
    (ap (λ (x : List ℕ). model.Judged x c.number.result (verdict_meaning c.verdict_at.result)) c.name.ensures
    ∙ ap (λ (n : ℕ). model.Judged m.name n (verdict_meaning c.verdict_at.result)) c.number.ensures.value
    ∙ ap (model.Judged m.name m.number)
    (kept ∙ ap (verdict_at (is_some first) log.admitted) number))
    ∙ sym (own_done (is_some first) log.admitted c.args.done (length c.args.self.now.progress.ledger.outcomes)
    (run_end log.admitted c.args.done) m near repeat below)

pub returns-clause-value : goal.returns-clause-value
returns-clause-value c = λ first log drained found h same near.
    let m : Message = message_of c.args.message.now in
    let reported : c.has_admitted.result ≡ true = search rules in
    let repeat = sym (c.has_admitted.ensures first (with_more_done log (length drained)) found m h.drained.left
    c.requires.name (sym c.number-number.ensures.value) c.requires.digest) ∙ reported in
    let up : c.args.done ≤ m.number = search rules in
    let below : m.number < length c.args.self.now.progress.ledger.outcomes = search rules in
    sym (own_drained (is_some first) log.admitted c.args.done (length c.args.self.now.progress.ledger.outcomes)
    (run_end log.admitted c.args.done) m near repeat up below)
