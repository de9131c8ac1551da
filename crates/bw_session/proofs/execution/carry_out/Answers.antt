use Rattle.std.proofs.Common.{◌≡◌, Bool, true, false, Ok, Err, refl, sym, ◌∙◌, ap}
use Rattle.std.proofs.lemmas.Result.{err_from_is_err_and}
use Rattle.bw_model.specs.Take.{Parts, Request, is_stored}
use Rattle.bw_model.specs.Requests.{meaning}
use Rattle.bw_file.specs.GrowingFiles.{Growing}
use Rattle.bw_session.proofs.CarryForms.{carries_refused, carries_ahead, carries_new, carries_exists, carries_err}
use Rattle.bw_session.proofs.PrefixForms.{carries_prefix}
use Rattle.bw_session.proofs.PlanForms.{asks_ahead, asks_refused, asks_written, asks_first}
use Rattle.bw_model.specs.declared.verdict.Verdict.TheVariants.{Stored}
use Rattle.bw_session.proofs.execution.carry_out.Goals as goal

-- a write leaves a file that isn't ahead so
level : (g g' : Growing) → g.ahead ≡ false → (g'.ahead ≡ true → g.ahead ≡ true) → g'.ahead ≡ false
level g g' e keeps = go g'.ahead refl
  where
    go : (b : Bool) → g'.ahead ≡ b → b ≡ false
    go true is = sym (keeps is) ∙ e
    go false is = refl

pub returns-then-is_ahead-clause-file : goal.returns-then-is_ahead-clause-file
returns-then-is_ahead-clause-file g c = λ honest.
    carries_ahead Stored c.args.state.now.parts (meaning c.args.request.now) c.args.growing.now c.mark_clean.new.self _
    (sym c.is_ahead.ensures.value ∙ c.if-is_ahead.true) c.mark_clean.ensures

pub returns-then-is_ahead-clause-asked : goal.returns-then-is_ahead-clause-asked
returns-then-is_ahead-clause-asked g c =
    asks_ahead g.S.TakeStore c.args.growing.now c.args.state.now.parts (meaning c.args.request.now)
    c.mark_clean.new.self.made true Stored c.args.store.now (sym c.is_ahead.ensures.value ∙ c.if-is_ahead.true)

pub returns-then-not-is_stored-clause-asked : goal.returns-then-not-is_stored-clause-asked
returns-then-not-is_stored-clause-asked g c =
    asks_refused g.S.TakeStore c.args.growing.now c.args.state.now.parts (meaning c.args.request.now)
    c.args.growing.now.made true c.judge-verdict.result c.args.store.now
    (sym c.is_ahead.ensures.value ∙ c.if-is_ahead.false)
    (ap is_stored (sym c.judge-verdict.ensures) ∙ sym c.is_stored.ensures.value ∙ c.if-not-is_stored.true)

pub returns-in_err-write_request-clause-asked : goal.returns-in_err-write_request-clause-asked
returns-in_err-write_request-clause-asked g c =
    let answer = err_from_is_err_and c.from_residual.result c.from_residual.ensures.1 in
    rw answer.1 (asks_first g.S.TakeStore c.args.growing.now c.args.state.now.parts (meaning c.args.request.now)
    c.write_request.new.growing.made true answer.0 c.args.store.now c.write_request.new.store
    (sym c.is_ahead.ensures.value ∙ c.if-is_ahead.false)
    (ap is_stored (sym c.judge-verdict.ensures) ∙ sym c.is_stored.ensures.value ∙ c.if-not-is_stored.false)
    c.in_err-write_request.ensures.begun)

pub returns-in-New-clause-asked : goal.returns-in-New-clause-asked
returns-in-New-clause-asked g c =
    asks_written g.S.TakeStore c.args.growing.now c.args.state.now.parts (meaning c.args.request.now)
    c.write_request.new.growing.made true c.judge-verdict.result c.args.store.now c.write_request.new.store
    (sym c.is_ahead.ensures.value ∙ c.if-is_ahead.false)
    (ap is_stored (sym c.judge-verdict.ensures) ∙ sym c.is_stored.ensures.value ∙ c.if-not-is_stored.false)
    c.in_ok-write_request.ensures.order

pub returns-in-Exists-clause-asked : goal.returns-in-Exists-clause-asked
returns-in-Exists-clause-asked g c =
    asks_written g.S.TakeStore c.args.growing.now c.args.state.now.parts (meaning c.args.request.now)
    c.write_request.new.growing.made true c.judge.result c.args.store.now c.write_request.new.store
    (sym c.is_ahead.ensures.value ∙ c.if-is_ahead.false)
    (ap is_stored (sym c.judge-verdict.ensures) ∙ sym c.is_stored.ensures.value ∙ c.if-not-is_stored.false)
    c.in_ok-write_request.ensures.order

pub returns-then-is_ahead-clause-verdict : goal.returns-then-is_ahead-clause-verdict
returns-then-is_ahead-clause-verdict g c =
    sym (c.requires.dirty (c.is_ahead.ensures.dirty c.if-is_ahead.true)).stored

pub returns-then-is_ahead-clause-prefix : goal.returns-then-is_ahead-clause-prefix
returns-then-is_ahead-clause-prefix g c = λ honest first log finished h.
    let p : Parts = c.args.state.now.parts in
    let r : Request = meaning c.args.request.now in
    carries_prefix (Ok Stored) first log p p finished r c.args.growing.now c.mark_clean.new.self _ _
    (returns-then-is_ahead-clause-file g c honest) refl (λ known. known)
    (ap (λ (x : Growing). x.name) c.mark_clean.ensures) (ap (λ (x : Growing). x.ahead) c.mark_clean.ensures)
    (returns-then-is_ahead-clause-verdict g c) tt h

pub returns-then-not-is_stored-clause-file : goal.returns-then-not-is_stored-clause-file
returns-then-not-is_stored-clause-file g c = λ honest.
    carries_refused c.judge-verdict.result c.args.state.now.parts (meaning c.args.request.now) c.args.growing.now _
    c.judge-verdict.ensures (sym c.is_stored.ensures.value ∙ c.if-not-is_stored.true) c.requires.dirty
    (sym c.is_ahead.ensures.value ∙ c.if-is_ahead.false)

pub returns-then-not-is_stored-clause-prefix : goal.returns-then-not-is_stored-clause-prefix
returns-then-not-is_stored-clause-prefix g c = λ honest first log finished h.
    let p : Parts = c.args.state.now.parts in
    let r : Request = meaning c.args.request.now in
    carries_prefix (Ok c.judge-verdict.result) first log p p finished r c.args.growing.now c.args.growing.now _ _
    (returns-then-not-is_stored-clause-file g c honest) refl (λ known. known) refl
    (sym c.is_ahead.ensures.value ∙ c.if-is_ahead.false) c.judge-verdict.ensures tt h

pub returns-in_err-write_request-clause-prefix : goal.returns-in_err-write_request-clause-prefix
returns-in_err-write_request-clause-prefix g c = λ honest first log finished h.
    let p : Parts = c.args.state.now.parts in
    let r : Request = meaning c.args.request.now in
    let answer = err_from_is_err_and c.from_residual.result c.from_residual.ensures.1 in
    rw answer.1 (carries_prefix
    (Err answer.0) first log p p finished r c.args.growing.now c.write_request.new.growing _ _
    (carries_err c.in_err-write_request.field-0.0 answer.0 p r c.args.growing.now c.write_request.new.growing _ _
    (c.in_err-write_request.ensures.file honest))
    refl (λ known. known) (ap (λ (x : Growing). x.name) c.write_request.ensures.known.same)
    (level c.args.growing.now c.write_request.new.growing (sym c.is_ahead.ensures.value ∙ c.if-is_ahead.false)
    c.write_request.ensures.known.ahead) tt refl h)

pub returns-in-New-clause-prefix : goal.returns-in-New-clause-prefix
returns-in-New-clause-prefix g c = λ honest first log finished h.
    let p : Parts = c.args.state.now.parts in
    let r : Request = meaning c.args.request.now in
    carries_prefix (Ok c.judge-verdict.result) first log p p finished r c.args.growing.now c.write_request.new.growing _
    _
    (carries_new c.judge-verdict.result p r c.args.growing.now c.write_request.new.growing _ _ c.judge-verdict.ensures
    (sym c.is_stored.ensures.value ∙ c.if-not-is_stored.false)
    (rw c.in-New.is at (c.in_ok-write_request.ensures.file honest)))
    refl (λ known. known) (ap (λ (x : Growing). x.name) c.write_request.ensures.known.same)
    (level c.args.growing.now c.write_request.new.growing (sym c.is_ahead.ensures.value ∙ c.if-is_ahead.false)
    c.write_request.ensures.known.ahead) c.judge-verdict.ensures tt h

pub returns-in-Exists-clause-prefix : goal.returns-in-Exists-clause-prefix
returns-in-Exists-clause-prefix g c = λ honest first log finished h.
    let p : Parts = c.args.state.now.parts in
    let q : Parts = c.set_taken.new.self.parts in
    let r : Request = meaning c.args.request.now in
    let known : q.taken ≡ true = ap (λ (x : Parts). x.taken) c.set_taken.ensures.parts in
    carries_prefix (Ok c.judge.result) first log p q finished r c.args.growing.now c.write_request.new.growing _ _
    (carries_exists c.judge.result p q r c.args.growing.now c.write_request.new.growing _ _ c.set_taken.ensures.parts
    c.judge.ensures (rw c.in-Exists.is at (c.in_ok-write_request.ensures.file honest)))
    (c.set_taken.ensures.parts ∙ ap (λ b. record p { taken = b }) (sym known)) (λ was. known)
    (ap (λ (x : Growing). x.name) c.write_request.ensures.known.same)
    (level c.args.growing.now c.write_request.new.growing (sym c.is_ahead.ensures.value ∙ c.if-is_ahead.false)
    c.write_request.ensures.known.ahead) c.judge.ensures tt h
