use Rattle.std.proofs.Common.{rules, ◌≡◌, ℕ, Bool, true, false, Some, Ok, refl, sym}
use Rattle.std.proofs.Common.{◌∙◌, ap, subst}
use Rattle.std.specs.Prelude.{IsTrue}
use Rattle.std.proofs.lemmas.Result.{err_from_is_err_and}
use Rattle.bw_model.specs.Take.{Parts, Format, Block, SetField, Close, Stored, judge}
use Rattle.bw_model.specs.Take.{frames, with_field}
use Rattle.bw_layout.specs.Formats.{format_of}
use Rattle.bw_take.proofs.StoredLemmas.{opened_by_allowed, set_without_fault, some_where}
use Rattle.bw_file.proofs.Judged.{open_for_block, open_for_field, open_for_close}
use Rattle.bw_session.proofs.WriteForms.{writes_ok, writes_err, writes_mark, writes_open, total_is}
use Rattle.bw_session.proofs.writing.write_request.Goals as goal

clean : (d : Bool) → (IsTrue d → true ≡ false) → d ≡ false
clean true h = h refl
clean false h = refl

pub unwrap-format-requires : goal.unwrap-format-requires
unwrap-format-requires g c =
    let stored = rw c.in-OpenTake.is at c.requires.stored in
    rw (some_where _ _ _ c.new.ensures (opened_by_allowed _ _ _ stored)) refl

pub unwrap-requires : goal.unwrap-requires
unwrap-requires g c =
    let stored = rw c.in-SetField.is at c.requires.stored in
    rw (c.set.ensures.reported, set_without_fault _ _ _ stored) refl

pub close-requires : goal.close-requires
close-requires g c =
    let p : Parts = c.args.state.now.parts in
    let stored : judge p (Close c.in-CloseTake.frames) ≡ Stored = rw c.in-CloseTake.is at c.requires.stored in
    subst (λ (n : ℕ). judge p (Close n) ≡ Stored) (total_is p c.in-CloseTake.frames stored) stored

pub returns-in-OpenTake-clause-file : goal.returns-in-OpenTake-clause-file
returns-in-OpenTake-clause-file g c = λ honest.
    let p : Parts = c.args.state.now.parts in
    let stored = rw c.in-OpenTake.is at c.requires.stored in
    let f : Format = format_of c.in-OpenTake.rate c.in-OpenTake.channels c.in-OpenTake.bits in
    let there : c.new.result ≡ Some f = some_where _ _ _ c.new.ensures (opened_by_allowed _ _ _ stored) in
    let same : c.unwrap-format.result ≡ f = search rules in
    rw c.in-OpenTake.is (writes_open c.begin.result p f c.in-OpenTake.history.now c.args.growing.now c.begin.new.self _
    _ stored
    c.begin.ensures.ok c.begin.ensures.err (c.begin.ensures.name honest) (c.begin.ensures.existed honest)
    (rw same at (c.begin.ensures.file honest)))

pub returns-in_ok-append-in-Block-clause-file : goal.returns-in_ok-append-in-Block-clause-file
returns-in_ok-append-in-Block-clause-file g c = λ honest.
    let p : Parts = c.args.state.now.parts in
    let stored = rw c.in-Block.is at c.requires.stored in
    rw c.in-Block.is (writes_ok p (Block c.in-Block.bytes.now) c.args.growing.now c.append.new.self _ _
    (open_for_block p c.in-Block.bytes.now stored) (λ t. refl) c.in_ok-append-in-Block.ensures.known
    (c.in_ok-append-in-Block.ensures.file honest))

pub returns-in_err-append-in-Block-clause-file : goal.returns-in_err-append-in-Block-clause-file
returns-in_err-append-in-Block-clause-file g c = λ honest.
    let p : Parts = c.args.state.now.parts in
    let stored = rw c.in-Block.is at c.requires.stored in
    let answer = err_from_is_err_and c.from_residual.result c.from_residual.ensures.1 in
    rw (answer.1, c.in-Block.is) (writes_err p (Block c.in-Block.bytes.now) c.args.growing.now c.append.new.self _ _
    (open_for_block p c.in-Block.bytes.now stored) answer.0 stored c.in_err-append-in-Block.ensures.known
    (c.in_err-append-in-Block.ensures.file honest))

pub returns-in-Mark-clause-file : goal.returns-in-Mark-clause-file
returns-in-Mark-clause-file g c = λ honest.
    let stored = rw c.in-Mark.is at c.requires.stored in
    let touched = rw c.in-Mark.is at c.requires.dirty in
    rw c.in-Mark.is (writes_mark c.args.state.now.parts c.in-Mark.id c.in-Mark.frame c.args.growing.now _ stored
    (clean c.args.growing.now.dirty touched))

pub returns-in_ok-retouch-in-SetField-clause-file : goal.returns-in_ok-retouch-in-SetField-clause-file
returns-in_ok-retouch-in-SetField-clause-file g c = λ honest.
    let p : Parts = c.args.state.now.parts in
    let stored = rw c.in-SetField.is at c.requires.stored in
    let reported : c.set.result ≡ Ok tt = rw (c.set.ensures.reported, set_without_fault _ _ _ stored) refl in
    let set : c.set.new.self ≡ with_field p.fields c.in-SetField.tag c.in-SetField.value.now = search rules in
    rw c.in-SetField.is (writes_ok p
    (SetField c.in-SetField.tag c.in-SetField.value.now) c.args.growing.now c.retouch.new.self _ _
    (open_for_field p c.in-SetField.tag c.in-SetField.value.now stored)
    (λ t. refl) c.in_ok-retouch-in-SetField.ensures.known
    (λ t e. c.in_ok-retouch-in-SetField.ensures.file honest t e c.in-SetField.tag c.in-SetField.value.now
    (set ∙ ap (λ (q : Parts). with_field q.fields c.in-SetField.tag c.in-SetField.value.now) (sym e))))

pub returns-in_err-retouch-in-SetField-clause-file : goal.returns-in_err-retouch-in-SetField-clause-file
returns-in_err-retouch-in-SetField-clause-file g c = λ honest.
    let p : Parts = c.args.state.now.parts in
    let stored = rw c.in-SetField.is at c.requires.stored in
    let reported : c.set.result ≡ Ok tt = rw (c.set.ensures.reported, set_without_fault _ _ _ stored) refl in
    let set : c.set.new.self ≡ with_field p.fields c.in-SetField.tag c.in-SetField.value.now = search rules in
    let answer = err_from_is_err_and c.from_residual-in_err-retouch-in-SetField.result
    c.from_residual-in_err-retouch-in-SetField.ensures.1 in
    rw (answer.1, c.in-SetField.is)
    (writes_err p (SetField c.in-SetField.tag c.in-SetField.value.now) c.args.growing.now c.retouch.new.self _ _
    (open_for_field p c.in-SetField.tag c.in-SetField.value.now stored) answer.0 stored
    c.in_err-retouch-in-SetField.ensures.known
    (λ t e. c.in_err-retouch-in-SetField.ensures.file honest t e c.in-SetField.tag c.in-SetField.value.now
    (set ∙ ap (λ (q : Parts). with_field q.fields c.in-SetField.tag c.in-SetField.value.now) (sym e))))

pub returns-in_ok-close-in-CloseTake-clause-file : goal.returns-in_ok-close-in-CloseTake-clause-file
returns-in_ok-close-in-CloseTake-clause-file g c = λ honest.
    let p : Parts = c.args.state.now.parts in
    let stored = rw c.in-CloseTake.is at c.requires.stored in
    let total : c.in-CloseTake.frames ≡ frames p = total_is p c.in-CloseTake.frames stored in
    rw (c.in-CloseTake.is, total) (writes_ok p (Close (frames p)) c.args.growing.now c.close.new.self _ _
    (open_for_close p c.in-CloseTake.frames stored) (λ t. refl) c.in_ok-close-in-CloseTake.ensures.known
    (c.in_ok-close-in-CloseTake.ensures.file honest))

pub returns-in_err-close-in-CloseTake-clause-file : goal.returns-in_err-close-in-CloseTake-clause-file
returns-in_err-close-in-CloseTake-clause-file g c = λ honest.
    let p : Parts = c.args.state.now.parts in
    let stored = rw c.in-CloseTake.is at c.requires.stored in
    let total : c.in-CloseTake.frames ≡ frames p = total_is p c.in-CloseTake.frames stored in
    let answer = err_from_is_err_and c.from_residual-in_err-close-in-CloseTake.result
    c.from_residual-in_err-close-in-CloseTake.ensures.1 in
    rw (answer.1, c.in-CloseTake.is, total) (writes_err p (Close (frames p)) c.args.growing.now c.close.new.self _ _
    (open_for_close p c.in-CloseTake.frames stored) answer.0
    (subst (λ (n : ℕ). judge p (Close n) ≡ Stored) total stored)
    c.in_err-close-in-CloseTake.ensures.known (c.in_err-close-in-CloseTake.ensures.file honest))
