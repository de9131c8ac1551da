use Rattle.std.proofs.Common.{◌≡◌, ℕ, ◌+◌, length, drop, Result, Ok, Err, List, refl, sym, ◌∙◌, ap, subst}
use Rattle.bw_model.specs.Wire.{Reason, Cut}
use Rattle.bw_model.specs.Replies.{Reply}
use Rattle.bw_model.specs.Stream.{first_reply}
use Rattle.bw_wire.specs.Reasons.{reason_meaning}
use Rattle.bw_wire.specs.Replies.{reply_of}
use Rattle.bw_c.specs.PlainSenders.{IsPlainSender}
use Rattle.bw_c.specs.ShownReplies.{without_numbers, shown, used, hear_first, heard_first}
use Rattle.bw_c.specs.declared.hearing.BwiReply.{BwiReply}
use Rattle.bw_c.proofs.HearLaws.{shown_bad, shown_whole, used_whole, heard_whole, uncounted_whole}
use Rattle.bw_c.proofs.hearing.bwi_hear.Goals as goal

pub returns-in-Partial-clause-used : goal.returns-in-Partial-clause-used
returns-in-Partial-clause-used c = sym (ap (used (length c.args.bytes.now)) c.in-Partial.ensures)

pub returns-in-Partial-clause-shown : goal.returns-in-Partial-clause-shown
returns-in-Partial-clause-shown c = c.without_numbers.ensures ∙ sym (ap (shown _) c.in-Partial.ensures)

pub returns-in-Partial-clause-heard : goal.returns-in-Partial-clause-heard
returns-in-Partial-clause-heard c = λ s f.
    ap (λ (y : BwiReply). y.heard) c.without_numbers.ensures ∙ sym (ap (heard_first s) c.in-Partial.ensures)

pub returns-in-Partial-clause-hears : goal.returns-in-Partial-clause-hears
returns-in-Partial-clause-hears c = λ s f.
    subst (λ (r : Result (Reply × List ℕ) Reason). IsPlainSender (hear_first s r) c.args.sender.now)
    (sym c.in-Partial.ensures) f

pub returns-in-Bad-clause-used : goal.returns-in-Bad-clause-used
returns-in-Bad-clause-used c = sym (ap (used (length c.args.bytes.now)) c.in-Bad.ensures.0)

pub returns-in-Bad-clause-shown : goal.returns-in-Bad-clause-shown
returns-in-Bad-clause-shown c =
    c.without_numbers-in-Bad.ensures ∙ ap (without_numbers 4) c.code.ensures.value
    ∙ sym (shown_bad c.without_numbers-in-Bad.result.heard (reason_meaning c.in-Bad.reason) c.in-Bad.ensures.1)
    ∙ sym (ap (shown c.without_numbers-in-Bad.result.heard) c.in-Bad.ensures.0)

pub returns-in-Bad-clause-heard : goal.returns-in-Bad-clause-heard
returns-in-Bad-clause-heard c = λ s f.
    ap (λ (y : BwiReply). y.heard) c.without_numbers-in-Bad.ensures ∙ sym (ap (heard_first s) c.in-Bad.ensures.0)

pub returns-in-Bad-clause-hears : goal.returns-in-Bad-clause-hears
returns-in-Bad-clause-hears c = λ s f.
    subst (λ (r : Result (Reply × List ℕ) Reason). IsPlainSender (hear_first s r) c.args.sender.now)
    (sym c.in-Bad.ensures.0) f

pub returns-in-Whole-clause-used : goal.returns-in-Whole-clause-used
returns-in-Whole-clause-used c =
    used_whole c.args.bytes.now (4 + c.in-Whole.len) _ _ c.in-Whole.ensures.1 c.in-Whole.ensures.0

pub returns-in-Whole-clause-shown : goal.returns-in-Whole-clause-shown
returns-in-Whole-clause-shown c = shown_whole _ _ _ _ _ c.in-Whole.ensures.1 c.shown_of.ensures

pub returns-in-Whole-clause-heard : goal.returns-in-Whole-clause-heard
returns-in-Whole-clause-heard c = λ s f.
    heard_whole s _ c.count.result _ _ _ _ c.in-Whole.ensures.1 c.shown_of.ensures c.code-taken.ensures.value
    (c.count.ensures.heard s f)

pub returns-in-Whole-clause-hears : goal.returns-in-Whole-clause-hears
returns-in-Whole-clause-hears c = λ s f.
    subst (λ (r : Result (Reply × List ℕ) Reason). IsPlainSender (hear_first s r) c.count.new.sender)
    (sym c.in-Whole.ensures.1) (c.count.ensures.hears s f)

pub returns-in-Whole-clause-unchanged : goal.returns-in-Whole-clause-unchanged
returns-in-Whole-clause-unchanged c = λ isnt.
    c.count.ensures.unchanged
    (uncounted_whole _ c.count.result _ _ c.shown_of.ensures c.code-taken.ensures.value isnt)
