use Rattle.std.proofs.Common.{◌++◌, ◌∷◌, Bool, ℕ, [], Option, Some, ap, sym, ◌∙◌, refl}
use Rattle.std.proofs.Common.{Bor}
use Rattle.std.specs.Prelude.{is_some, option_map, option_copied, option_and_then}
use Rattle.bw_model.specs.VerdictMeanings.{verdict_meaning}
use Rattle.bw_model.specs.declared.verdict.Verdict.{Verdict}
use Rattle.bw_sender.specs.declared.window.Offered.{Offered}
use Rattle.bw_sender.specs.Entries.{SenderEntry}
use Rattle.bw_sender.specs.Offers.{sender_entry}
use Rattle.bw_sender.proofs.EntryLaws.{or_left}
use Rattle.bw_sender.proofs.SenderLaws.{settles_stored, settles_refused, all_settled, number_is}
use Rattle.bw_sender.proofs.sender.Sender.settle_one.Goals as goal
use Rattle.bw_sender.proofs.sender.Sender.settle_one.Goals.{then-self, else-self}

abbrev judged_in : Option SenderEntry → Bool
judged_in w = is_some (option_and_then (λ (e : SenderEntry). e.verdict) w)

abbrev lent : Option (Bor Offered) → Option SenderEntry
lent o = option_map sender_entry (option_copied o)

abbrev with_verdict : Offered → Option Verdict → Option SenderEntry
with_verdict o v = Some (record { request = o.request; verdict = option_map verdict_meaning v })

pub returns-in_default-clause-none : goal.returns-in_default-clause-none
returns-in_default-clause-none c = λ none k s f.
    all_settled k s c.args.self.now f
    (sym (ap judged_in c.get.ensures.value) ∙ ap (λ o. judged_in (lent o)) c.in_default.is)

pub returns-in_default-verdict-clause-none : goal.returns-in_default-verdict-clause-none
returns-in_default-verdict-clause-none c = λ none k s f.
    all_settled k s c.args.self.now f
    (sym (ap judged_in c.get.ensures.value) ∙ ap (λ o. judged_in (lent o)) c.in-Some.is
    ∙ ap (λ v. judged_in (with_verdict c.in-Some.first.now v)) c.in_default-verdict.is)

pub returns-after-self-clause-one : goal.returns-after-self-clause-one
returns-after-self-clause-one c = λ one k s f.
    settles_stored k s c.args.self.now _ c.in-Some.first.now.request (verdict_meaning c.in-Some-verdict.verdict) f
    (sym c.get.ensures.value ∙ ap lent c.in-Some.is ∙ ap (with_verdict c.in-Some.first.now) c.in-Some-verdict.is)
    (sym c.is_stored.ensures.value ∙ c.if-is_stored.true) refl refl c.pop.ensures refl refl
    (elim c.if-self.branch [
      | then-self w ↦ w.self-is ∙ w.if-self.true ∙ sym (or_left _ w.if-self.true)
      | else-self w ↦ w.self-is ∙ c.is_close-closes.ensures ∙ sym (or_left _ w.if-self.false)
    ])

pub returns-else-is_stored-clause-one : goal.returns-else-is_stored-clause-one
returns-else-is_stored-clause-one c = λ one k s f.
    let same = number_is k _ s c.args.self.now f c.settled-number.ensures.rest in
    settles_refused k s c.args.self.now _ c.in-Some.first.now.request (verdict_meaning c.in-Some-verdict.verdict) f
    (sym c.get.ensures.value ∙ ap lent c.in-Some.is ∙ ap (with_verdict c.in-Some.first.now) c.in-Some-verdict.is)
    (sym c.is_stored.ensures.value ∙ c.if-is_stored.false) refl refl c.pop.ensures refl
    (c.push.ensures.numbers
    ∙ ap (λ (n : ℕ). c.args.self.now.refused.numbers ++ (n, verdict_meaning c.in-Some-verdict.verdict) ∷ []) same)
    refl
