-- An offered request in a window, and its verdict.
use Rattle.std.proofs.Common.{◌≡◌, ℕ, suc, zero, List, [], ◌∷◌, map, Some, None, sym, ap}
use Rattle.std.specs.Prelude.{slice_get, slice_set}
use Rattle.bw_model.proofs.Elements.{some_inj}
use Rattle.bw_model.specs.VerdictMeanings.{verdict_meaning}
use Rattle.bw_model.specs.declared.verdict.Verdict.{Verdict}
use Rattle.bw_sender.specs.declared.window.Offered.{Offered}
use Rattle.bw_sender.specs.Entries.{SenderEntry, judged}
use Rattle.bw_sender.specs.Offers.{sender_entry}

no_some : {X : Type 0} {x : X} → None ≡ Some x → ⊥
no_some e = cc

pub judged_set : (os : List Offered) (i : ℕ) (o : Offered) (v : Verdict) → slice_get os i ≡ Some o →
    map sender_entry (slice_set os i (record { request = o.request; verdict = Some v }))
    ≡ judged (map sender_entry os) i (verdict_meaning v)
judged_set [] i o v e = absurd (no_some e)
judged_set (x ∷ os) zero o v e =
    let same : o ≡ x = sym (some_inj e) in
    ap (λ (z : Offered). record { request = z.request; verdict = Some (verdict_meaning v) } ∷ map sender_entry os) same
judged_set (x ∷ os) (suc i) o v e = ap (λ (es : List SenderEntry). sender_entry x ∷ es) (judged_set os i o v e)
