use Rattle.std.proofs.Common.{rules, ◌≡◌, ℕ, ◌+◌, ◌*◌, ◌/◌, ◌<◌, length, get_or, ap, ◌∙◌, sym, subst}
use Rattle.std.specs.Prelude.{IsSome, unwrap_or}
use Rattle.std.proofs.lemmas.List.{get_or_read}
use Rattle.bw_model.specs.Take.{Stored}
use Rattle.bw_model.specs.Replies.{verdict_of as verdict_with_code}
use Rattle.bw_session.specs.Ledgers.{verdict_coded}
use Rattle.bw_session.proofs.Packing.{length-entries, entries_at, packed_within, codes_at}
use Rattle.bw_session.proofs.ledger.Ledger.verdict_at.Goals as goal

pub overflow_mul-number : goal.overflow_mul-number
overflow_mul-number c =
    let w = packed_within c.self.inside.bytes.items c.args.number c.self.invariant
    (rw (← c.self.view_is) at c.requires) in
    search rules

pub overflow_add-number : goal.overflow_add-number
overflow_add-number c =
    let w = packed_within c.self.inside.bytes.items c.args.number c.self.invariant
    (rw (← c.self.view_is) at c.requires) in
    search rules

pub index-requires : goal.index-requires
index-requires c =
    let w = packed_within c.self.inside.bytes.items c.args.number c.self.invariant
    (rw (← c.self.view_is) at c.requires) in
    search rules

pub verdict_with-requires : goal.verdict_with-requires
verdict_with-requires c =
    let n : ℕ = length c.self.inside.bytes.items / 33 in
    let below : c.args.number < n = rw (← c.self.view_is, length-entries) at c.requires in
    let read : get_or c.self.inside.bytes.items (33 * c.args.number + 32) 0 ≡ c.index.result.now =
    sym (get_or_read c.self.inside.bytes.items (33 * c.args.number + 32) c.index.result.now
    (search rules) c.index.ensures 0) in
    subst (λ (x : ℕ). IsSome (verdict_with_code x)) read
    (codes_at n c.args.number c.self.inside.bytes.items below c.self.invariant.coded)

pub returns : goal.returns
returns c d =
    let n : ℕ = length c.self.inside.bytes.items / 33 in
    let below : c.args.number < n = rw (← c.self.view_is, length-entries) at c.requires in
    let read : get_or c.self.inside.bytes.items (33 * c.args.number + 32) 0 ≡ c.index.result.now =
    sym (get_or_read c.self.inside.bytes.items (33 * c.args.number + 32) c.index.result.now
    (search rules) c.index.ensures 0) in
    rw (← c.self.view_is, entries_at n c.args.number c.self.inside.bytes.items d below)
    (sym (ap verdict_coded read ∙ ap (λ o. unwrap_or o Stored) c.verdict_with.ensures))
