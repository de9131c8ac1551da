use Rattle.std.proofs.Common.{rules, ℕ, ◌/◌, ◌<◌, length}
use Rattle.bw_session.proofs.Packing.{length-entries, entries_at, packed_within}
use Rattle.bw_session.proofs.ledger.Ledger.has_digest.Goals as goal

pub digest_at-requires : goal.digest_at-requires
digest_at-requires c =
    let w = packed_within c.self.inside.bytes.items c.args.number c.self.invariant
    (rw (← c.self.view_is) at c.requires) in
    search rules

pub returns : goal.returns
returns c d =
    let n : ℕ = length c.self.inside.bytes.items / 33 in
    let below : c.args.number < n = rw (← c.self.view_is, length-entries) at c.requires in
    rw (← c.self.view_is, entries_at n c.args.number c.self.inside.bytes.items d below) (search rules)
