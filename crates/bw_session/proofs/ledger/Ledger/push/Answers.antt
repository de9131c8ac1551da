use Rattle.std.proofs.Common.{◌≡◌, ℕ, suc, ◌+◌, ◌*◌, ◌/◌, List, length, rules, arith}
use Rattle.std.proofs.lemmas.Grind.{common_steps}
use Rattle.bw_model.specs.VerdictMeanings.{verdict_meaning}
use Rattle.bw_session.proofs.Packing.{entries_push, codes_push}
use Rattle.bw_session.proofs.ledger.Ledger.push.Goals as goal

pub invariant_of-self : goal.invariant_of-self
invariant_of-self c =
    let old : List ℕ = c.self.inside.bytes.items in
    let i = c.self.invariant.whole in
    let whole : length old ≡ 33 * (length old / 33) = grind arith in
    let len : length c.pack.new.bytes.items ≡ length old + 33 = let e =
    c.pack.ensures.items in grind (arith, common_steps) in
    let count : length c.pack.new.bytes.items / 33 ≡ suc (length old / 33) = grind arith in
    record {
      whole = grind arith;
      coded = rw (count, c.pack.ensures.items)
          (codes_push (length old / 33) old c.args.digest.now (verdict_meaning c.args.verdict) whole
          (search rules) c.self.invariant.coded);
    }

pub returns-clause-outcomes : goal.returns-clause-outcomes
returns-clause-outcomes c =
    let old : List ℕ = c.self.inside.bytes.items in
    let i = c.self.invariant.whole in
    let whole : length old ≡ 33 * (length old / 33) = grind arith in
    let len : length c.pack.new.bytes.items ≡ length old + 33 = let e =
    c.pack.ensures.items in grind (arith, common_steps) in
    let count : length c.pack.new.bytes.items / 33 ≡ suc (length old / 33) = grind arith in
    rw (count, c.pack.ensures.items, ← c.self.view_is)
    (entries_push (length old / 33) old c.args.digest.now (verdict_meaning c.args.verdict) whole (search rules))
