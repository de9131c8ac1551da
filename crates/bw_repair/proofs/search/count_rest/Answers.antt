use Rattle.std.proofs.Common.{arith, ◌+◌}
use Rattle.std.proofs.lemmas.Grind.{common_steps}
use Rattle.bw_inspect.proofs.PartialReads.{ended, more_passed}
use Rattle.bw_repair.proofs.search.count_rest.Goals as goal

pub returns-in-Ok-eq0-clause-ok : goal.returns-in-Ok-eq0-clause-ok
returns-in-Ok-eq0-clause-ok g c b e h =
    let i = c.loop-count.invariant.bytes b e in
    let r = c.in-Ok-eq0.ensures.ok _ i.rest in
    let within = i.within in
    let gone = ended b (c.args.place + 8 + c.loop-count.count) (r.end c.in-Ok-eq0.field-0-test (omega arith)) in
    grind (arith, gone, within, h)

pub loop-count-preserved : goal.loop-count-preserved
loop-count-preserved g c = record {
  within = let n = c.in-Ok.ensures.within in omega arith;
  failures = grind (arith, common_steps);
  bytes = λ b e.
      let i = c.loop-count.invariant.bytes b e in
      more_passed b (c.args.place + 8) c.loop-count.count c.in-Ok.some _ _ i.within (c.in-Ok.ensures.ok _ i.rest);
}
