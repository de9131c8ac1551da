use Rattle.std.proofs.Common.{arith, ◌∙◌, rules}
use Rattle.std.proofs.lemmas.Grind.{common_steps}
use Rattle.bw_console.proofs.InputLemmas.{prefix-is-all, more-prefix, read-ahead}
use Rattle.bw_console.proofs.input.all_bytes.Goals as goal

pub returns-then-count-eq0-clause-reads : goal.returns-then-count-eq0-clause-reads
returns-then-count-eq0-clause-reads g c b e =
    let prefix = c.loop-piece.invariant.prefix b e in
    let within = c.loop-piece.invariant.within in
    let none = c.if-count-eq0.true in
    read-ahead b _ _ _ _ _ _ prefix (c.in-Ok.ensures.ok _ prefix.rest) (omega arith)

pub returns-then-count-eq0-clause-ok : goal.returns-then-count-eq0-clause-ok
returns-then-count-eq0-clause-ok g c b e =
    let prefix = c.loop-piece.invariant.prefix b e in
    prefix-is-all b _ _ _ _ _ _ prefix (c.in-Ok.ensures.ok _ prefix.rest) c.if-count-eq0.true (grind (arith, common_steps))

pub loop-piece-preserved : goal.loop-piece-preserved
loop-piece-preserved g c = record {
  within = grind (arith, common_steps, c.in-Ok.ensures.within, c.in_ok-extend_from_slice.ensures.items);
  count = c.in-Ok.ensures.count ∙ c.loop-piece.invariant.count;
  moved = grind (
    arith,
    common_steps,
    c.in-Ok.ensures.moved,
    c.loop-piece.invariant.moved,
    c.in_ok-extend_from_slice.ensures.items,
    c.in-Ok.ensures.within,
  );
  prefix = λ b e.
      let prefix = c.loop-piece.invariant.prefix b e in
      rw c.in_ok-extend_from_slice.ensures.items
      (more-prefix b _ _ _ _ _ _ _ prefix (c.in-Ok.ensures.ok _ prefix.rest)
      (grind (arith, common_steps, c.in-Ok.ensures.within)));
}

pub returns-in_err-extend_from_slice-clause-reads : goal.returns-in_err-extend_from_slice-clause-reads
returns-in_err-extend_from_slice-clause-reads g c b e =
    let prefix = c.loop-piece.invariant.prefix b e in
    read-ahead b _ _ _ _ _ _ prefix (c.in-Ok.ensures.ok _ prefix.rest)
    (grind (arith, common_steps, c.in-Ok.ensures.within))

pub returns-in_default-clause-count : goal.returns-in_default-clause-count
returns-in_default-clause-count g c = search rules

pub returns-in_default-clause-ok : goal.returns-in_default-clause-ok
returns-in_default-clause-ok g c = search rules
