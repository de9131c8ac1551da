use Rattle.std.proofs.Common.{inl, inr, refl, arith}
use Rattle.bw_takes.proofs.RoundLemmas.{ends_after, rounds_next}
use Rattle.bw_takes.proofs.watching.watch_by_reader.Goals as goal

pub loop-count-preserved : goal.loop-count-preserved
loop-count-preserved g c =
    rounds_next _ _ _ c.loop-count.count _ _ _ _ _ _ _ (omega arith) c.deref.ensures.value c.loop-count.invariant
    c.in-Ok.ensures.ok

pub returns-in-Err : goal.returns-in-Err
returns-in-Err g c = record {
  count = c.loop-count.count;
  rows = c.loop-count.rows.items;
  last = _;
  rounds = c.loop-count.invariant;
  ends = inl (ends_after _ _ _ _ _ _ _ _ c.deref.ensures.value c.in-Err.ensures.err);
}

pub returns : goal.returns
returns g c = record {
  count = c.loop-count.count;
  rows = c.loop-count.rows.items;
  last = _;
  rounds = c.loop-count.invariant;
  ends = inr (record { most = omega arith; exit_is = refl; same = refl });
}
