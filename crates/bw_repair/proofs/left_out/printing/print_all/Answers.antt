use Rattle.std.proofs.Common.{arith}
use Rattle.std.proofs.lemmas.Grind.{common_steps}
use Rattle.bw_repair.proofs.PrintLaws.{all_printed, none_yet, one_on, stopped_on, too_many}
use Rattle.bw_repair.proofs.left_out.printing.print_all.Goals as goal

pub loop-place-init : goal.loop-place-init
loop-place-init g c = record {
  room = grind (arith, common_steps);
  near = omega arith;
  far = none_yet g.W.Sink (g.R.Source.left c.args.reader.now) c.args.out.now;
}

pub returns-in-Ok-eq0 : goal.returns-in-Ok-eq0
returns-in-Ok-eq0 g c =
    all_printed g.W.Sink _ c.loop-place.place c.in-Ok-eq0.field-0 _ _ _ _ _ c.in-Ok-eq0.field-0-test
    c.loop-place.invariant.far c.in-Ok-eq0.ensures.ok

pub returns-in-Err : goal.returns-in-Err
returns-in-Err g c =
    stopped_on g.W.Sink _ c.loop-place.place _ c.in-Err.fault _ _ _ c.loop-place.invariant.far c.in-Err.ensures.err

pub loop-place-preserved : goal.loop-place-preserved
loop-place-preserved g c = record {
  room = grind (arith, common_steps);
  near = grind (arith, common_steps);
  far = one_on g.W.Sink _ c.loop-place.place c.in-Ok.count _ _ _ _ _ c.loop-place.invariant.far c.in-Ok.ensures.ok;
}

pub returns : goal.returns
returns g c = too_many g.W.Sink _ c.loop-place.place _ _ _ c.loop-place.invariant.far
