use Rattle.std.proofs.Common.{rules, ◌≡◌, true, false}
use Rattle.bw_recorder.specs.Packs.{has_unwritable}
use Rattle.bw_recorder.proofs.PutSteps.{failed_flush, flushed, no_flush}
use Rattle.bw_recorder.proofs.packing.finish.Goals as goal

pub returns-then-has_unwritable : goal.returns-then-has_unwritable
returns-then-has_unwritable g c = λ given before h.
    let t : has_unwritable c.args.put ≡ true = search rules in
    no_flush g.W.Sink given c.args.put before c.args.out.now t h

pub returns-in_default : goal.returns-in_default
returns-in_default g c = λ given before h.
    let t : has_unwritable c.args.put ≡ false = search rules in
    failed_flush g.W.Sink given c.args.put before c.args.out.now c.flush.new.self t h c.in_default.ensures.kept
    c.in_default.ensures.count

pub returns : goal.returns
returns g c = λ given before h.
    let t : has_unwritable c.args.put ≡ false = search rules in
    flushed g.W.Sink given c.args.put before c.args.out.now c.flush.new.self t h c.in-Ok.ensures.kept
    c.in-Ok.ensures.count c.in-Ok.ensures.ok
