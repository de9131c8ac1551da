use Rattle.std.proofs.Common.{◌∙◌, drop, sym, arith, add-one, drop_of_length-le}
use Rattle.bw_serve_status.proofs.GrownPlaces.{grown_later, grown_none}
use Rattle.bw_serve_status.proofs.growth.grown_at.Goals as goal

pub loop-place-preserved : goal.loop-place-preserved
loop-place-preserved c =
    rw (add-one c.loop-place.place) (sym (grown_later c.args.name.now c.args.names.now c.args.growth.now
    c.loop-place.place c.index-names-place.result (omega (arith, c.if-place-names.false))
    (omega (arith, c.loop-place-test.true)) c.index-names-place.is (sym c.is_of.ensures ∙ c.if-is_of.false))
    ∙ c.loop-place.invariant)

pub returns : goal.returns
returns c =
    sym (grown_none c.args.name.now (drop c.loop-place.place c.args.names.now)
    (drop c.loop-place.place c.args.growth.now)
    (drop_of_length-le c.args.growth.now c.loop-place-test.false)) ∙ c.loop-place.invariant
