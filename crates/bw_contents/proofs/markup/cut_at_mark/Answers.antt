use Rattle.std.proofs.Common.{◌∙◌, arith, sym, length, drop}
use Rattle.bw_contents.proofs.Scans.{cut_found, cut_passed, tail_is}
use Rattle.bw_contents.proofs.markup.cut_at_mark.Goals as goal

pub returns-then-begins_with : goal.returns-then-begins_with
returns-then-begins_with c =
    let place = c.loop-place.place in
    let bytes = c.args.bytes.now in
    let mark = c.args.mark.now in
    rw (tail_is place bytes, tail_is (length mark) (drop place bytes)) (cut_found mark bytes place
    (omega (arith, c.loop-place-test.true)) c.loop-place.invariant
    (rw (tail_is place bytes) at (sym c.begins_with.ensures.value ∙ c.if-begins_with.true)))

pub loop-place-preserved : goal.loop-place-preserved
loop-place-preserved c =
    let place = c.loop-place.place in
    let bytes = c.args.bytes.now in
    cut_passed c.args.mark.now bytes place
    (omega (arith, c.loop-place-test.true)) c.loop-place.invariant
    (rw (tail_is place bytes) at (sym c.begins_with.ensures.value ∙ c.if-begins_with.false))
