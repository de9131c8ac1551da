use Rattle.std.proofs.Common.{◌∙◌, arith, sym}
use Rattle.bw_contents.proofs.Trims.{trim_kept, trim_passed}
use Rattle.bw_contents.proofs.document.without_end.Goals.{then-not-is_white_space, else-not-is_white_space}
use Rattle.bw_contents.proofs.document.without_end.Goals as goal

pub loop-place-preserved : goal.loop-place-preserved
loop-place-preserved c =
    let bytes = c.args.bytes.now in
    let i = c.loop-place.place in
    elim c.if-not-is_white_space.branch [
      | then-not-is_white_space w ↦ record {
        within = omega (arith, w.len-is);
        kept = rw w.len-is (trim_kept bytes i (omega (arith, c.loop-place-test.true))
            (sym c.is_white_space.ensures ∙ w.if-not-is_white_space.true));
      }
      | else-not-is_white_space w ↦ record {
        within = omega (arith, w.len-is, c.loop-place.invariant.within);
        kept = rw w.len-is (trim_passed bytes i _ (omega (arith, c.loop-place-test.true))
            (sym c.is_white_space.ensures ∙ w.if-not-is_white_space.false) c.loop-place.invariant.kept);
      }
    ]
