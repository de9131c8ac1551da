use Rattle.std.proofs.Common.{◌<◌, ◌∙◌, length, arith}
use Rattle.bw_picture.specs.Pages.{marker}
use Rattle.bw_picture.proofs.TextLemmas.{one_more}
use Rattle.bw_picture.proofs.page.put_markers.Goals as goal

pub loop-cue-preserved : goal.loop-cue-preserved
loop-cue-preserved c =
    let inside : c.loop-cue.cue-index < length c.as_slice-cue-items.result.now = omega arith in
    c.in_ok-put_marker.ensures
    ∙ one_more (marker c.args.shape.now) c.as_slice-cue-items.result.now c.loop-cue.cue-index c.cue-item.result
    c.args.text.now.items _ inside c.cue-item.is c.loop-cue.invariant
