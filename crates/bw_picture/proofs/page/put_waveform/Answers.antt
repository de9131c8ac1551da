use Rattle.std.proofs.Common.{codes}
use Rattle.bw_picture.proofs.TextLemmas.{three_more}
use Rattle.bw_picture.proofs.page.put_waveform.Goals as goal

pub returns : goal.returns
returns c = rw (
  c.in_ok-extend_from_slice-3.ensures.items,
  c.in_ok-extend_from_slice-2.ensures.items,
  c.in_ok-extend_from_slice.ensures.items,
) (three_more _ (codes "<path stroke='#246' d='") c.args.strokes.now (codes "'/>\n"))
