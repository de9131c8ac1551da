use Rattle.std.proofs.Common.{codes}
use Rattle.bw_picture.proofs.TextLemmas.{three_more}
use Rattle.bw_picture.specs.Pages.{middles}
use Rattle.bw_picture.proofs.page.put_middles.Goals as goal

pub returns : goal.returns
returns c = rw (
  c.in_ok-extend_from_slice-2.ensures.items,
  c.in_ok-put_middle_of_each.ensures,
  c.in_ok-extend_from_slice.ensures.items,
) (three_more _ (codes "<path stroke='#ccc' d='")
    (middles c.args.shape.now c.args.shape.now.channels) (codes "'/>\n"))
