use Rattle.std.proofs.Common.{codes}
use Rattle.std.specs.Prelude.{◌+◌}
use Rattle.bw_picture.proofs.TextLemmas.{three_more}
use Rattle.bw_picture.specs.Pages.{height_of, look, view_size}
use Rattle.bw_picture.proofs.page.put_opening.Goals as goal

pub returns : goal.returns
returns c = rw (
  c.in_ok-put_look.ensures,
  c.in_ok-put_size.ensures,
  c.in_ok-extend_from_slice.ensures.items,
  c.height_of.ensures.value,
) (three_more _ (codes "<svg xmlns='http://www.w3.org/2000/svg' viewBox='-40 -20 ")
    (view_size (c.args.shape.now.columns + 80) (height_of c.args.shape.now + 44)) look)
