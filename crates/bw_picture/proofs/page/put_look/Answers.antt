use Rattle.std.proofs.Common.{codes, append_assoc}
use Rattle.bw_picture.proofs.page.put_look.Goals as goal

pub returns : goal.returns
returns c = rw (
  c.in_ok-extend_from_slice-2.ensures.items,
  c.in_ok-extend_from_slice.ensures.items,
) (append_assoc _ (codes "' font-family='sans-serif' font-size='11' text-anchor='middle'>\n")
    (codes "<rect x='-40' y='-20' width='100%' height='100%' fill='#fff'/>\n"))
