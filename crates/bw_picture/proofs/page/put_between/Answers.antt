use Rattle.std.proofs.Common.{decimal}
use Rattle.bw_picture.proofs.TextLemmas.{three_more}
use Rattle.bw_picture.proofs.page.put_between.Goals as goal

pub returns : goal.returns
returns c = rw (
  c.in_ok-extend_from_slice-2.ensures.items,
  c.in_ok-put_number.ensures,
  c.in_ok-extend_from_slice.ensures.items,
) (three_more _ c.args.before.now (decimal c.args.number) c.args.after.now)
