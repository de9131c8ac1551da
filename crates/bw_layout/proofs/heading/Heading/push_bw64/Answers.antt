use Rattle.std.proofs.Common.{arith}
use Rattle.std.proofs.lemmas.List.{append_assoc}
use Rattle.bw_layout.specs.Headers.{bw64_header}
use Rattle.bw_layout.proofs.heading.Heading.push_bw64.Goals as goal

pub returns : goal.returns
unfolding bw64_header
returns c = record {
  items = rw (
    c.push_head-2.ensures.items,
    c.push_middle.ensures.items,
    c.push_ds64.ensures.items,
    c.push_bytes.ensures.items,
    c.push_head.ensures.items,
  ) (simp append_assoc);
  len = omega arith;
  capacity = omega arith;
}
