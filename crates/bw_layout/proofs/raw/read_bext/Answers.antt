use Rattle.std.proofs.Common.{refl, arith}
use Rattle.bw_layout.proofs.raw.read_bext.Goals as goal

pub returns : goal.returns
returns c = (
  omega arith,
  rw (
    c.read_array.ensures,
    c.read_array-2.ensures,
    c.read_array-3.ensures,
    c.read_array-4.ensures,
    c.read_array-5.ensures,
    c.read_u64.ensures,
    c.read_u16.ensures,
    c.read_array-6.ensures,
    c.read_loudness.ensures,
    c.read_array-7.ensures,
  ) refl,
)
