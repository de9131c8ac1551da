use Rattle.std.proofs.Common.{◌≡◌, true, refl, arith}
use Rattle.std.specs.Prelude.{nat_le}
use Rattle.std.proofs.lemmas.Bool.{le-leb}
use Rattle.bw_layout.proofs.raw.read_loudness.Goals as goal

pub returns-then-read_u16-lt2 : goal.returns-then-read_u16-lt2
returns-then-read_u16-lt2 c = rw (← c.read_u16.ensures) (grind arith)

pub returns : goal.returns
returns c =
    let given : nat_le 2 c.read_u16.result ≡ true = le-leb 2 c.read_u16.result c.if-read_u16-lt2.false in
    rw (
      ← c.read_u16.ensures,
      given,
      ← c.read_u16-2.ensures,
      ← c.read_u16-3.ensures,
      ← c.read_u16-4.ensures,
      ← c.read_u16-5.ensures,
      ← c.read_u16-6.ensures,
    ) refl
