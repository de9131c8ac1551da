use Rattle.std.proofs.Common.{◌∙◌, inl, inr, refl, sym}
use Rattle.bw_program.proofs.folders.verify_folder.Goals as goal

pub returns-then-is_odd : goal.returns-then-is_odd
returns-then-is_odd g c =
    let l = c.refuse_kind.ensures in (
      record {
        kind = c.kind_at-kind.result;
        found = rw c.as_str-path.ensures.value at c.kind_at-kind.ensures;
        verifies = inl (record {
          odd = sym c.is_odd.ensures ∙ c.if-is_odd.true;
          print = l.0;
          says = rw c.as_str-path.ensures.value at l.1;
          faults = _;
          alone = refl;
          reports = l.2;
        });
      },
      refl,
      refl,
      refl,
    )

pub returns : goal.returns
returns g c =
    let l = c.show_verified.ensures in (
      record {
        kind = c.kind_at-kind.result;
        found = rw c.as_str-path.ensures.value at c.kind_at-kind.ensures;
        verifies = inr (
          sym c.is_odd.ensures ∙ c.if-is_odd.false,
          record {
            did = l.0;
            ends = l.1;
            is = rw (c.as_str.ensures.value, c.as_str-path.ensures.value) at l.2;
            disk = l.3;
            writes = l.4;
            unlocked = refl;
            unpaused = refl;
          },
        );
      },
      refl,
      refl,
      refl,
    )
