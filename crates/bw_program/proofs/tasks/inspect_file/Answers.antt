use Rattle.std.proofs.Common.{refl}
use Rattle.bw_program.proofs.tasks.inspect_file.Goals as goal

pub returns : goal.returns
returns g c =
    let l = c.inspect_one.ensures in record {
      does = record {
        did = l.0;
        ends = l.1;
        gives_all = l.2;
        is = rw c.as_str.ensures.value at l.3;
        failures = l.5;
        reads = l.4;
        writes = l.6;
      };
      unused = refl;
      unread = refl;
      unpaused = refl;
      kept = refl;
    }
