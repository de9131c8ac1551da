use Rattle.std.proofs.Common.{refl}
use Rattle.bw_kept.specs.KeptServers.{table_server}
use Rattle.bw_machine.proofs.OpenedServers.{begins_over}
use Rattle.bw_machine.proofs.locked.open_over.Goals as goal

pub returns-in-Ok-server_over-clause-opened : goal.returns-in-Ok-server_over-clause-opened
returns-in-Ok-server_over-clause-opened g c =
    let made = c.in-Ok-server_over.ensures in
    let ready = c.in-Ok.ensures in
    record {
      over = made.over;
      begins = begins_over c.args.takes c.args.notes c.count_names.new.notes
          (table_server c.in-Ok-server_over.server) made.none made.disks ready.notes;
      committed = made.answered;
      count = c.in-Ok.count;
      takes_are = refl;
      counted = ready.counted;
    }
