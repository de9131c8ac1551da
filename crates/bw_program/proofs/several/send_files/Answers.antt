use Rattle.std.proofs.Common.{Err, Ok, refl}
use Rattle.bw_program.proofs.several.send_files.Goals as goal

pub returns-in-Ok : goal.returns-in-Ok
returns-in-Ok g c =
    let sent = c.send_each.ensures in record {
      request = c.request_of-request.result;
      request_is = c.request_of-request.ensures;
      opened = Ok c.in-Ok.queue;
      system = c.args.outside.now.system;
      counts = refl;
      disk = c.open_queue.new.disk;
      faults = c.open_queue.new.faults;
      opens = c.in-Ok.ensures;
      ends = (sent.sent, sent.well, sent.unused, sent.unread, sent.kept);
    }

pub returns-in-Err : goal.returns-in-Err
returns-in-Err g c = record {
  request = c.request_of-request.result;
  request_is = c.request_of-request.ensures;
  opened = Err c.in-Err.exit;
  system = c.args.outside.now.system;
  counts = refl;
  disk = c.open_queue.new.disk;
  faults = c.open_queue.new.faults;
  opens = c.in-Err.ensures;
  ends = (
    refl,
    record {
      well = refl;
      unread = refl;
      kept = refl;
      unused = refl;
      unpaused = refl;
      untaken = refl;
      unprinted = refl;
      unreported = refl;
    },
  );
}
