use Rattle.std.proofs.Common.{Err, Ok, refl}
use Rattle.bw_program.proofs.left_out.send_file_kept.Goals as goal

pub returns-in-Err : goal.returns-in-Err
returns-in-Err g c = record {
  result = Err c.in-Err.exit;
  kept = record {
    files = c.keep_asked.new.files;
    disk = c.keep_asked.new.disk;
    faults = c.keep_asked.new.faults;
  };
  keeps = c.in-Err.ensures;
  ends = (
    refl,
    record {
      well = refl;
      unread = refl;
      kept = refl;
      unused = refl;
      unpaused = refl;
      untaken = refl;
      unprinted = refl;
      unreported = refl;
    },
  );
}

pub returns : goal.returns
returns g c =
    let sent = c.send_file_asked.ensures in record {
      result = Ok c.in_default.field-0;
      kept = record {
        files = c.keep_asked.new.files;
        disk = c.keep_asked.new.disk;
        faults = c.keep_asked.new.faults;
      };
      keeps = c.in_default.ensures;
      ends = (sent.sent, sent.well, sent.unused, sent.unread, sent.kept);
    }
