use Rattle.std.proofs.Common.{Err, Ok, false, refl, true}
use Rattle.bw_program.proofs.several.OutsideSendsOne.send_one.Goals as goal

pub returns-in-Ok-true : goal.returns-in-Ok-true
returns-in-Ok-true g c = record {
  sent = record {
    files = c.has_receipt.new.files;
    unchanged = c.in-Ok-true.ensures.files;
    found = Ok true;
    has = rw (c.as_str-path.ensures.value, c.in-Ok-true.field-0-test) at c.in-Ok-true.ensures.has;
    ends = record { out = c.say_line.new.out; faults = c.say_line.new.faults; says = c.say_line.ensures; alone = refl };
  };
  well = refl;
  unused = refl;
  unread = refl;
  kept = refl;
}

pub returns-in-Ok-false : goal.returns-in-Ok-false
returns-in-Ok-false g c =
    let sent = c.send_named.ensures in record {
      sent = record {
        files = c.has_receipt.new.files;
        unchanged = c.in-Ok-false.ensures.files;
        found = Ok false;
        has = rw (c.as_str-path.ensures.value, c.in-Ok-false.field-0-test) at c.in-Ok-false.ensures.has;
        ends = sent.sent;
      };
      well = sent.well;
      unused = sent.unused;
      unread = sent.unread;
      kept = sent.kept;
    }

pub returns-in-Err : goal.returns-in-Err
returns-in-Err g c =
    let l = c.give_up.ensures.line in record {
      sent = record {
        files = c.has_receipt.new.files;
        unchanged = c.in-Err.ensures.files;
        found = Err c.in-Err.field-0;
        has = c.in-Err.ensures.has;
        ends = record {
          ends = c.give_up.ensures.exit;
          faults = c.give_up.new.faults;
          reports = (l.0, l.1, l.2);
          alone = refl;
        };
      };
      well = refl;
      unused = refl;
      unread = refl;
      kept = refl;
    }
