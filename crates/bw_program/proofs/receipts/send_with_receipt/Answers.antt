use Rattle.std.proofs.Common.{◌≡◌, Ok, inl, inr, refl, rules, sym, true}
use Rattle.std.specs.Net.Text.{socket_text}
use Rattle.bw_console.specs.Prints.{Nothing}
use Rattle.bw_console.specs.declared.exit.Exit.TheVariants as exits
use Rattle.bw_program.proofs.ReceiptLemmas.{begins-at, puts-unless-done}
use Rattle.bw_program.proofs.receipts.send_with_receipt.Goals as goal

pub returns-in_default : goal.returns-in_default
returns-in_default g c =
    let l = c.give_up.ensures.line in record {
      sent = inl (record {
        did = record { reads_all = true; out = Nothing; faults = l.0; exit = exits.Memory };
        ends = sym c.give_up.ensures.exit;
        is = record { exit_is = refl; reads = refl; prints = refl; reports = l.1 };
        faults = c.give_up.new.faults;
        reports = l.2;
        alone = refl;
      });
      well = refl;
      unused = refl;
      unread = refl;
      kept = refl;
    }

pub returns-in-Err : goal.returns-in-Err
returns-in-Err g c = record {
  sent = inr (inl (record {
    opened = c.receipts-receipts.result;
    kept = c.receipts-receipts.ensures;
    left = c.begin_receipts.new.receipts;
    faults = c.begin_receipts.new.faults;
    begins = rw c.as_str-to.ensures.value at c.in-Err.ensures;
    alone = refl;
  }));
  well = refl;
  unused = refl;
  unread = refl;
  kept = refl;
}

pub returns-in-Done : goal.returns-in-Done
returns-in-Done g c =
    let text : c.as_str.result.now ≡ socket_text c.args.sender.now.connect = search rules in
    let sent = c.in-Done.ensures in record {
      sent = inr (inr (record {
        opened = c.receipts-receipts.result;
        kept = c.receipts-receipts.ensures;
        begun = c.begin_receipts.new.receipts;
        faults = c.begin_receipts.new.faults;
        file = c.in-Ok-begin_receipts.file;
        begins = begins-at g.X.Files.Receipts.ReceiptFiles g.X.Diagnostics.Sink _ _ (Ok c.in-Ok-begin_receipts.file)
            c.receipts-receipts.result c.begin_receipts.new.receipts c.args.outside.now.faults
            c.begin_receipts.new.faults c.as_str-to.ensures.value c.in-Ok-begin_receipts.ensures;
        sent = exits.Done;
        between = record {
          files = c.send_file_there.new.outside.files;
          pause = c.send_file_there.new.outside.pause;
          out = c.send_file_there.new.outside.out;
          faults = c.send_file_there.new.outside.faults;
        };
        sends_it = sent.sent;
        left = c.put_receipt.new.receipts;
        puts = record {
          job = c.job_of-job.result;
          job_is = c.job_of-job.ensures text;
          puts = c.put_receipt.ensures.puts;
          unchanged = c.put_receipt.ensures.files;
          unpaused = refl;
        };
      }));
      well = sent.well;
      unused = sent.unused;
      unread = sent.unread;
      kept = sent.kept;
    }

pub returns : goal.returns
returns g c =
    let sent = c.send_file_there.ensures in record {
      sent = inr (inr (record {
        opened = c.receipts-receipts.result;
        kept = c.receipts-receipts.ensures;
        begun = c.begin_receipts.new.receipts;
        faults = c.begin_receipts.new.faults;
        file = c.in-Ok-begin_receipts.file;
        begins = begins-at g.X.Files.Receipts.ReceiptFiles g.X.Diagnostics.Sink _ _ (Ok c.in-Ok-begin_receipts.file)
            c.receipts-receipts.result c.begin_receipts.new.receipts c.args.outside.now.faults
            c.begin_receipts.new.faults c.as_str-to.ensures.value c.in-Ok-begin_receipts.ensures;
        sent = c.send_file_there.result;
        between = record {
          files = c.send_file_there.new.outside.files;
          pause = c.send_file_there.new.outside.pause;
          out = c.send_file_there.new.outside.out;
          faults = c.send_file_there.new.outside.faults;
        };
        sends_it = sent.sent;
        left = c.begin_receipts.new.receipts;
        puts = puts-unless-done _ _ _ _ _ _ _ c.send_file_there.result _ _
            c.in_default-send_file_there.not-Done;
      }));
      well = sent.well;
      unused = sent.unused;
      unread = sent.unread;
      kept = sent.kept;
    }
