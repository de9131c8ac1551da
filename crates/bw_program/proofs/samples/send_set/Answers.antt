use Rattle.std.proofs.Common.{◌≡◌, ◌∙◌, Some, None, ap, false, refl, sym, true}
use Rattle.std.specs.Prelude.{is_some}
use Rattle.bw_program.specs.PcmUploads.{awaited_end, file_awaited}
use Rattle.bw_program.proofs.samples.send_set.Goals as goal

never : {X : Type 0} → true ≡ false → X
never is = cc

pub returns-in-Awaited : goal.returns-in-Awaited
returns-in-Awaited g c =
    let s = c.follow_samples.ensures in record {
      sent = record {
        first = c.dial_paced-dial.result;
        calls = c.dial_paced-dial.ensures.received;
        last = _;
        recorder = c.recorder_of-recorder.result;
        recorder_is = c.recorder_of-recorder.ensures;
        file = c.pcm_file_of-file.result;
        file_is = c.pcm_file_of-file.ensures;
        did = s.0;
        ends = s.1;
        awaits = Some (is_some c.in-Awaited.until);
        awaits_is = sym (ap file_awaited c.in-Awaited.is) ∙ c.ending_of.ensures;
        is = λ said. s.2;
        grows = λ held. never (sym held ∙ c.if-sender.false);
        failures = s.3;
        writes = s.4;
      };
      well = refl;
      unused = refl;
      unread = refl;
      kept = refl;
    }

pub returns : goal.returns
returns g c =
    let s = c.send_samples.ensures in record {
      sent = record {
        first = c.dial_paced-dial.result;
        calls = c.dial_paced-dial.ensures.received;
        last = _;
        recorder = c.recorder_of-recorder.result;
        recorder_is = c.recorder_of-recorder.ensures;
        file = c.pcm_file_of-file.result;
        file_is = c.pcm_file_of-file.ensures;
        did = s.0;
        ends = s.1;
        awaits = None;
        awaits_is = sym (ap file_awaited c.in-Past.is) ∙ c.ending_of.ensures;
        is = λ said. s.2;
        grows = λ held. never (sym held ∙ c.if-sender.false);
        failures = s.3;
        writes = s.4;
      };
      well = refl;
      unused = refl;
      unread = refl;
      kept = refl;
    }

pub returns-then-sender : goal.returns-then-sender
returns-then-sender g c =
    let s = c.follow_recording.ensures in record {
      sent = record {
        first = c.dial_paced-dial.result;
        calls = c.dial_paced-dial.ensures.received;
        last = _;
        recorder = c.recorder_of-recorder.result;
        recorder_is = c.recorder_of-recorder.ensures;
        file = c.pcm_file_of-file.result;
        file_is = c.pcm_file_of-file.ensures;
        did = s.0;
        ends = s.1;
        awaits = awaited_end c.args.sender.now.pcm.is_spooled c.args.sender.now.pcm.until;
        awaits_is = refl;
        is = λ said. never (sym c.if-sender.true ∙ said);
        grows = λ held. s.2;
        failures = s.3;
        writes = s.4;
      };
      well = refl;
      unused = refl;
      unread = refl;
      kept = refl;
    }
