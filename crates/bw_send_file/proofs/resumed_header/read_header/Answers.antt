use Rattle.std.proofs.Common.{inl, inr, refl}
use Rattle.bw_plan.specs.Plans.{plan}
use Rattle.bw_plan.specs.Recordings.{block_frames}
use Rattle.bw_recorder.proofs.PackSteps.{not_opened, refusal, unopened}
use Rattle.bw_send_file.proofs.resumed_header.read_header.Goals as goal

pub returns-in-Ok-header_of-clause-ok : goal.returns-in-Ok-header_of-clause-ok
returns-in-Ok-header_of-clause-ok g c = λ b at.
    let r = c.in-Ok.ensures.ok b at in
    record {
      recording = r.recording;
      is = r.is;
      first = c.in-Ok.opened.feed.stamp;
      stamped = c.in-Ok.ensures.looked.first_is;
      header_is = c.in-Ok-header_of.ensures.ok
          (plan (block_frames c.args.options.now r.recording.outline.format) r.recording) r.gives;
    }

pub returns-in-Ok-clause-err : goal.returns-in-Ok-clause-err
returns-in-Ok-clause-err g c =
    let r = c.report_file_fault.ensures in (
      refusal c.report_file_fault.result r.0,
      refl,
      inr (record {
        begun = c.in-Ok.opened.feed;
        text = c.in-Ok.opened.warnings.items;
        opens = record { looked = c.in-Ok.ensures.looked; right = c.in-Ok.ensures.ok };
        well = refl;
        silent = record { warned = refl; prints = refl };
        fault = c.in-Err-header_of.fault;
        fails = c.in-Err-header_of.ensures.err;
        reports = r.1;
      }),
      c.in-Ok.ensures.count,
      r.2,
    )

pub returns-clause-err : goal.returns-clause-err
returns-clause-err g c =
    let r = c.report_open_fault.ensures in
    let fault = c.in-Err.fault in (
      unopened fault c.report_open_fault.result r.0,
      refl,
      inl (not_opened _ _ _ _ fault _ r.0 c.in-Err.ensures.err r.1),
      c.in-Err.ensures.count,
      r.2,
    )
