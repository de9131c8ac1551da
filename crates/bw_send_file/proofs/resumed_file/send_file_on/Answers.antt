use Rattle.std.proofs.Common.{◌∙◌, ℕ, List, Option, ap, inl, inr, refl, subst, sym, true}
use Rattle.bw_console.specs.Prints.{Nothing, failures_if}
use Rattle.bw_console.specs.declared.exit.Exit.{Exit}
use Rattle.bw_recorder.proofs.PackSteps.{refused}
use Rattle.bw_send_file.specs.FilesSentOn.{EndsKept}
use Rattle.bw_send_file.proofs.BeginSteps.{ended_with, sends_nothing}
use Rattle.bw_send_file.proofs.StateSteps.{continued, count_is, ends_kept, kept_done, resumes, sends_same, unsent_before}
use Rattle.bw_send_file.proofs.resumed_file.send_file_on.Goals as goal

pub returns-in-Err : goal.returns-in-Err
returns-in-Err g c =
    let r = c.refuse_options.ensures in (
      ended_with true Nothing c.refuse_options.result r.0,
      refl,
      inl (
        record {
          unsent = sends_nothing true Nothing c.refuse_options.result r.0;
          unbegun = record { states = refl; began = refl };
          unasked = refl;
        },
        refused _ _ _ c.in-Err.fault _ r.0 c.in-Err.ensures.err r.1,
      ),
      refl,
      refl,
      record {
        begun = c.args.faults.now;
        begins = refl;
        sent = c.refuse_options.new.faults;
        sends = record { between = c.args.faults.now; warns = refl; prints = refl; reports = r.2 };
        ends = refl;
      },
    )

pub returns-in-Err-begin : goal.returns-in-Err-begin
returns-in-Err-begin g c =
    let b = c.in-Err-begin.ensures.err in (
      b.0,
      b.1,
      inr (c.in-Ok.options, c.in-Ok.ensures.ok, inl b.2),
      b.3,
      b.4,
      continued g.X.Output.Sink g.X.Diagnostics.Sink b.0 _ _ _ (unsent_before _ _ _ _ _ _ _ b.2) b.5,
    )

pub returns : goal.returns
returns g c =
    let b = c.in-Ok-begin.ensures.ok in
    let s = c.send_rest-exit.ensures.did in
    let e = c.report_end.ensures in
    let kept = subst (λ (x : Exit). EndsKept c.args.job.now.place.path.now x c.report_end.result e.0) (sym s.1)
    (ends_kept c.args.job.now.place.path.now c.finish.result _ c.report_end.result e.0 e.2) in (
      record { is_state_well = true; began = b.0; sent = s.0; unkept = e.0; exit = c.report_end.result },
      refl,
      inr (
        c.in-Ok.options,
        c.in-Ok.ensures.ok,
        inr (record {
          count = c.in-Ok-begin.beginning.count;
          log = c.in-Ok-begin.beginning.log;
          between = record { pause = c.begin.new.pause; dial = c.begin.new.dial };
          begins = b.1;
          sends = sends_same _ _ _ _ _ _ _ _ _ _ _ c.in-Ok-begin.ensures.files c.in-Ok-begin.ensures.stamps s.2;
          kept = kept;
          stores = λ done bytes at. record {
            o = c.in-Ok.options;
            asked = c.in-Ok.ensures.ok;
            header = b.1.header;
            of_take = b.1.knows.of_take bytes at;
            found = b.1.found.count;
            found_is = count_is _ _ _ b.1.knows.says;
            begins = resumes _ _ _ _ _ _ _ _ _ _ b.1.starts;
            sent = c.send_rest-exit.ensures.stores (sym s.1 ∙ kept_done _ _ _ _ kept done) bytes
                (ap (λ (files : List ℕ → Option (List ℕ)). files c.args.job.now.file.path.now) c.in-Ok-begin.ensures.files ∙ at);
          };
        }),
      ),
      s.3 ∙ ap (failures_if s.0.is_system_well) b.2,
      b.3,
      record { begun = c.begin.new.faults; begins = b.4; sent = c.send_rest-exit.new.faults; sends = s.4; ends = e.1 },
    )
