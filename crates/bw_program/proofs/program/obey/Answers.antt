use Rattle.std.proofs.Common.{◌∙◌, Bool, inr, ap, map, string_bytes, false, refl, subst, sym}
use Rattle.bw_console.specs.Prints.{IsPrint, Print, failures_if}
use Rattle.bw_program.proofs.ProgramLemmas.{reported-words}
use Rattle.bw_program.proofs.program.obey.Goals as goal

pub returns-in-Ok : goal.returns-in-Ok
returns-in-Ok g c = reported-words _ _ _ _ _ _ _ _ _ _ _ _ _ _
    (λ reported e. ap (map string_bytes) c.as_slice.ensures.value ∙ c.in-Ok.ensures.ok reported e)
    c.in-Ok.ensures.files c.in-Ok.ensures.count c.answer.ensures

pub returns-in-Err : goal.returns-in-Err
returns-in-Err g c =
    let l = c.report_bad_argv.ensures in
    inr (record {
      does = record {
        did = l.0;
        ends = l.1;
        gives_all = false;
        is = (_, l.2);
        failures = c.in-Err.ensures.count;
        reads = ap (λ (reads_all : Bool). failures_if reads_all (g.X.Input.Source.failures c.args.outside.now.input))
            (sym l.2.reads);
        writes = record {
          printed = subst (λ (p : Print). IsPrint g.X.Output.Sink p c.args.outside.now.out c.args.outside.now.out)
              (sym l.2.prints) refl;
          reported = l.3;
        };
      };
      unused = refl;
      unread = refl;
      unpaused = refl;
      kept = refl;
    })
