use Rattle.std.proofs.Common.{◌≡◌, ℕ, Bool, false, refl, true}
use Rattle.bw_console.specs.Prints.{IsOf, failures_if}
use Rattle.bw_console.specs.declared.exit.Exit.TheVariants.{Usage}
use Rattle.bw_args.specs.BadValues.{text_of}
use Rattle.bw_program.proofs.ProgramLemmas.{reports_alone}
use Rattle.bw_program.proofs.RequestLemmas.{line_is}
use Rattle.bw_program.proofs.program.perform.Goals as goal

-- where all reads succeeded no failure more is counted
no_failure : (all : Bool) (n : ℕ) → all ≡ true → n ≡ failures_if all n
no_failure true n is = refl
no_failure false n is = let bad : false ≡ true = is in cc

pub returns-in-Run : goal.returns-in-Run
returns-in-Run g c = line_is _ _ _ _ _ _ _ _ _ _ _ c.in-Run.is c.run.ensures

pub returns-in-BadValue : goal.returns-in-BadValue
returns-in-BadValue g c =
    let l = c.print_diagnostic.ensures in
    let reported : IsOf (text_of c.in-BadValue.value) l.0 = rw (c.as_bytes.ensures.value, c.text.ensures) at l.1 in
    line_is _ _ _ _ _ _ _ _ _ _ _ c.in-BadValue.is (reports_alone _ _ _ _ _ _ _ l.0 Usage refl
    (record { exit_is = refl; reads = refl; prints = refl; reports = reported }, refl) l.2)

pub returns-in-Report : goal.returns-in-Report
returns-in-Report g c =
    let l = c.show.ensures in
    line_is _ _ _ _ _ _ _ _ _ _ _ c.in-Report.is (record {
      does = record {
        did = l.0;
        ends = l.1;
        gives_all = true;
        is = (l.2, refl);
        failures = refl;
        reads = no_failure _ _ l.3;
        writes = l.4;
      };
      unused = refl;
      unread = refl;
      unpaused = refl;
      kept = refl;
    })
