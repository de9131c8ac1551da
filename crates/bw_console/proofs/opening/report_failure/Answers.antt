use Rattle.std.proofs.Common.{◌≡◌, ◌∙◌, List, ℕ, inl, inr, true, refl, sym}
use Rattle.std.specs.Prelude.{string_bytes}
use Rattle.bw_console.specs.Prints.{IsOf, Nothing}
use Rattle.bw_console.specs.declared.exit.Exit.TheVariants.{Memory}
use Rattle.bw_console.proofs.opening.report_failure.Goals as goal

pub returns-in_default : goal.returns-in_default
returns-in_default g c text h =
    let l = c.give_up.ensures.line in (
      record { reads_all = true; out = Nothing; faults = l.0; exit = Memory },
      sym c.give_up.ensures.exit,
      inr (record { exit_is = refl; reads = refl; prints = refl; reports = l.1 }),
      l.2,
    )

pub returns : goal.returns
returns g c text h =
    let l = c.print_diagnostic.ensures in
    let r : (reason : List ℕ) × (string_bytes c.in-Ok.line ≡ text reason) = rw c.in-Ok.is at h in
    let is : c.as_bytes.result.now ≡ text r.0 = c.as_bytes.ensures.value ∙ c.as_str.ensures.value ∙ r.1 in
    let reported : IsOf (text r.0) l.0 = rw is at l.1 in (
      record { reads_all = true; out = Nothing; faults = l.0; exit = c.exit_after.result },
      refl,
      inl (record {
        exit_is = c.exit_after.ensures;
        reads = refl;
        prints = refl;
        reason = r.0;
        reports = reported;
      }),
      l.2,
    )
