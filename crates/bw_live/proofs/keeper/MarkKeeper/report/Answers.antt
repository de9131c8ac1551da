use Rattle.std.proofs.Common.{◌∙◌, List, ℕ, codes, refl, subst}
use Rattle.bw_console.specs.Prints.{IsOf}
use Rattle.bw_live.proofs.keeper.MarkKeeper.report.Goals as goal

pub returns-in-Ok-clause-first : goal.returns-in-Ok-clause-first
returns-in-Ok-clause-first g c = λ first. record {
  words = c.in-Ok.ensures.0;
  rest = refl;
  print = c.print_diagnostic.ensures.0;
  text = subst (λ (z : List ℕ). IsOf z c.print_diagnostic.ensures.0)
      (c.as_bytes.ensures.value ∙ c.as_str.ensures.value ∙ c.in-Ok.ensures.1) c.print_diagnostic.ensures.1;
  printed = c.print_diagnostic.ensures.2;
}

pub returns-in-Err-clause-first : goal.returns-in-Err-clause-first
returns-in-Err-clause-first g c = λ first. record {
  words = codes "memory was refused";
  rest = refl;
  print = c.print_diagnostic-in-Err.ensures.0;
  text = c.print_diagnostic-in-Err.ensures.1;
  printed = c.print_diagnostic-in-Err.ensures.2;
}
