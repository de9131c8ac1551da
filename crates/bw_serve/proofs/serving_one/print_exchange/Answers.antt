use Rattle.std.proofs.Common.{ap, inl, inr, ◌∙◌}
use Rattle.bw_console.specs.Prints.{Whole, Part}
use Rattle.bw_serve.proofs.serving_one.print_exchange.Goals as goal

pub returns-in-Ok : goal.returns-in-Ok
returns-in-Ok g c = record {
  print = Whole c.as_bytes.result.now;
  line = inl (ap Whole (c.as_bytes.ensures.value ∙ c.as_str.ensures.value ∙ c.end_line.ensures));
  printed = c.in-Ok.ensures.ok;
  exit_is = c.exit_reported.ensures;
}

pub returns-in-Err : goal.returns-in-Err
returns-in-Err g c = record {
  print = Part c.as_bytes.result.now;
  line = inr (ap Part (c.as_bytes.ensures.value ∙ c.as_str.ensures.value ∙ c.end_line.ensures));
  printed = c.in-Err.ensures.err;
  exit_is = c.exit_unwritten.ensures;
}
