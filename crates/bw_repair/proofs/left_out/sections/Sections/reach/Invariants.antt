use Rattle.std.proofs.Common.{◌≡◌}
use Rattle.bw_stream.specs.Moves.{Keeps}
use Rattle.bw_repair.specs.SectionBytes.{sections_left}
use Rattle.bw_repair.proofs.left_out.sections.Sections.reach.Given as goal

abbrev pub invariant-loop-self : goal.invariant-loop-self
invariant-loop-self g l = record {
  kept : Keeps (sections_left l.fn.self (g.R.Source.left l.fn.self.inner))
      (sections_left l.self (g.R.Source.left l.self.inner));
  rest : l.self.rest.now ≡ l.fn.self.rest.now;
}

abbrev pub decreases-loop-self : goal.decreases-loop-self
decreases-loop-self g l = l.self.gap
