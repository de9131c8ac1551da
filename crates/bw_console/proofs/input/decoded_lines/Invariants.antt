use Rattle.std.proofs.Common.{◌≡◌, ◌+◌, ◌≤◌, length, map, All}
use Rattle.bw_console.specs.Input.{longest_input}
use Rattle.bw_console.specs.Lines.{lines_of, decoded_from}
use Rattle.bw_console.proofs.LineLemmas.{after_lines}
use Rattle.bw_console.proofs.input.decoded_lines.Given as goal

abbrev pub invariant-loop-rest : goal.invariant-loop-rest
invariant-loop-rest l = record {
  within : length l.rest ≤ length l.input;
  short : All (λ x. length x.items ≤ longest_input) l.found.items;
  number : l.number + length l.rest ≤ 1 + length l.input;
  lines : decoded_from 1 (lines_of l.input)
      ≡ after_lines (map (λ x. x.items) l.found.items) (decoded_from l.number (lines_of l.rest));
}

abbrev pub decreases-loop-rest : goal.decreases-loop-rest
decreases-loop-rest l = length l.rest
