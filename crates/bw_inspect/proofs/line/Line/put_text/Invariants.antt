use Rattle.std.proofs.Common.{◌≡◌, ◌+◌, ◌*◌, ◌≤◌, ◌++◌, length, take}
use Rattle.std.specs.Prelude.{flat_map}
use Rattle.bw_model.specs.Report.{text_byte}
use Rattle.bw_inspect.proofs.line.Line.put_text.Given as goal

abbrev pub invariant-loop-byte : goal.invariant-loop-byte
invariant-loop-byte l = record {
  text : l.self ≡ l.initial.self ++ flat_map text_byte (take l.byte-index l.text);
  short : length l.self ≤ length l.initial.self + 4 * l.byte-index;
}
