use Rattle.std.proofs.Common.{◌≡◌, ◌++◌, take}
use Rattle.std.specs.Prelude.{flat_map}
use Rattle.bw_report.specs.ContentTexts.{said_line}
use Rattle.bw_report.proofs.contents.put_lines.Given as goal

abbrev pub invariant-loop-content : goal.invariant-loop-content
invariant-loop-content l = l.text.items ≡ l.initial.text.items ++ flat_map said_line (take l.content-index l.contents)
