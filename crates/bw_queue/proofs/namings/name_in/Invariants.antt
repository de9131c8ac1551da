use Rattle.std.proofs.Common.{map, take}
use Rattle.bw_queue.specs.Namings.{GivesNone}
use Rattle.bw_queue.proofs.namings.name_in.Given as goal

-- none of the lines so far names the path
abbrev pub invariant-loop-line : goal.invariant-loop-line
invariant-loop-line l = GivesNone (map (λ x. x.now) (take l.line-index l.lines)) l.path
