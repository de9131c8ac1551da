use Rattle.std.proofs.Common.{rules, ◌+◌, ◌-◌, arith}
use Rattle.bw_repair.proofs.Overlays.{replaced}
use Rattle.bw_repair.proofs.overlay.Overlay.replace_in.Goals as goal

pub returns-clause-piece : goal.returns-clause-piece
returns-clause-piece g c =
    replaced c.args.self.now.ahead c.min-start.result c.min-count.result
    (c.min-start.result + c.min-count.result - c.min-start.result) c.args.self.now.others.now
    c.copy_from_slice.new.self c.args.piece.now (search rules) (search rules) (search rules) (omega arith)
