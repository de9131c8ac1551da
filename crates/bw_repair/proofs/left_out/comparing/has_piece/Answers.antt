use Rattle.std.proofs.Common.{rules}
use Rattle.bw_repair.proofs.PieceCompares.{piece_there}
use Rattle.bw_repair.proofs.left_out.comparing.has_piece.Goals as goal

pub returns-in-Ok-clause-ok : goal.returns-in-Ok-clause-ok
returns-in-Ok-clause-ok g c = λ honest.
    piece_there _ c.args.place _ c.in-Ok.count c.read_range.new.room c.args.piece.now c.eq.result
    (search rules) (c.in-Ok.ensures.read honest) (search rules)
