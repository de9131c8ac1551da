use Rattle.bw_repair.proofs.PrintLaws.{nothing_read, piece_failed, piece_printed}
use Rattle.bw_repair.proofs.left_out.printing.print_piece.Goals as goal

pub returns-in_default-clause-err : goal.returns-in_default-clause-err
returns-in_default-clause-err g c = nothing_read g.W.Sink (g.R.Source.left c.args.reader.now) c.args.out.now

pub returns-in-Ok-write_all-clause-ok : goal.returns-in-Ok-write_all-clause-ok
returns-in-Ok-write_all-clause-ok g c =
    piece_printed g.W.Sink (g.R.Source.left c.args.reader.now) _ c.in-Ok.count c.read.new.buf _ _ _ c.requires.room
    c.in-Ok.ensures.ok c.in-Ok-write_all.ensures.ok c.in-Ok-write_all.ensures.count

pub returns-in-Err-clause-err : goal.returns-in-Err-clause-err
returns-in-Err-clause-err g c =
    piece_failed g.W.Sink (g.R.Source.left c.args.reader.now) _ c.in-Ok.count c.read.new.buf _ _ _ c.in-Ok.ensures.ok
    c.in-Err.ensures.err c.in-Err.ensures.count
