use Rattle.std.proofs.Common.{arith}
use Rattle.bw_model.proofs.Ranges.{are_bytes_lem}
use Rattle.bw_sender.proofs.hearing.feed_piece.Goals as goal

pub returns-clause-bytes : goal.returns-clause-bytes
returns-clause-bytes c = are_bytes_lem c.args.piece.now (λ i. omega (arith, c.type_inv.piece i))
