use Rattle.std.proofs.Common.{arith}
use Rattle.bw_model.proofs.Ranges.{are_bytes_lem}
use Rattle.bw_exchange.proofs.serving.feed_piece.Goals as goal

pub returns-in-Ok-clause-bytes : goal.returns-in-Ok-clause-bytes
returns-in-Ok-clause-bytes c = are_bytes_lem c.args.piece.now (λ i. omega (arith, c.type_inv.piece i))

pub returns-in-Err-Memory-clause-bytes : goal.returns-in-Err-Memory-clause-bytes
returns-in-Err-Memory-clause-bytes c = are_bytes_lem c.args.piece.now (λ i. omega (arith, c.type_inv.piece i))
