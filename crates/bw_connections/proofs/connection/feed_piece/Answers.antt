use Rattle.std.proofs.Common.{rules, arith, inl, inr, refl}
use Rattle.bw_model.proofs.Ranges.{are_bytes_lem}
use Rattle.bw_connections.proofs.connection.feed_piece.Goals as goal

pub returns-in-Err-Memory-clause-feeds : goal.returns-in-Err-Memory-clause-feeds
returns-in-Err-Memory-clause-feeds c =
    (c.in-Err-Memory.ensures.unchanged, are_bytes_lem c.args.piece.now (λ i. omega (arith, c.type_inv.piece i)), inl refl)

pub returns-in-Err-TooLong-clause-feeds : goal.returns-in-Err-TooLong-clause-feeds
returns-in-Err-TooLong-clause-feeds c = (
  c.in-Err-TooLong.ensures.unchanged,
  are_bytes_lem c.args.piece.now (λ i. omega (arith, c.type_inv.piece i)),
  inr (refl, search rules),
)
