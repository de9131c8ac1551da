use Rattle.std.proofs.Common.{rules, arith, sym, ap, Some}
use Rattle.bw_model.proofs.Ranges.{are_bytes_lem}
use Rattle.bw_session.proofs.ServedInputs.{serves_input, serves_first}
use Rattle.bw_session.proofs.ingest.serve_input.Goals as goal

pub returns-in-Memory-clause-err : goal.returns-in-Memory-clause-err
returns-in-Memory-clause-err g c =
    serves_first g.T.Turns.answers c.args.server.now c.serve_exchange.new.server c.args.input.now _ _ _ _ _
    (are_bytes_lem c.args.input.now (λ i. omega (arith, c.type_inv.input i))) (ap Some c.new-reader.ensures.bytes)
    c.serve_exchange.ensures.served

pub returns-in-NotKept-clause-err : goal.returns-in-NotKept-clause-err
returns-in-NotKept-clause-err g c =
    serves_first g.T.Turns.answers c.args.server.now c.serve_exchange.new.server c.args.input.now _ _ _ _ _
    (are_bytes_lem c.args.input.now (λ i. omega (arith, c.type_inv.input i))) (ap Some c.new-reader.ensures.bytes)
    c.serve_exchange.ensures.served

pub returns-in_default : goal.returns-in_default
returns-in_default g c = record {
  ok = serves_input g.T.Turns.answers c.args.server.now c.serve_exchange.new.server c.args.input.now
      c.serve_exchange.result _ _ _ _
      (are_bytes_lem c.args.input.now (λ i. omega (arith, c.type_inv.input i))) (ap Some c.new-reader.ensures.bytes)
      c.serve_exchange.ensures.served c.into_bytes.result.items
      (search rules) (ap Some (sym c.into_bytes.ensures)) c.serve_exchange.ensures.reads (search rules) (search rules) (search rules);
  err = tt;
}
