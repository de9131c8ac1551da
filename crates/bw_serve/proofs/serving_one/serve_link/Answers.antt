use Rattle.bw_serve.proofs.serving_one.serve_link.Goals as goal

pub returns : goal.returns
returns g c = record {
  serves = c.serve_exchange-end.ensures.served;
  batches = c.serve_exchange-end.ensures.batches;
  reads = c.serve_exchange-end.ensures.reads;
  writes = c.serve_exchange-end.ensures.writes;
  calls = c.serve_exchange-end.ensures.calls;
  limit = c.serve_exchange-end.ensures.limit;
  ends = c.print_exchange-exit.ensures;
}
