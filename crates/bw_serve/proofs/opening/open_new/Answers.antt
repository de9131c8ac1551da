use Rattle.std.proofs.Common.{refl, rules}
use Rattle.bw_serve.proofs.opening.open_new.Goals as goal

pub returns-clause-opens : goal.returns-clause-opens
returns-clause-opens g c = (
  c.in_ok-store.store,
  search rules,
  record {
    store_is = c.in-Ok.ensures.store;
    limit_is = c.in-Ok.ensures.limit;
    empty = c.in-Ok.ensures.book;
    apart = λ answered following all honest. c.law_names.ensures c.args.limit c.in_ok-store.store c.in-Ok.server following
        answered honest c.in-Ok.ensures.store c.in-Ok.ensures.limit c.in-Ok.ensures.book all;
    runs = λ answered following all. c.law_held_runs.ensures c.in-Ok.server following answered all;
  },
  refl,
)
