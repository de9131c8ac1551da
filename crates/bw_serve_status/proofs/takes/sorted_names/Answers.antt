use Rattle.bw_model.specs.Book.{is_known}
use Rattle.bw_serve_status.proofs.ShownTakes.{listed_sorted}
use Rattle.bw_serve_status.proofs.takes.sorted_names.Goals as goal

pub returns-clause-known : goal.returns-clause-known
returns-clause-known g c = λ first book holds. listed_sorted (is_known book) c.in_ok-names.names.items _
    c.in_ok-sort.ensures.permutation (c.in_ok-names.ensures.value first book holds)
