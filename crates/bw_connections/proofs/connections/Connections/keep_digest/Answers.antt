use Rattle.std.proofs.Common.{◌≡◌, ap, sym, ◌∙◌, slice_index_or, slice_set}
use Rattle.std.proofs.lemmas.List.{set-get_or}
use Rattle.bw_connections.proofs.Digesting.{again}
use Rattle.bw_connections.proofs.connections.Connections.keep_digest.Goals as goal

pub returns-then-placed-len : goal.returns-then-placed-len
returns-then-placed-len g c =
    let v = c.args.self.now.places in
    let i = c.args.placed.place in
    let was = c.index_mut.result.now in
    let is : c.keep_in.new.slot ≡ slice_index_or v.items i was = c.keep_in.ensures ∙ c.index_mut.ensures.value in
    ap (λ p. record c.args.self.now { places = p }) (again v i c.keep_in.new.slot
    (sym (ap (slice_set v.items i) is ∙ set-get_or v.items i was)))
