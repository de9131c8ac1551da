use Rattle.std.proofs.Common.{arith}
use Rattle.bw_serve_status.proofs.NamePlaces.{changes_first, changes_none}
use Rattle.bw_serve_status.proofs.name_tally.change_name.Goals as goal

pub returns-then-place-len-clause-names : goal.returns-then-place-len-clause-names
returns-then-place-len-clause-names c =
    changes_first c.args.change c.args.at c.args.name.now c.args.names.now.items c.index_mut.result.now
    c.count.new.self c.place_of-place.result c.count.ensures
    (rw c.as_slice.ensures.value at c.place_of-place.ensures)
    (omega (arith, c.if-place-len.true, c.len.ensures)) c.index_mut.ensures.value

pub returns-else-place-len-clause-names : goal.returns-else-place-len-clause-names
returns-else-place-len-clause-names c =
    changes_none c.args.change c.args.at c.args.name.now c.args.names.now.items c.place_of-place.result
    (rw c.as_slice.ensures.value at c.place_of-place.ensures)
    (omega (arith, c.if-place-len.false, c.len.ensures))
