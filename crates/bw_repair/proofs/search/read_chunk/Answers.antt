use Rattle.std.proofs.Common.{rules, arith}
use Rattle.std.proofs.lemmas.Result.{err_from_is_err_and}
use Rattle.bw_repair.proofs.Heads.{data_found, head_says, other_passed, other_stops}
use Rattle.bw_repair.proofs.search.read_chunk.Goals as goal

pub returns-then-eq-clause-ok : goal.returns-then-eq-clause-ok
returns-then-eq-clause-ok g c b e =
    let given = c.in_ok-read_at.ensures.ok b e in
    let h = head_says b c.args.reached.place c.read_at.new.buf c.read_id.result c.read_u32.result _ given
    c.read_id.ensures c.read_u32.ensures in
    data_found b c.args.reached.place c.read_u32.result c.read_id.result _ h (search rules) given.rest

pub returns-in_err-align-clause-err : goal.returns-in_err-align-clause-err
returns-in_err-align-clause-err g c =
    let p = err_from_is_err_and c.from_residual-in_err-align.result c.from_residual-in_err-align.ensures.1 in
    rw (p.1, p.2) (λ b e.
    let given = c.in_ok-read_at.ensures.ok b e in
    let h = head_says b c.args.reached.place c.read_at.new.buf c.read_id.result c.read_u32.result _ given
    c.read_id.ensures c.read_u32.ensures in
    other_stops b c.args.reached.place c.read_u32.result c.read_id.result _ h (search rules)
    (c.in_err-align.ensures.err b given.rest))

pub returns-clause-ok : goal.returns-clause-ok
returns-clause-ok g c b e =
    let given = c.in_ok-read_at.ensures.ok b e in
    let h = head_says b c.args.reached.place c.read_at.new.buf c.read_id.result c.read_u32.result _ given
    c.read_id.ensures c.read_u32.ensures in
    other_passed b c.args.reached.place c.read_u32.result c.read_id.result c.args.reached.align c.in_ok-align.align _ _
    h (search rules) (c.in_ok-align.ensures.ok b given.rest h) (omega arith)
