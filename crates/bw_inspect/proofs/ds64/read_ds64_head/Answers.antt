use Rattle.std.proofs.Common.{◌≡◌, ◌∙◌, sym, refl, true}
use Rattle.std.proofs.lemmas.Result.{err_from_is_err_and}
use Rattle.bw_inspect.proofs.Tables.{bad_size, small_size, unsaid_size, good_size, head_missed, other_chunk}
use Rattle.bw_inspect.proofs.Tables.{size_refused, head_taken}
use Rattle.bw_inspect.proofs.ds64.read_ds64_head.Goals.{then-head-lt28-via-then-head-lt28}
use Rattle.bw_inspect.proofs.ds64.read_ds64_head.Goals.{then-head-lt28-via-else-head-lt28+then-head}
use Rattle.bw_inspect.proofs.ds64.read_ds64_head.Goals as goal

pub returns-in_err-head-clause-err : goal.returns-in_err-head-clause-err
returns-in_err-head-clause-err g c =
    let p = err_from_is_err_and c.from_residual.result c.from_residual.ensures.1 in
    rw (p.1, p.2) (λ b e l. head_missed b _ _ _ c.fault_at.ensures (c.in_err-head.ensures.err b e) l)

pub returns-then-not-is_named-clause-err : goal.returns-then-not-is_named-clause-err
returns-then-not-is_named-clause-err g c b e l =
    other_chunk b _ _ _ (c.in_ok-head.ensures.ok b e)
    (sym c.is_named.ensures ∙ c.if-not-is_named.true) c.fault_at-then-not-is_named.ensures

pub returns-then-head-lt28-clause-err : goal.returns-then-head-lt28-clause-err
returns-then-head-lt28-clause-err g c b e l =
    let small : bad_size c.in_ok-head.head.size32 ≡ true =
    elim c.then-head-lt28.branch [
      | then-head-lt28-via-then-head-lt28 w ↦
          small_size _ w.if-head-lt28.true
      | then-head-lt28-via-else-head-lt28+then-head w ↦
          unsaid_size _ w.if-head.true
    ] in
    size_refused b _ _ _ (c.in_ok-head.ensures.ok b e)
    (sym c.is_named.ensures ∙ c.if-not-is_named.false) small c.fault_at-then-head-lt28.ensures

pub returns-clause-ok : goal.returns-clause-ok
returns-clause-ok g c b e =
    head_taken b _ _ _ (c.in_ok-head.ensures.ok b e) (sym c.is_named.ensures ∙ c.if-not-is_named.false)
    (good_size _ c.if-head-lt28.false c.if-head.false) refl
