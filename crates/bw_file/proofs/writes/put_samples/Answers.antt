use Rattle.std.proofs.lemmas.Grind.{common_steps}
use Rattle.std.proofs.Common.{◌∙◌, ◌∷◌, [], arith}
use Rattle.bw_store.proofs.Tears.{written_tears, tears_wider, tears_twice}
use Rattle.bw_store.proofs.Asked.{first_as, gets_all, gets_as, gets_before, gets_one, gets_then}
use Rattle.bw_layout.proofs.Exits.{on_err}
use Rattle.bw_file.proofs.PlanForms.{padded}
use Rattle.bw_file.proofs.writes.put_samples.Goals as goal

pub returns-in_err-write_at-2-clause-torn : goal.returns-in_err-write_at-2-clause-torn
returns-in_err-write_at-2-clause-torn g c =
    λ honest. tears_twice _ _ _ c.args.place _
    (written_tears _ _ c.args.place _ c.args.samples.now (omega arith) (c.in_ok-write_at.ensures.written honest))
    (tears_wider _ _ _ 1 c.args.place _ (omega arith) (omega arith)
    (c.in_err-write_at-2.ensures.failed (c.write_at.ensures.honest ∙ honest)))

pub returns-in_ok-write_at-2-clause-torn : goal.returns-in_ok-write_at-2-clause-torn
returns-in_ok-write_at-2-clause-torn g c =
    λ honest. tears_twice _ _ _ c.args.place _
    (written_tears _ _ c.args.place _ c.args.samples.now (omega arith) (c.in_ok-write_at.ensures.written honest))
    (tears_wider _ _ _ 1 c.args.place _ (omega arith) (omega arith)
    (written_tears _ _ _ 1 (0 ∷ []) (omega arith)
    (c.in_ok-write_at-2.ensures.written (c.write_at.ensures.honest ∙ honest))))

pub returns-else-end-eq1-clause-torn : goal.returns-else-end-eq1-clause-torn
returns-else-end-eq1-clause-torn g c =
    λ honest. written_tears _ _ c.args.place _ c.args.samples.now (omega arith)
    (c.in_ok-write_at.ensures.written honest)

pub returns-in_err-write_at-2-clause-begun : goal.returns-in_err-write_at-2-clause-begun
returns-in_err-write_at-2-clause-begun g c =
    on_err _ _ (first_as (padded c.args.name.now c.args.place _ (omega arith))
    (gets_all (gets_then (gets_one c.write_at.ensures.calls c.write_at.ensures.asked)
    (gets_one c.write_at-then-end-eq1.ensures.calls c.write_at-then-end-eq1.ensures.asked))))

pub returns-in_ok-write_at-2-clause-order : goal.returns-in_ok-write_at-2-clause-order
returns-in_ok-write_at-2-clause-order g c =
    gets_as (padded c.args.name.now c.args.place _ (omega arith))
    (gets_then (gets_one c.write_at.ensures.calls c.write_at.ensures.asked)
    (gets_one c.write_at-then-end-eq1.ensures.calls c.write_at-then-end-eq1.ensures.asked))

pub returns-in_err-write_at-clause-begun : goal.returns-in_err-write_at-clause-begun
returns-in_err-write_at-clause-begun g c =
    on_err _ _ (gets_before _ (gets_all (gets_one c.write_at.ensures.calls c.write_at.ensures.asked)))

pub returns-in_ok-write_at-2-clause-put : goal.returns-in_ok-write_at-2-clause-put
returns-in_ok-write_at-2-clause-put g c = grind (arith, common_steps)
