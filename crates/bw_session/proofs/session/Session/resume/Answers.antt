use Rattle.std.proofs.Common.{List, ℕ, sym, subst}
use Rattle.std.specs.Prelude.{is_some}
use Rattle.bw_session.specs.DoneNumbers.{KeepsDone}
use Rattle.bw_session.proofs.NewForms.{resumed_part}
use Rattle.bw_session.proofs.session.Session.resume.Goals as goal

pub returns-clause-holds : goal.returns-clause-holds
returns-clause-holds c = λ first log found none done file.
    resumed_part first log c.args.progress.state.parts c.args.progress.ledger.outcomes c.args.progress.growing found none
    c.requires
    (subst (λ (n : List ℕ). KeepsDone (is_some first) n log c.args.progress.state.parts
    c.args.progress.ledger.outcomes) (sym c.args.progress.same_name) done) file c.in_ok-new.field-0 c.in_ok-new.ensures
