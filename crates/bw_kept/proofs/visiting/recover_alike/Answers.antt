use Rattle.std.proofs.Common.{ℕ, Ok, Err, sym, subst}
use Rattle.bw_kept.specs.Recoveries.{HasTooManyIn, IfNumbers, KeepsInFolder, RecoversIn, OpensIn}
use Rattle.bw_kept.specs.RecoverySteps.{RecoversAlone}
use Rattle.bw_kept.specs.Visits.{RecoversName}
use Rattle.bw_kept.specs.declared.delay.Delay.{Delay}
use Rattle.bw_kept.specs.declared.recovery.Recovered.{Recovered}
use Rattle.bw_kept.specs.declared.recovery.Recovered.TheVariants.{New, LeftOut}
use Rattle.bw_kept.proofs.AlikeForms.{left_out_alike, put_off_alike}
use Rattle.bw_kept.proofs.ConfirmForms.{confirmed}
use Rattle.bw_kept.proofs.visiting.recover_alike.Goals as goal

pub returns-in-Ok-New : goal.returns-in-Ok-New
returns-in-Ok-New g c =
    let store = c.args.store.now in
    let journal = c.args.journal.now in
    let mid = c.recover.new.store in
    let mid_journal = c.recover.new.journal in
    let name = c.args.name.now in
    let r = c.in-Ok-New.ensures in
    let v = c.confirm_new.ensures in
    confirmed name store journal mid mid_journal c.confirm_new.new.store c.confirm_new.new.journal r.alone.settings r.alone.takes
    r.alone.notes
    (λ one. subst (λ (l : ℕ). KeepsInFolder l name store journal mid mid_journal) c.limit-limit.ensures (r.kept one))
    (λ one. subst (λ (l : ℕ). RecoversIn l name store journal mid mid_journal New) c.limit-limit.ensures
    (subst (λ (x : Recovered). RecoversIn c.limit-limit.result name store journal mid mid_journal x) c.in-Ok-New.field-0-is
    (r.recovered one)))
    (λ one quiet. subst (λ (l : ℕ). OpensIn l name store journal mid mid_journal New) c.limit-limit.ensures
    (subst (λ (x : Recovered). OpensIn c.limit-limit.result name store journal mid mid_journal x) c.in-Ok-New.field-0-is
    (r.opened one quiet)))
    r.failures v.takes v.notes v.noted v.settings c.confirm_new.result v.made v.opened v.known v.closed v.alike v.why

pub returns-in-Ok-LeftOut : goal.returns-in-Ok-LeftOut
returns-in-Ok-LeftOut g c =
    let store = c.args.store.now in
    let journal = c.args.journal.now in
    let mid = c.recover.new.store in
    let mid_journal = c.recover.new.journal in
    let name = c.args.name.now in
    let r = c.in-Ok-LeftOut.ensures in
    let fault = c.in-Ok-LeftOut.fault in
    left_out_alike name store journal mid mid_journal fault
    (subst (λ (x : Recovered). RecoversAlone name (Ok x) store journal mid mid_journal) c.in-Ok-LeftOut.field-0-is r.alone)
    (λ one. subst (λ (l : ℕ). KeepsInFolder l name store journal mid mid_journal) c.limit-limit.ensures (r.kept one))
    (λ one. subst (λ (l : ℕ). RecoversIn l name store journal mid mid_journal (LeftOut fault)) c.limit-limit.ensures
    (subst (λ (x : Recovered). RecoversIn c.limit-limit.result name store journal mid mid_journal x)
    c.in-Ok-LeftOut.field-0-is (r.recovered one)))
    (λ one quiet. subst (λ (l : ℕ). OpensIn l name store journal mid mid_journal (LeftOut fault)) c.limit-limit.ensures
    (subst (λ (x : Recovered). OpensIn c.limit-limit.result name store journal mid mid_journal x)
    c.in-Ok-LeftOut.field-0-is (r.opened one quiet)))

pub returns-in-Err : goal.returns-in-Err
returns-in-Err g c =
    let store = c.args.store.now in
    let journal = c.args.journal.now in
    let mid = c.recover.new.store in
    let mid_journal = c.recover.new.journal in
    let name = c.args.name.now in
    let r = c.in-Err.ensures in
    let fault = c.in-Err.fault in
    subst (λ (d : Delay). RecoversName name store journal mid mid_journal (Err d)) (sym c.delay_of.ensures)
    (put_off_alike name store journal mid mid_journal fault r.alone
    (λ one. subst (λ (l : ℕ). KeepsInFolder l name store journal mid mid_journal) c.limit-limit.ensures (r.kept one))
    r.closed
    (λ one. subst (λ (l : ℕ). IfNumbers {T = Recovered} (Err fault) (HasTooManyIn l name store journal))
    c.limit-limit.ensures (r.many one))
    r.failures)
