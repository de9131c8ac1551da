use Rattle.std.proofs.Common.{◌∙◌, ℕ, Bool, true, None, Some, ap, refl, rules, sym, subst}
use Rattle.std.specs.Prelude.{Vec}
use Rattle.std.specs.declared.alloc.Global.{Global}
use Rattle.bw_model.specs.Counts.{Counts}
use Rattle.bw_takes.specs.ReadCounts.{Rises, has_lines}
use Rattle.bw_takes.specs.VerifiedTakes.{verified_by}
use Rattle.bw_takes.specs.Verifications.{verified_word}
use Rattle.bw_takes.proofs.ListingLemmas.{on_ok}
use Rattle.bw_takes.proofs.ReadCountLemmas.{rises_after}
use Rattle.bw_takes.proofs.VerifyingLemmas.{verified_same}
use Rattle.bw_takes.proofs.verifying.verify_take.Goals as goal

pub returns-in-Ok-clause-told : goal.returns-in-Ok-clause-told
returns-in-Ok-clause-told g c honest =
    let f = c.put_verified.ensures in
    on_ok c.put_verified.result
    (λ is. (
      None,
      is ∙ ap (verified_word (verified_by c.args.verifying.now) c.args.receipt.now.name)
          (c.in-Ok.ensures.word honest),
    ))
    f.told

pub returns-in-Err-Disk-clause-told : goal.returns-in-Err-Disk-clause-told
returns-in-Err-Disk-clause-told g c honest =
    let f = c.put_unread.ensures in
    on_ok c.put_unread.result
    (λ is. (Some is.0, verified_same _ _ _ _ _ _ (ap (λ v. v.items) f.lines) is.1 refl))
    f.unread

pub returns-in-Ok-clause-counted : goal.returns-in-Ok-clause-counted
returns-in-Ok-clause-counted g c = λ start so.
    on_ok c.put_verified.result
    (λ _. subst (λ (n : ℕ). Rises start n (has_lines c.put_verified.new.verifying.report.unread.items))
    (sym (c.in-Ok.ensures.failures.quiet refl))
    (subst (λ (v : Vec ℕ Global). Rises start (g.D.Disk.failures c.args.disk.now) (has_lines v.items))
    (sym c.put_verified.ensures.unread) so))
    c.put_verified.ensures.told

pub returns-in-Err-Disk-clause-counted : goal.returns-in-Err-Disk-clause-counted
returns-in-Err-Disk-clause-counted g c = λ start so.
    let call : Counts (g.D.Disk.failures c.args.disk.now) (g.D.Disk.failures c.find_wrong.new.disk) true =
    search rules in
    on_ok c.put_unread.result
    (λ some. subst (λ (b : Bool). Rises start (g.D.Disk.failures c.put_unread.new.disk) b) (sym some)
    (rises_after start _ _ _ _ so call c.put_unread.ensures.grows))
    c.put_unread.ensures.lines_unread
