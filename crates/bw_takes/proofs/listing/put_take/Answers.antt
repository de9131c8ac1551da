use Rattle.std.proofs.Common.{◌∙◌, ◌++◌, ◌&&◌, ℕ, Bool, true, Some, None, ap, refl, rules, sym, subst}
use Rattle.std.specs.Prelude.{Vec}
use Rattle.std.specs.declared.alloc.Global.{Global}
use Rattle.bw_model.specs.Counts.{Counts}
use Rattle.bw_takes.specs.ReadCounts.{Rises, has_lines}
use Rattle.bw_takes.specs.TakeReports.{styled_line, summary_in}
use Rattle.bw_takes.specs.TakeSummaries.{TakeSummary, is_sound_summary}
use Rattle.bw_takes.specs.declared.hashing.SampleDigest.{SampleDigest}
use Rattle.bw_takes.proofs.ListingLemmas.{on_ok, told_same}
use Rattle.bw_takes.proofs.ReadCountLemmas.{rises_after}
use Rattle.bw_takes.proofs.listing.put_take.Goals as goal

pub returns-in-Ok-clause-told : goal.returns-in-Ok-clause-told
returns-in-Ok-clause-told g c honest =
    let f = c.put_found.ensures in
    let a = c.args in
    let found = c.in-Ok.ensures.found honest in
    let digest : SampleDigest = c.in-Ok.take.digest in
    let before = a.report.now in
    let summary : TakeSummary = summary_in a.form.depth a.folder.now (g.D.Disk.contents a.disk.now) a.name.now in
    let line : TakeSummary → SampleDigest → _ =
    λ s d. before.lines.items ++ styled_line a.form.style a.name.now s d in
    on_ok c.put_found.result
    (λ is. (
      None,
      told_same _ _ _ _ _ _
          (is ∙ ap (λ (s : TakeSummary). line s digest) found
          ∙ ap (λ (d : SampleDigest). line summary d) (c.in-Ok.ensures.digest honest))
          (ap (λ v. v.items) f.unread)
          (f.sound ∙ ap (λ (s : TakeSummary). before.sound && is_sound_summary s) found),
    ))
    f.line

pub returns-in-Err-Disk-clause-told : goal.returns-in-Err-Disk-clause-told
returns-in-Err-Disk-clause-told g c honest =
    let f = c.put_unread.ensures in
    on_ok c.put_unread.result
    (λ is. (Some is.0, told_same _ _ _ _ _ _ (ap (λ v. v.items) f.lines) is.1 f.sound))
    f.unread

pub returns-in-Ok-clause-counted : goal.returns-in-Ok-clause-counted
returns-in-Ok-clause-counted g c = λ start so.
    on_ok c.put_found.result
    (λ _. subst (λ (n : ℕ). Rises start n (has_lines c.put_found.new.report.unread.items))
    (sym (c.in-Ok.ensures.failures.quiet refl))
    (subst (λ (v : Vec ℕ Global). Rises start (g.D.Disk.failures c.args.disk.now) (has_lines v.items))
    (sym c.put_found.ensures.unread) so))
    c.put_found.ensures.line

pub returns-in-Err-Disk-clause-counted : goal.returns-in-Err-Disk-clause-counted
returns-in-Err-Disk-clause-counted g c = λ start so.
    let call : Counts (g.D.Disk.failures c.args.disk.now) (g.D.Disk.failures c.examine_in_form.new.disk) true =
    search rules in
    on_ok c.put_unread.result
    (λ some. subst (λ (b : Bool). Rises start (g.D.Disk.failures c.put_unread.new.disk) b) (sym some)
    (rises_after start _ _ _ _ so call c.put_unread.ensures.grows))
    c.put_unread.ensures.lines_unread
