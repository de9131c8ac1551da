use Rattle.std.proofs.Common.{rules, arith, ◌≡◌, ◌≤◌, ◌+◌, ◌-◌, ℕ, true, false, List, Some, None, IsTrue}
use Rattle.std.proofs.Common.{length, drop, refl, sym, ap, ◌∙◌, subst}
use Rattle.std.specs.Prelude.{option_map}
use Rattle.std.proofs.lemmas.List.{drop_min, drop-drop, length-drop, take_rest}
use Rattle.bw_disk.proofs.DiskChains.{stays_twice}
use Rattle.bw_journal.specs.Entries.{entry_in, first_content}
use Rattle.bw_journal.specs.Refs.{entry_said}
use Rattle.bw_recovery.proofs.ListForms.{of_some}
use Rattle.bw_take_files.specs.TakeSamples.{is_kept}
use Rattle.bw_take_files.proofs.SampleLemmas.{begins_all, first_read, first_none, first_other, goes_on}
use Rattle.bw_take_files.proofs.SampleLemmas.{kept_by, kept_stops, kept_ends, kept_all, still_found}
use Rattle.bw_take_files.proofs.samples.first_changed.Goals as goal

pub loop-step-init : goal.loop-step-init
loop-step-init g c = record {
  failures = refl;
  disk = record { honest = refl; contents = λ h path. refl; synced = λ h path. refl };
  path = refl;
  room = c.requires.room;
  within = omega arith;
  near = c.requires.near;
  ahead = λ honest found stands. c.new-ahead.ensures c.args.journal.now.name.now found;
  known = λ honest found stands.
      begins_all c.args.journal.now.name.now found c.args.start c.args.journal.now.bytes.now _ _ (omega arith)
      (ap (λ (n : ℕ). drop n c.args.journal.now.bytes.now) c.min-used.ensures ∙ drop_min 47 c.args.journal.now.bytes.now);
}

pub returns-in_default-clause-value : goal.returns-in_default-clause-value
returns-in_default-clause-value g c = λ honest found stands.
    let bytes = c.args.journal.now.bytes.now in
    let step = c.loop-step.step in
    let gone : c.in_ok-len.field-0 ≡ None = search rules in
    let none : None ≡ first_content (drop c.loop-step.used bytes) =
    ap (option_map (λ n. (c.read_content.new.content.items, n))) (sym gone) ∙ c.in_ok-len.ensures.value
    ∙ ap first_content (take_rest bytes c.loop-step.used) in
    sym (c.loop-step.invariant.known honest found stands
    ∙ kept_ends c.args.journal.now.name.now found step c.loop-step.offset (length bytes - step)
    (drop c.loop-step.used bytes) (length bytes - (step + 1)) (omega arith) (first_none (drop c.loop-step.used bytes) none))

pub returns-in_default-entry_of-clause-value : goal.returns-in_default-entry_of-clause-value
returns-in_default-entry_of-clause-value g c = λ honest found stands.
    let bytes = c.args.journal.now.bytes.now in
    let step = c.loop-step.step in
    let content = c.read_content.new.content.items in
    let there_is : c.in_ok-len.field-0 ≡ Some c.in-Some.len = search rules in
    let read : Some (content, c.in-Some.len) ≡ first_content (drop c.loop-step.used bytes) =
    ap (option_map (λ n. (content, n))) (sym there_is) ∙ c.in_ok-len.ensures.value
    ∙ ap first_content (take_rest bytes c.loop-step.used) in
    let none : None ≡ entry_in content = search rules in
    sym (c.loop-step.invariant.known honest found stands
    ∙ kept_ends c.args.journal.now.name.now found step c.loop-step.offset (length bytes - step)
    (drop c.loop-step.used bytes) (length bytes - (step + 1)) (omega arith)
    (first_other (drop c.loop-step.used bytes) content c.in-Some.len read none))

pub returns-then-not-kept-clause-value : goal.returns-then-not-kept-clause-value
returns-then-not-kept-clause-value g c = λ honest found stands.
    let was = c.loop-step.invariant in
    let name = c.args.journal.now.name.now in
    let bytes = c.args.journal.now.bytes.now in
    let step = c.loop-step.step in
    let entry = entry_said c.in-Some-entry_of.entry in
    let content = c.read_content.new.content.items in
    let there_is : c.in_ok-len.field-0 ≡ Some c.in-Some.len = search rules in
    let read : Some (content, c.in-Some.len) ≡ first_content (drop c.loop-step.used bytes) =
    ap (option_map (λ n. (content, n))) (sym there_is) ∙ c.in_ok-len.ensures.value
    ∙ ap first_content (take_rest bytes c.loop-step.used) in
    let known : Some entry ≡ entry_in content = search rules in
    let at_first = first_read (drop c.loop-step.used bytes) content c.in-Some.len entry read known in
    let ahead = c.in_ok-ahead.ensures in
    let first = subst IsTrue (sym was.disk.honest) honest in
    let here = still_found g.D.Disk _ _ _ _ found was.disk was.path honest stands in
    let now = subst IsTrue (sym ahead.disk.honest) first in
    let there = still_found g.D.Disk _ _ _ _ found ahead.disk ahead.path first here in
    let keeps = ahead.known first found here (was.ahead honest found stands) in
    let same : c.in-Ok.number ≡ step = search rules in
    let kept : false ≡ is_kept name found c.in-Ok.number c.loop-step.offset entry =
    sym c.if-not-kept.true
    ∙ kept_by name found _ _ _ entry _ c.brought.ensures.value (c.in_ok-kept.ensures.kept now found there keeps) in
    let lost : is_kept name found step c.loop-step.offset entry ≡ false =
    ap (λ (n : ℕ). is_kept name found n c.loop-step.offset entry) (sym same) ∙ sym kept in
    ap Some same
    ∙ sym (was.known honest found stands
    ∙ kept_stops name found step c.loop-step.offset (length bytes - step) (drop c.loop-step.used bytes)
    (length bytes - (step + 1)) (entry, c.in-Some.len) (omega arith)
    at_first lost)

pub loop-step-preserved : goal.loop-step-preserved
loop-step-preserved g c =
    let was = c.loop-step.invariant in
    let name = c.args.journal.now.name.now in
    let bytes = c.args.journal.now.bytes.now in
    let step = c.loop-step.step in
    let used = c.loop-step.used in
    let entry = entry_said c.in-Some-entry_of.entry in
    let content = c.read_content.new.content.items in
    let there_is : c.in_ok-len.field-0 ≡ Some c.in-Some.len = search rules in
    let read : Some (content, c.in-Some.len) ≡ first_content (drop c.loop-step.used bytes) =
    ap (option_map (λ n. (content, n))) (sym there_is) ∙ c.in_ok-len.ensures.value
    ∙ ap first_content (take_rest bytes c.loop-step.used) in
    let known : Some entry ≡ entry_in content = search rules in
    let at_first = first_read (drop c.loop-step.used bytes) content c.in-Some.len entry read known in
    let ahead = c.in_ok-ahead.ensures in
    let short =
    subst (λ (xs : List ℕ). c.in-Some.len ≤ length xs) (take_rest bytes used)
    (of_some _ _ _ there_is c.in_ok-len.ensures.within) in
    let rest : length (drop used bytes) ≡ length bytes - used = length-drop used bytes in
    let few = c.brought.ensures.few c.in-Some-entry_of.ensures.fits in
    let near = was.near in
    let within = was.within in
    let same : c.in-Ok.number ≡ step = search rules in
    let middle = stays_twice g.D.Disk _ _ _ was.disk ahead.disk in
    record {
      failures = c.in_ok-kept.ensures.failures.quiet refl ∙ ahead.failures.quiet refl ∙ was.failures;
      disk = stays_twice g.D.Disk _ _ _ middle c.in_ok-kept.ensures.disk;
      path = c.in_ok-kept.ensures.path ∙ ahead.path ∙ was.path;
      room = c.in_ok-kept.ensures.room ∙ ahead.room ∙ was.room;
      within = omega (arith, short, rest, within);
      near = omega (arith, few, near);
      ahead = λ honest found stands.
          ahead.known (subst IsTrue (sym was.disk.honest) honest) found
          (still_found g.D.Disk _ _ _ _ found was.disk was.path honest stands) (was.ahead honest found stands);
      known = λ honest found stands.
          let first = subst IsTrue (sym was.disk.honest) honest in
          let here = still_found g.D.Disk _ _ _ _ found was.disk was.path honest stands in
          let now = subst IsTrue (sym ahead.disk.honest) first in
          let there = still_found g.D.Disk _ _ _ _ found ahead.disk ahead.path first here in
          let keeps = ahead.known first found here (was.ahead honest found stands) in
          let all : true ≡ is_kept name found c.in-Ok.number c.loop-step.offset entry =
          sym c.if-not-kept.false
          ∙ kept_by name found _ _ _ entry _ c.brought.ensures.value (c.in_ok-kept.ensures.kept now found there keeps) in
          let kept : is_kept name found step c.loop-step.offset entry ≡ true =
          ap (λ (n : ℕ). is_kept name found n c.loop-step.offset entry) (sym same) ∙ sym all in
          was.known honest found stands
          ∙ goes_on name found step c.loop-step.offset (length bytes - step) (length bytes - (step + 1))
          (drop used bytes) (entry, c.in-Some.len) (step + 1) _ _ (omega arith)
          at_first kept (omega arith)
          (ap (λ (n : ℕ). c.loop-step.offset + n) c.brought.ensures.value)
          (sym (drop-drop c.in-Some.len used bytes));
    }

pub returns-clause-value : goal.returns-clause-value
returns-clause-value g c = λ honest found stands.
    let bytes = c.args.journal.now.bytes.now in
    sym (c.loop-step.invariant.known honest found stands
    ∙ kept_all c.args.journal.now.name.now found c.loop-step.step c.loop-step.offset (length bytes - c.loop-step.step)
    (drop c.loop-step.used bytes) (omega arith))
