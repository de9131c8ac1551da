use Rattle.std.proofs.Common.{◌≡◌, ◌≤◌, ◌+◌, ◌-◌, ℕ, suc, List, Some, length, drop, Err, sym, ◌∙◌, ap, arith, rules, refl}
use Rattle.std.proofs.lemmas.List.{take_rest, length-drop}
use Rattle.bw_model.specs.Take.{Parts}
use Rattle.bw_journal.specs.Entries.{JournalEntry, entry_in}
use Rattle.bw_journal.specs.Lines.{journal_lines}
use Rattle.bw_journal.specs.Replays.{Story}
use Rattle.bw_journal.specs.Seals.{opened}
use Rattle.bw_journal.specs.Refs.{entry_said}
use Rattle.bw_journal.proofs.RowLaws.{no_rows, one_more_row}
use Rattle.bw_journal.proofs.ReplaySteps.{begins, goes_on, same_story, differs, next_lines}
use Rattle.bw_journal.proofs.SealLaws.{opened_short}
use Rattle.bw_journal.proofs.reader.replay_entries.Goals as goal

pub loop-step-init : goal.loop-step-init
loop-step-init c =
    let none : c.unopened-state.result.parts.samples_len ≡ 0 =
    ap (λ (p : Parts). p.samples_len) c.unopened-state.ensures in
    record {
      known = begins 47 c.args.existed c.args.bytes.now c.unopened-state.result.parts c.new-table.result.items refl
          c.unopened-state.ensures c.new-table.ensures.items;
      samples = omega arith;
      within = omega arith;
      far = omega arith;
      rows = no_rows c.unopened-state.result.parts c.new-table.result.items 47 none c.new-table.ensures.items (omega arith);
      zeros = c.in_ok-zeros.ensures;
    }

pub returns-in-Err-clause-err : goal.returns-in-Err-clause-err
returns-in-Err-clause-err c = λ f e.
    let bytes = c.args.bytes.now in
    let line = c.in-Some.line.now in
    let content = c.open.new.content.items in
    let s : Story =
    record { parts = c.loop-step.state.parts; table = c.loop-step.table.items; used = c.loop-step.used } in
    let opens : opened line ≡ Some content = search rules in
    let entry : entry_in content ≡ Some (entry_said c.in-Some-entry_of.entry) = search rules in
    let x = c.in-Err.ensures.err f e in
    sym c.loop-step.invariant.known
    ∙ differs (journal_lines (drop c.loop-step.used bytes)) line content
    (journal_lines (drop (c.loop-step.used + (length line + 1)) bytes)) s (entry_said c.in-Some-entry_of.entry)
    (next_lines bytes _ line c.loop-step.used (take_rest bytes c.loop-step.used) c.in-Some.ensures.some) opens entry x.1
    ∙ ap Err (sym x.0)

pub loop-step-preserved : goal.loop-step-preserved
loop-step-preserved c =
    let bytes = c.args.bytes.now in
    let line = c.in-Some.line.now in
    let content = c.open.new.content.items in
    let e : JournalEntry = entry_said c.in-Some-entry_of.entry in
    let s : Story =
    record { parts = c.loop-step.state.parts; table = c.loop-step.table.items; used = c.loop-step.used } in
    let opens : opened line ≡ Some content = search rules in
    let entry : entry_in content ≡ Some e = search rules in
    let rest : length (drop c.loop-step.used bytes) ≡ length bytes - c.loop-step.used =
    length-drop c.loop-step.used bytes in
    let short : length line + 1 ≤ length (drop c.loop-step.used bytes) =
    omega (arith, c.in-Some.ensures.within, ap length (take_rest bytes c.loop-step.used)) in
    let more : List (List ℕ) = journal_lines (drop (c.loop-step.used + (length line + 1)) bytes) in
    let few : length line + 1 ≤ 8297 =
    omega (arith, opened_short line content opens, c.in-Some-entry_of.ensures.short, c.as_slice.ensures.len) in
    record {
      known = same_story more s (e, suc (length line)) c.apply.new.state.parts c.apply.new.table.items
          (c.loop-step.used + (length line + 1))
          c.in_default-apply.ensures.parts c.in_default-apply.ensures.table (omega arith)
          ∙ sym (goes_on (journal_lines (drop c.loop-step.used bytes)) line content more s e
          (next_lines bytes _ line c.loop-step.used (take_rest bytes c.loop-step.used) c.in-Some.ensures.some)
          opens entry c.in_default-apply.ensures.judged)
          ∙ c.loop-step.invariant.known;
      samples = omega (arith, c.in_default-apply.ensures.samples);
      within = omega (arith, short, rest);
      far = omega arith;
      rows = one_more_row c.loop-step.state.parts c.apply.new.state.parts c.loop-step.table.items
          c.apply.new.table.items c.loop-step.used (length line + 1) _ _ c.loop-step.invariant.rows
          c.in_default-apply.ensures.table c.in-Some-entry_of.ensures.digest c.in_default-apply.ensures.samples few;
      zeros = c.loop-step.invariant.zeros;
    }
