use Rattle.std.proofs.Common.{◌≡◌, ◌≤◌, ◌/◌, ℕ, length, List, ap, ◌∙◌, arith}
use Rattle.bw_model.specs.Take.{Verdict}
use Rattle.bw_file.specs.GrowingFiles.{Growing}
use Rattle.bw_journal.specs.Rows.{row_count}
use Rattle.bw_session.proofs.Packing.{length-entries}
use Rattle.bw_session.proofs.resuming.session_of.Goals as goal

pub invariant_of-progress : goal.invariant_of-progress
invariant_of-progress c =
    let table = c.args.take.replayed.table.items in
    let rows = c.args.take.replayed.rows in
    let few = c.args.take.numbers in
    let bound : length table / 33 ≤ 16777216 = grind arith in
    let count : length c.resume.result.outcomes ≡ row_count table =
    ap (λ (xs : List (List ℕ × Verdict)). length xs) c.resume.ensures ∙ length-entries (row_count table) table in
    record {
      same_name = ap (λ (g : Growing). g.name) c.in_ok-growing.ensures ∙ c.copy.ensures;
      measured = record {
        samples = omega (arith, rows.samples, count);
        notes = omega (arith, rows.notes, count);
        numbers = omega (arith, bound, count);
      };
    }
