use Rattle.std.proofs.Common.{rules, ◌≡◌, ◌+◌, ◌≤◌, ◌++◌, ◌∷◌, [], ℕ, List, length, take, drop, vec_len}
use Rattle.std.proofs.Common.{vec_capacity, arith, refl, ap, ◌∙◌}
use Rattle.std.proofs.lemmas.List.{length-append}
use Rattle.bw_model.specs.Requests.{meaning}
use Rattle.bw_model.specs.VerdictMeanings.{verdict_meaning}
use Rattle.bw_journal.specs.Entries.{JournalEntry, content, sealed_entry}
use Rattle.bw_journal.specs.Lines.{stuffed}
use Rattle.bw_journal.specs.Seals.{check}
use Rattle.bw_journal.proofs.EntryLaws.{entries_are_short}
use Rattle.bw_journal.proofs.Lengths.{entry_length}
use Rattle.bw_journal.proofs.WrittenEntries.{refused, appended, entry_after}
use Rattle.bw_journal.proofs.writer.put_entry.Goals as goal

pub returns-in_err-reserve-clause-entry : goal.returns-in_err-reserve-clause-entry
returns-in_err-reserve-clause-entry c =
    let e : JournalEntry =
    record { request = meaning c.args.request.now; verdict = verdict_meaning c.args.verdict; digest = c.args.digest.now } in
    let long : length c.args.digest.now ≡ 32 = search rules in
    refused (sealed_entry e) (length (sealed_entry e)) c.from_residual.result c.args.out.now c.reserve.new.self
    c.from_residual.ensures.0 c.reserve.ensures.items c.reserve.ensures.capacity
    (λ room. absurd (omega (arith, room, c.in_err-reserve.ensures.full, entry_length e long, c.noted_len.ensures.value)))

pub returns-in_err-reserve-clause-short : goal.returns-in_err-reserve-clause-short
returns-in_err-reserve-clause-short c =
    let long : length c.args.digest.now ≡ 32 = search rules in entries_are_short _ (c.requires, long)

pub returns-then-is_err-clause-entry : goal.returns-then-is_err-clause-entry
returns-then-is_err-clause-entry c =
    let e : JournalEntry =
    record { request = meaning c.args.request.now; verdict = verdict_meaning c.args.verdict; digest = c.args.digest.now } in
    let mid = c.push_checked.new.out.items in
    let place : c.len-start.result ≡ length c.args.out.now.items = search rules in
    let there : mid ≡ c.args.out.now.items ++ (content e ++ check (content e)) = search rules in
    let after = entry_after e c.args.out.now.items mid c.len-start.result place there in
    let kept : c.stuff_from.new.out.items ≡ mid = search rules in
    let size : length (stuffed (drop c.len-start.result mid)) + 1 ≡ length (sealed_entry e) =
    omega (arith, length-append (stuffed (drop c.len-start.result mid)) (2 ∷ []), ap length after.1) in
    refused (sealed_entry e) (length (sealed_entry e)) _ c.args.out.now c.truncate.new.self refl
    (c.truncate.ensures.items ∙ ap (take c.len-start.result) kept ∙ after.0)
    (omega (arith, c.truncate.ensures.capacity, c.stuff_from.ensures.capacity, c.push_checked.ensures.capacity, c.reserve.ensures.capacity))
    (λ room.
    let fits : c.len-start.result + length (stuffed (drop c.len-start.result mid)) + 1 ≤ vec_capacity c.push_checked.new.out =
    omega (arith, room, size, c.len-start.ensures, c.push_checked.ensures.capacity, c.reserve.ensures.capacity) in
    let ok = c.stuff_from.ensures.succeeds fits in
    search rules)

pub returns-then-is_err-clause-short : goal.returns-then-is_err-clause-short
returns-then-is_err-clause-short c =
    let long : length c.args.digest.now ≡ 32 = search rules in entries_are_short _ (c.requires, long)

pub returns-clause-entry : goal.returns-clause-entry
returns-clause-entry c =
    let e : JournalEntry =
    record { request = meaning c.args.request.now; verdict = verdict_meaning c.args.verdict; digest = c.args.digest.now } in
    let mid = c.push_checked.new.out.items in
    let place : c.len-start.result ≡ length c.args.out.now.items = search rules in
    let there : mid ≡ c.args.out.now.items ++ (content e ++ check (content e)) = search rules in
    let after = entry_after e c.args.out.now.items mid c.len-start.result place there in
    let now : c.stuff_from.new.out.items ≡ take c.len-start.result mid ++ (stuffed (drop c.len-start.result mid) ++ 2 ∷ []) =
    search rules in
    let is : c.stuff_from.new.out.items ≡ c.args.out.now.items ++ sealed_entry e =
    now ∙ ap (λ (x : List ℕ). x ++ (stuffed (drop c.len-start.result mid) ++ 2 ∷ [])) after.0
    ∙ ap (λ (x : List ℕ). c.args.out.now.items ++ x) after.1 in
    let size : length (stuffed (drop c.len-start.result mid)) + 1 ≡ length (sealed_entry e) =
    omega (arith, length-append (stuffed (drop c.len-start.result mid)) (2 ∷ []), ap length after.1) in
    let len : vec_len c.stuff_from.new.out ≡ c.len-start.result + length (stuffed (drop c.len-start.result mid)) + 1 =
    search rules in
    appended (sealed_entry e) c.args.out.now c.stuff_from.new.out is (omega (arith, len, size, c.len-start.ensures))
    (omega (arith, c.stuff_from.ensures.capacity, c.push_checked.ensures.capacity, c.reserve.ensures.capacity))

pub returns-clause-short : goal.returns-clause-short
returns-clause-short c =
    let long : length c.args.digest.now ≡ 32 = search rules in entries_are_short _ (c.requires, long)
