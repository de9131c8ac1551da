use Rattle.std.proofs.Common.{rules, arith, ◌≡◌, ◌∙◌, ◌<◌, ◌≤◌, ◌+◌, suc, ℕ, List, Bool, false, Some, length, refl, sym, ap, subst}
use Rattle.std.specs.Prelude.{slice_get, option_map}
use Rattle.std.proofs.lemmas.List.{length-map}
use Rattle.std.proofs.lemmas.Option.{slice_get-map, slice_get_read}
use Rattle.bw_folder.specs.JournalFolders.{open_journals, has_pending}
use Rattle.bw_folder.specs.declared.journal.OpenJournal.{OpenJournal}
use Rattle.bw_folder.proofs.CommitForms.{IsCommittedTo, commits_ok, commits_then, committed_next, committed_whole}
use Rattle.bw_folder.proofs.journal.FolderJournal.commit.Goals as goal

pub returns-in_err-commit_name-clause-commits : goal.returns-in_err-commit_name-clause-commits
returns-in_err-commit_name-clause-commits g c =
    let it = commits_then tt c.commit_name.result _ _ _ c.loop-place.invariant.so_far.commits c.commit_name.ensures.commits in
    record {
      kept = it.kept;
      fewer = it.fewer;
      names = it.names;
      unmarked = search rules;
      marked = it.marked;
      first = it.first;
      stopped = it.stopped;
    }

pub loop-place-preserved : goal.loop-place-preserved
loop-place-preserved g c =
    let old = c.args.self.now in
    let mid = c.loop-place.self in
    let new = c.commit_name.new.self in
    let so_far = c.loop-place.invariant.so_far in
    let items : List (OpenJournal g.row.D-File.Denot) = mid.journals.items in
    let place : ℕ = c.loop-place.place in
    let journal = c.index.result.now in
    let shown : OpenJournal g.row.D-File.Denot → List ℕ × Bool = λ j. (j.name, j.existed) in
    let long : length items ≡ length old.journals.items =
    sym (length-map items shown) ∙ ap length so_far.commits.kept.journals ∙ length-map old.journals.items shown in
    let within : place < length items = omega (arith, long) in
    let here : slice_get (open_journals mid) place ≡ Some (journal.name, journal.existed) =
    slice_get-map shown items place
    ∙ ap (option_map shown) (slice_get_read items (length items) place journal refl within c.index.ensures) in
    let one = commits_ok c.commit_name.result _ mid new c.in_ok-commit_name.was c.commit_name.ensures.commits in
    let done : has_pending new journal.name ≡ false =
    ap (λ (n : List ℕ). has_pending new n) (sym c.copy-name.ensures) ∙ c.in_ok-commit_name.ensures.whole in
    let next : suc place ≡ place + 1 = omega arith in
    record {
      so_far = subst (λ (n : ℕ). IsCommittedTo n old new) next
          (committed_next place old mid new (journal.name, journal.existed) here so_far one done);
      failures = c.in_ok-commit_name.ensures.disk_failures.quiet (search rules) ∙ c.loop-place.invariant.failures;
    }

pub returns-clause-whole : goal.returns-clause-whole
returns-clause-whole g c =
    let long : length c.args.self.now.journals.items ≤ c.loop-place.place = omega arith in
    committed_whole c.loop-place.place c.args.self.now c.loop-place.self c.loop-place.invariant.so_far long
