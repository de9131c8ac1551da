use Rattle.std.proofs.Common.{◌≡◌, ℕ, List, ◌++◌, sym, ◌∙◌}
use Rattle.std.specs.Prelude.{codes}
use Rattle.bw_recovery.proofs.SortedNames.{put_name}
use Rattle.bw_recovery.proofs.listing.add_name.Goals as goal

pub returns-in-Ok : goal.returns-in-Ok
returns-in-Ok c = record {
  added = put_name (λ (n : List ℕ). c.args.file.now ≡ n ++ codes ".journal") c.args.names.now c.insert.new.self
      c.in-Some.name (c.in-Some.ensures.name, c.in-Some.ensures.some)
      (λ n fits en. sym c.in-Some.is ∙ c.journal_name.ensures.each n fits en) c.in-Ok.ensures.updates;
}
