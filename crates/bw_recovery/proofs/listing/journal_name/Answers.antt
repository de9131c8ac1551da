use Rattle.std.proofs.Common.{sym, ◌∙◌}
use Rattle.std.specs.Prelude.{codes, Some}
use Rattle.std.proofs.lemmas.Slice.Eq.{strip_suffix_is}
use Rattle.std.proofs.lemmas.Bool.Decides.{Decides-eqb}
use Rattle.bw_recovery.proofs.ListForms.{named}
use Rattle.bw_recovery.proofs.listing.journal_name.Goals as goal

pub returns-clause-some : goal.returns-clause-some
returns-clause-some c =
    named (codes ".journal") c.new.result _ c.in-Some.stem.now c.args.file.now c.new.ensures
    (sym c.as_bytes.ensures.value
    ∙ strip_suffix_is Decides-eqb c.as_bytes.result.now (codes ".journal") (Some c.in-Some.stem)
    c.in-Some.ensures.cases)
