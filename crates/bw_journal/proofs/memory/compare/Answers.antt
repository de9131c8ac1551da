use Rattle.std.proofs.Common.{ap, subst, sym, ◌∙◌}
use Rattle.std.specs.Option.{option_copied}
use Rattle.bw_journal.specs.Notes.{BeginsWith}
use Rattle.bw_journal.proofs.Starts.{begins_not}
use Rattle.bw_journal.proofs.memory.compare.Goals as goal

pub returns-else-is_torn-clause-stands : goal.returns-else-is_torn-clause-stands
returns-else-is_torn-clause-stands c = λ begins.
    begins_not c.args.header.now c.in-Some.content.now
    (subst (BeginsWith c.args.header.now) (ap option_copied c.in-Some.is) begins)
    (sym c.has_prefix_of.ensures ∙ c.if-has_prefix_of.false)
