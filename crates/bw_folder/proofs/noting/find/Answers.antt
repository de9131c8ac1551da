use Rattle.bw_folder.proofs.JournalNames.{known_at, named_at}
use Rattle.bw_folder.proofs.PendingForms.{pending_placed, pending_absent}
use Rattle.bw_folder.proofs.noting.find.Goals as goal

pub returns-clause-open : goal.returns-clause-open
returns-clause-open g c = known_at c.args.journals.now c.args.name.now c.first_of.result c.first_of.ensures

pub returns-clause-place : goal.returns-clause-place
returns-clause-place g c = named_at c.args.journals.now c.args.name.now c.first_of.result c.first_of.ensures

pub returns-clause-pending : goal.returns-clause-pending
returns-clause-pending g c = pending_placed c.args.journals.now c.args.name.now c.first_of.result c.first_of.ensures

pub returns-clause-none : goal.returns-clause-none
returns-clause-none g c = pending_absent c.args.journals.now c.args.name.now c.first_of.result c.first_of.ensures
