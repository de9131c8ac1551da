use Rattle.std.proofs.lemmas.List.{take_rest}
use Rattle.bw_repair.proofs.SectionLaws.{begun}
use Rattle.bw_repair.proofs.left_out.sections.Sections.begin_next.Goals as goal

pub returns-clause-kept : goal.returns-clause-kept
returns-clause-kept g c =
    begun c.args.self.now.front.now c.args.self.now.gap c.args.self.now.size c.args.self.now.rest.now _ _
    (g.R.Source.left c.args.self.now.inner) c.requires.more c.requires.front c.requires.gap c.requires.size
    (take_rest c.args.self.now.rest.now 1)
