use Rattle.bw_kept.proofs.FoundForms.{forgets_then, none_pending}
use Rattle.bw_kept.proofs.finding.drop_one.Goals as goal

pub drop_any-requires : goal.drop_any-requires
drop_any-requires g c = record {
  committed = none_pending c.args.server.now c.drop_oldest.new.server c.in-NoneMay.ensures.forgets.pending
      c.requires.committed;
}

pub returns-in-NoneMay-clause-forgets : goal.returns-in-NoneMay-clause-forgets
returns-in-NoneMay-clause-forgets g c =
    forgets_then _ c.args.server.now c.drop_oldest.new.server c.drop_any.new.server c.in-NoneMay.ensures.forgets
    c.drop_any.ensures.forgets
