use Rattle.std.proofs.Common.{inl, inr}
use Rattle.bw_takes.proofs.TakeNameLemmas.{no_both}
use Rattle.bw_takes.proofs.naming.take_of.Goals as goal

pub returns-in-Some-clause-each : goal.returns-in-Some-clause-each
returns-in-Some-clause-each c name fits of = elim of [
  | inl notes ↦ c.in-Some.ensures.each name fits notes
  | inr wave ↦ absurd (no_both c.args.file.now name c.in-Some.name wave c.in-Some.ensures.some)
]
