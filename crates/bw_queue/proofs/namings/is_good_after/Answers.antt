use Rattle.std.proofs.Common.{inr, sym, ◌∙◌}
use Rattle.bw_queue.proofs.NamingLemmas.{empty_good, named_twice, names_nothing}
use Rattle.bw_queue.proofs.namings.is_good_after.Goals as goal

pub returns-in_default : goal.returns-in_default
returns-in_default c = names_nothing _ c.args.line.now (sym c.is_empty.ensures ∙ c.if-is_empty.false)
    c.in_default.ensures

pub returns-then-is_empty : goal.returns-then-is_empty
returns-then-is_empty c = empty_good _ c.args.line.now (sym c.is_empty.ensures ∙ c.if-is_empty.true)

pub returns-in-None : goal.returns-in-None
returns-in-None c = inr (c.in-Some._name, c.in-Some.path.now, c.in-Some.ensures, c.in-None.ensures)

pub returns-in-Some-name_in : goal.returns-in-Some-name_in
returns-in-Some-name_in c = named_twice _ c.args.line.now c.in-Some._name c.in-Some.path.now _
    (sym c.is_empty.ensures ∙ c.if-is_empty.false) c.in-Some.ensures c.in-Some-name_in.ensures
