use Rattle.std.proofs.Common.{◌≡◌, ◌≢◌, ◌+◌, [], List, ℕ, IsTrue, ap, drop, length, sym, take, ◌∙◌, rules, subst}
use Rattle.std.proofs.lemmas.List.{take_rest}
use Rattle.bw_model.specs.Wire.{is_name}
use Rattle.bw_queue.specs.Namings.{IsNaming}
use Rattle.bw_queue.proofs.NamingLemmas.{naming_has_blank, naming_here, naming_parts, none_left, some_left}
use Rattle.bw_queue.proofs.namings.naming_of.Goals as goal

pub returns-in_default : goal.returns-in_default
returns-in_default c name path is =
    naming_has_blank c.args.line.now name path (sym c.first_blank.ensures.place ∙ c.in_default.is) is

pub returns-in_default-new : goal.returns-in_default-new
returns-in_default-new c name path is =
    let parts = naming_parts c.args.line.now name path c.in-Some.blank (sym c.first_blank.ensures.place ∙ c.in-Some.is)
    is in
    c.in_default-new.ensures (subst (λ (n : List ℕ). IsTrue (is_name n)) (sym parts.0) is.named)

pub returns-then-is_empty : goal.returns-then-is_empty
returns-then-is_empty c name path is =
    let parts = naming_parts c.args.line.now name path c.in-Some.blank (sym c.first_blank.ensures.place ∙ c.in-Some.is)
    is in
    is.located (sym parts.1 ∙ none_left c.args.line.now (c.in-Some.blank + 1) (sym c.is_empty.ensures ∙ c.if-is_empty.true))

pub returns : goal.returns
returns c = rw (c.in-Some-new.ensures.1, take_rest c.args.line.now (c.in-Some.blank + 1)) (naming_here c.args.line.now
    c.in-Some.blank (sym c.first_blank.ensures.place ∙ c.in-Some.is) c.in-Some-new.ensures.0
    (some_left c.args.line.now (c.in-Some.blank + 1) (sym c.is_empty.ensures ∙ c.if-is_empty.false)))
