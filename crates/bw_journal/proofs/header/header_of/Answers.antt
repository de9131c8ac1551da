use Rattle.std.proofs.Common.{rules, ◌≡◌, true, sym, ◌∙◌}
use Rattle.bw_journal.specs.Seals.{check}
use Rattle.bw_journal.proofs.HeaderWrites.{unchecked, unflagged, header_read}
use Rattle.bw_journal.proofs.header.header_of.Goals as goal

pub returns-then-not-is_check : goal.returns-then-not-is_check
unfolding check
returns-then-not-is_check c = unchecked c.args.plain.now (search rules)

pub returns-in_default : goal.returns-in_default
unfolding check
returns-in_default c = unflagged c.args.plain.now (search rules)

pub returns : goal.returns
returns c =
    let passes : c.is_check.result ≡ true = search rules in
    header_read c.args.plain.now c.read_u32.result c.in-Some.existed c.copy_from_slice.new.self
    (search rules) (sym c.is_check.ensures ∙ passes) (search rules) (sym c.flag_of.ensures ∙ c.in-Some.is) (search rules)
