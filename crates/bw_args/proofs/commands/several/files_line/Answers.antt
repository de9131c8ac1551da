use Rattle.std.proofs.Common.{◌≡◌, [], ◌∷◌, true, false, codes, sym, ◌∙◌}
use Rattle.clap.specs.Words.{first_value, found_of}
use Rattle.bw_args.specs.Lines.{looked_at_trying}
use Rattle.bw_args.specs.declared.bad_value.BadValue.TheVariants.{Connect, Files, Receipt}
use Rattle.bw_args.proofs.Asked.{bad, bad_sender, first_then, found_address, no_address, tries_then, ◌and_then◌}
use Rattle.bw_args.proofs.commands.several.files_line.Goals as goal

pub returns-then-is_files_mixed-clause-ok : goal.returns-then-is_files_mixed-clause-ok
returns-then-is_files_mixed-clause-ok c = bad_sender (found_of c.args.options.now) true Files c.requires.some
    (bad (λ good. let apart : true ≡ false = sym c.if-is_files_mixed.true ∙ c.is_files_mixed.ensures ∙ good in cc))

pub returns-in_default-clause-ok : goal.returns-in_default-clause-ok
returns-in_default-clause-ok c = bad_sender (found_of c.args.options.now) true Connect c.requires.some (
    sym c.is_files_mixed.ensures ∙ c.if-is_files_mixed.false
    and_then bad (no_address (found_of c.args.options.now) (codes "connect") _ c.flag_given-network.ensures
    c.in_default.ensures)
    )

pub returns-in-Err-clause-ok : goal.returns-in-Err-clause-ok
returns-in-Err-clause-ok c = bad_sender (found_of c.args.options.now) true c.in-Err.value c.requires.some (
    sym c.is_files_mixed.ensures ∙ c.if-is_files_mixed.false
    and_then found_address (found_of c.args.options.now) (codes "connect") _ _ c.flag_given-network.ensures c.in-Some.ensures
    and_then first_then looked_at_trying (Receipt ∷ []) (first_value (found_of c.args.options.now))
    c.in-Err.value c.in-Err.ensures.err
    )

pub returns-then-is_receipt_mixed-clause-ok : goal.returns-then-is_receipt_mixed-clause-ok
returns-then-is_receipt_mixed-clause-ok c = bad_sender (found_of c.args.options.now) true Receipt c.requires.some (
    sym c.is_files_mixed.ensures ∙ c.if-is_files_mixed.false
    and_then found_address (found_of c.args.options.now) (codes "connect") _ _ c.flag_given-network.ensures c.in-Some.ensures
    and_then tries_then (Receipt ∷ []) (first_value (found_of c.args.options.now)) Receipt
    c.in-Ok.tries c.in-Ok.ensures.ok
    (bad (λ good. let apart : true ≡ false = sym c.if-is_receipt_mixed.true ∙ c.is_receipt_mixed.ensures ∙ good in cc))
    )
