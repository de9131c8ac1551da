use Rattle.std.proofs.Common.{◌≡◌, drop}
use Rattle.bw_contents.specs.Markup.{number_after}
use Rattle.bw_contents.proofs.markup.number_of_digits.Given as goal

abbrev pub invariant-loop-digit : goal.invariant-loop-digit
invariant-loop-digit l = number_after l.base l.most l.number (drop l.digit-index l.digits)
    ≡ number_after l.base l.most 0 l.digits
