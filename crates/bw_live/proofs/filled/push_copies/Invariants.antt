use Rattle.std.proofs.Common.{◌≡◌, ◌++◌, map, drop, string_bytes}
use Rattle.bw_live.proofs.filled.push_copies.Given as goal

abbrev pub invariant-loop-text : goal.invariant-loop-text
invariant-loop-text l = map string_bytes l.texts.items ++ map string_bytes (drop l.text-index l.given)
    ≡ map string_bytes l.initial.texts.items ++ map string_bytes l.given
