use Rattle.std.proofs.Common.{◌≡◌, ◌++◌, false, map, drop, string_bytes}
use Rattle.bw_args.specs.ReadWords.{joined}
use Rattle.bw_args.proofs.read_words.push_joined.Given as goal

abbrev pub invariant-loop-word : goal.invariant-loop-word
invariant-loop-word l = map string_bytes l.read.items
    ++ joined l.option l.waits (map string_bytes (drop l.word-index l.words))
    ≡ map string_bytes l.fn.read.items ++ joined l.option false (map string_bytes l.words)
