use Rattle.std.proofs.Common.{◌≡◌, ◌++◌, map, drop, string_bytes}
use Rattle.bw_args.proofs.read_words.push_copies.Given as goal

abbrev pub invariant-loop-word : goal.invariant-loop-word
invariant-loop-word l = map string_bytes l.read.items ++ map string_bytes (drop l.word-index l.words)
    ≡ map string_bytes l.fn.read.items ++ map string_bytes l.words
