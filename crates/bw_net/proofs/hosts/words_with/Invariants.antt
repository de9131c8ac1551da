use Rattle.std.proofs.Common.{◌≡◌, ◌++◌, map, drop, string_bytes}
use Rattle.bw_net.specs.Hosts.{words_with}
use Rattle.bw_net.specs.declared.hosts.Place.TheVariants.{Program}
use Rattle.bw_net.proofs.hosts.words_with.Given as goal

abbrev pub invariant-loop-word : goal.invariant-loop-word
invariant-loop-word l = map string_bytes l.read.items
    ++ words_with (string_bytes l.address) l.place (map string_bytes (drop l.word-index l.words))
    ≡ words_with (string_bytes l.address) Program (map string_bytes l.words)
