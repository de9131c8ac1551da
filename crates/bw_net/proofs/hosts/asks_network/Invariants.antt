use Rattle.std.proofs.Common.{◌≡◌, map, drop, string_bytes}
use Rattle.bw_net.specs.Hosts.{asks_network}
use Rattle.bw_net.proofs.hosts.asks_network.Given as goal

abbrev pub invariant-loop-word : goal.invariant-loop-word
invariant-loop-word l = asks_network (map string_bytes l.words)
    ≡ asks_network (map string_bytes (drop l.word-index l.words))
