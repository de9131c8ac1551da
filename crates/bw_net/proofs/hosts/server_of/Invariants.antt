use Rattle.std.proofs.Common.{◌≡◌, map, drop, string_bytes}
use Rattle.bw_net.specs.Hosts.{server_of}
use Rattle.bw_net.specs.declared.hosts.Place.TheVariants.{Program}
use Rattle.bw_net.proofs.hosts.server_of.Given as goal

abbrev pub invariant-loop-word : goal.invariant-loop-word
invariant-loop-word l = server_of Program (map string_bytes l.words)
    ≡ server_of l.place (map string_bytes (drop l.word-index l.words))
