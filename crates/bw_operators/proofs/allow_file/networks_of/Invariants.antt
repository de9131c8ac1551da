use Rattle.std.proofs.Common.{take}
use Rattle.bw_operators.specs.AllowFiles.{SayNetworks, texts}
use Rattle.bw_operators.proofs.allow_file.networks_of.Given as goal

-- the words so far say the networks so far
abbrev pub invariant-loop-word : goal.invariant-loop-word
invariant-loop-word l = SayNetworks (take l.word-index (texts l.words)) l.networks.items
