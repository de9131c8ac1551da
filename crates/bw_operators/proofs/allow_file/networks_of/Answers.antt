use Rattle.std.proofs.Common.{List, ℕ, ◌+◌, subst, sym, take}
use Rattle.bw_operators.specs.AllowLists.{AllowedNetwork}
use Rattle.bw_operators.specs.AllowFiles.{SayNetworks, texts}
use Rattle.bw_operators.proofs.AllowFileLemmas.{networks_more, no_networks}
use Rattle.bw_operators.proofs.allow_file.networks_of.Goals as goal

pub returns-in_default : goal.returns-in_default
returns-in_default c = no_networks c.args.words.now c.loop-word.word-index _ c.loop-word-test.true c.in_default.ensures

pub loop-word-preserved : goal.loop-word-preserved
loop-word-preserved c =
    subst (λ (x : List AllowedNetwork). SayNetworks (take (c.loop-word.word-index + 1) (texts c.args.words.now)) x)
    (sym c.in_ok-push.ensures.items)
    (networks_more c.args.words.now c.loop-word.word-index _ c.loop-word.networks.items c.in-Some.network
    c.loop-word-test.true c.loop-word.invariant c.in-Some.ensures)
