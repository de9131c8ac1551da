use Rattle.std.proofs.Common.{◌≡◌, ◌*◌, length, take}
use Rattle.sha2.specs.Sha256.{digest_bytes}
use Rattle.bw_digest.proofs.sha256.bytes_of.Given as goal

abbrev pub invariant-loop-word : goal.invariant-loop-word
invariant-loop-word l = (length l.bytes ≡ 32) × (take (4 * l.word) l.bytes ≡ digest_bytes l.hash l.word)
