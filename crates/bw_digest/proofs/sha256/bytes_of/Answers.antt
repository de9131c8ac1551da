use Rattle.std.proofs.Common.{rules, ◌≡◌, ◌∙◌, arith, sym}
use Rattle.std.proofs.lemmas.List.{take_all}
use Rattle.std.proofs.lemmas.Slice.{overwrites}
use Rattle.sha2.specs.Sha256.{digest_bytes}
use Rattle.sha2.proofs.Absorbing256.{digest_more}
use Rattle.bw_digest.proofs.sha256.bytes_of.Goals as goal

pub loop-word-init : goal.loop-word-init
unfolding digest_bytes
loop-word-init c = search rules

pub loop-word-preserved : goal.loop-word-preserved
loop-word-preserved c = (
  search (rules, overwrites),
  digest_more c.loop-word.bytes c.args.hash.now _ c.loop-word.word _ c.loop-word.invariant.1 (omega arith)
      (c.copy_from_slice.ensures.after ∙ c.to_be_bytes.ensures),
)

pub returns : goal.returns
returns c =
    let done : c.loop-word.word ≡ 8 = omega arith in
    sym (take_all 32 c.loop-word.bytes (omega arith)) ∙ rw done at c.loop-word.invariant.1
