use Rattle.std.proofs.Common.{◌≡◌, ℕ, ◌-◌, ◌*◌, ◌/◌, ◌%◌, ◌+◌, ◌∙◌, length, drop, replicate, ap, sym, arith, length-append, length-drop}
use Rattle.std.proofs.lemmas.List.{take_rest}
use Rattle.bw_digest.proofs.MessageLemmas.{tail_is}
use Rattle.bw_digest.proofs.message.tail_of.Goals as goal

pub returns : goal.returns
returns c =
    let n = length c.args.body.now in
    let start : n - n % 64 ≡ n / 64 * 64 = omega arith in
    let rest = c.copy_from_slice.ensures.after ∙ take_rest c.args.body.now (n - n % 64) ∙ ap (λ k. drop k c.args.body.now) start in
    let zeros = drop (n % 64) (replicate 128 0) in
    let used = ap length rest ∙ length-drop (n / 64 * 64) c.args.body.now in
    let padding = c.copy_from_slice-2.ensures.after in
    tail_is c.args.body.now c.copy_from_slice.new.self zeros c.copy_from_slice-2.new.self c.copy_from_slice-3.new.self _ _ _ rest
    (padding ∙ c.padding-padding.ensures) (c.copy_from_slice-3.ensures.after ∙ c.to_be_bytes.ensures)
    (omega (arith, used, length-append c.copy_from_slice.new.self zeros, length-drop {A = ℕ} (n % 64) (replicate 128 0)))
    (ap (λ k. n % 64 + k) (ap length (sym padding)))
