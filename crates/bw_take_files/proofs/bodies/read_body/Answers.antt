use Rattle.std.proofs.Common.{rules, arith, ◌≡◌, ◌≤◌, ◌++◌, ℕ, List, length, take, drop, sym, ap, ◌∙◌}
use Rattle.bw_take_files.specs.BlockDigests.{samples_at}
use Rattle.bw_take_files.proofs.BodyLemmas.{part_follows}
use Rattle.bw_take_files.proofs.bodies.read_body.Goals as goal

pub returns-clause-read : goal.returns-clause-read
returns-clause-read g c = λ honest found stands.
    let start = c.put_prefix-start.result in
    let room = c.put_prefix-start.new.room in
    let part = c.read_from.new.room in
    let count = c.in_ok-count.count in
    let width : length part ≡ c.args.block.len = search rules in
    let same = sym c.read_from.ensures.room ∙ width in
    let long : length room ≡ 32806 = c.put_prefix-start.ensures.room in
    let short : start ≤ 38 = c.put_prefix-start.ensures.short in
    let fits : count ≤ length part = omega (arith, c.in_ok-count.ensures.fits, same, width) in
    part_follows room part _ start count (omega (arith, long, short)) fits
    ∙ ap (λ (b : List ℕ). take start room ++ b)
    (c.in_ok-count.ensures.read honest found stands ∙ ap (λ (n : ℕ). take n (drop c.args.block.offset found)) same)
    ∙ c.put_prefix-start.ensures.value (samples_at found c.args.block)
