use Rattle.std.proofs.Common.{rules, ◌≡◌, ◌∙◌, ap, sym, ℕ, Some, drop, length}
use Rattle.bw_plan.specs.Progress.{Samples}
use Rattle.bw_plan.proofs.NextRequests.{next_block, on_ok_map}
use Rattle.bw_plan.proofs.block_reader.BlockReader.read_next.Goals as goal

pub returns-clause-ok : goal.returns-clause-ok
returns-clause-ok g c =
    on_ok_map c.read_at.result c.read_at.ensures.ok (λ given. λ b e.
    let place : c.args.self.now.place ≡ c.self.inside.place = ap (λ (s : Samples). s.place) (sym c.self.view_is) in
    next_block b c.read_at.new.buf _ c.self.inside.block.items c.args.self.now c.self.inside.size c.self.inside.place
    c.self.inside.left c.min-len.result (length c.as_mut_slice.result.now) _ _ c.self.view_is (search rules)
    (search rules) (search rules) (search rules) (search rules)
    (given b (e ∙ ap (λ (k : ℕ). Some (drop k b)) place)))
