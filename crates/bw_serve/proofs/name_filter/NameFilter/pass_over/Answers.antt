use Rattle.std.proofs.Common.{sym, subst, ◌∙◌, ◌-◌, ◌≡◌, ℕ, Bool, ap, arith}
use Rattle.bw_serve.specs.Filters.{Filter, filtered, after_bytes}
use Rattle.bw_serve.proofs.Passing.{filtered-passing, filtered-framing, framing}
use Rattle.bw_serve.proofs.name_filter.NameFilter.pass_over.Goals as goal

pub returns-then-self-clause-same : goal.returns-then-self-clause-same
returns-then-self-clause-same c bytes size =
    let p = filtered-passing c.args.self.now bytes
    (sym (ap (λ (f : Filter). f.passing) c.self.view_is) ∙ c.if-self.true) in
    (p.0, sym p.1)

pub returns-clause-same : goal.returns-clause-same
returns-clause-same c bytes size =
    let i = c.self.inside in
    let f : Filter = framing i.first.items i.head.items i.left in
    let f-is : record { first = i.first.items; head = i.head.items; left = i.left; passing = i.passing } ≡ f =
    ap (λ (b : Bool). record { first = i.first.items; head = i.head.items; left = i.left; passing = b }) c.if-self.false in
    let run = filtered-framing i.first.items i.head.items i.left bytes (omega (arith, size, c.min-count.ensures)) in
    let left : framing i.first.items i.head.items (i.left - c.min-count.result) ≡ after_bytes f bytes =
    ap (λ (n : ℕ). framing i.first.items i.head.items (i.left - n)) (sym size) ∙ sym run.1 in
    let new : Filter = record {
      first = i.first.items;
      head = i.head.items;
      left = i.left - c.min-count.result;
      passing = i.passing;
    } in
    let passing : new ≡ after_bytes f bytes =
    ap (λ (b : Bool). record {
      first = i.first.items;
      head = i.head.items;
      left = i.left - c.min-count.result;
      passing = b;
    }) c.if-self.false ∙ left in
    subst (λ (g : Filter). (filtered g bytes ≡ bytes) × (new ≡ after_bytes g bytes)) (sym f-is ∙ c.self.view_is)
    (run.0, passing)
