use Rattle.std.proofs.Common.{◌≡◌, ◌∙◌, sym, ap, refl, arith, ℕ, List, ◌+◌, ◌-◌}
use Rattle.std.specs.Prelude.{◌%◌, codes}
use Rattle.std.proofs.lemmas.Bool.{lt-ltb, le-ltb}
use Rattle.bw_model.specs.Limits.{most_chunks}
use Rattle.bw_model.specs.Reading.{is_id}
use Rattle.bw_live.proofs.SearchSteps.{ends_other, ends_short, found_at, passes_over}
use Rattle.bw_live.proofs.header.search.Goals as goal

pub loop-chunk-init : goal.loop-chunk-init
loop-chunk-init c = record { near = omega arith; after = omega arith; goes_on = refl }

pub overflow_add-place : goal.overflow_add-place
overflow_add-place c = let n = c.loop-chunk.invariant.near in let t = c.loop-chunk-test.true in omega (arith, n, t)

pub returns-then-bytes-place-clause-value : goal.returns-then-bytes-place-clause-value
returns-then-bytes-place-clause-value c =
    sym (ends_short (most_chunks - c.loop-chunk._chunk) (most_chunks - (c.loop-chunk._chunk + 1)) c.args.bytes.now
    c.loop-chunk.place (omega (arith, c.loop-chunk-test.true)) (lt-ltb _ _ c.if-bytes-place.true))
    ∙ c.loop-chunk.invariant.goes_on

pub returns-then-eq-clause-value : goal.returns-then-eq-clause-value
returns-then-eq-clause-value c =
    sym (found_at (most_chunks - c.loop-chunk._chunk) (most_chunks - (c.loop-chunk._chunk + 1)) c.args.bytes.now
    c.loop-chunk.place (omega (arith, c.loop-chunk-test.true)) (le-ltb _ _ c.if-bytes-place.false)
    (ap (λ (i : List ℕ). is_id i (codes "data")) (sym c.read_id.ensures) ∙ (sym c.eq.ensures ∙ c.if-eq.true)))
    ∙ c.loop-chunk.invariant.goes_on

pub loop-chunk-preserved : goal.loop-chunk-preserved
loop-chunk-preserved c = record {
  near = let n = c.loop-chunk.invariant.near in let s = c.from-size.ensures in let m = c.read_u32.type_inv in
      omega (arith, n, s, m);
  after = let a = c.loop-chunk.invariant.after in omega (arith, a);
  goes_on = sym (passes_over (most_chunks - c.loop-chunk._chunk) (most_chunks - (c.loop-chunk._chunk + 1)) c.args.bytes.now
      c.loop-chunk.place _ (omega (arith, c.loop-chunk-test.true)) (le-ltb _ _ c.if-bytes-place.false)
      (ap (λ (i : List ℕ). is_id i (codes "data")) (sym c.read_id.ensures) ∙ (sym c.eq.ensures ∙ c.if-eq.false))
      (ap (λ (n : ℕ). c.loop-chunk.place + (8 + n + n % 2)) (c.from-size.ensures ∙ c.read_u32.ensures) ∙ omega arith))
      ∙ c.loop-chunk.invariant.goes_on;
}

pub returns-clause-value : goal.returns-clause-value
returns-clause-value c =
    sym (ends_other (most_chunks - c.loop-chunk._chunk) c.args.bytes.now c.loop-chunk.place
    (let t = c.loop-chunk-test.false in omega (arith, t)))
    ∙ c.loop-chunk.invariant.goes_on
