use Rattle.std.proofs.Common.{arith, ◌∙◌, ◌+◌, ◌<◌, List, ◌∷◌, drop, length, ap, sym, subst, inl, inr}
use Rattle.std.specs.Prelude.{Vec, ℕ}
use Rattle.std.specs.declared.alloc.Global.{Global}
use Rattle.std.proofs.lemmas.List.{drop_more}
use Rattle.std.proofs.lemmas.Bool.{ltb-true}
use Rattle.bw_commands.specs.Runs.{AllReport}
use Rattle.bw_exchange.specs.declared.serving.ExchangeEnd.{ExchangeEnd}
use Rattle.std.proofs.Math.ListN.{drop_of_length-le}
use Rattle.bw_commands.proofs.TextLemmas.{exchange_step, no_exchange_left}
use Rattle.bw_commands.proofs.text.put_exchanges.Goals as goal

pub loop-index-preserved : goal.loop-index-preserved
loop-index-preserved c reported t =
    let i = c.loop-index.invariant reported t in
    let k = c.loop-index.index in
    let rs = c.args.replies.now in
    let es = c.args.ends.now in
    let found = c.in-Some.ensures.lookup in
    let within : k < length rs = ltb-true k (length rs) (sym found.0) in
    let first = drop_more rs k c.in-Some.frames.now within
    ∙ ap (λ (x : Vec ℕ Global). x ∷ drop (k + 1) rs) (sym found.1) in
    exchange_step i.0 c.in-Some.frames.now (drop (k + 1) rs) _ (drop (k + 1) es) k _ _ _ _
    (subst (λ (xs : List ExchangeEnd). AllReport (c.in-Some.frames.now ∷ drop (k + 1) rs) xs i.0)
    (drop_more es k _ c.loop-index-test.true)
    (subst (λ (xs : List (Vec ℕ Global)). AllReport xs (drop k es) i.0) first i.1))
    i.2 c.in_ok-put_exchange_line.ensures
    (λ rs spelled same. c.in_ok-put_replies.ensures rs spelled (c.as_slice.ensures.value ∙ same))

pub returns-in_default : goal.returns-in_default
returns-in_default c reported t =
    let i = c.loop-index.invariant reported t in
    no_exchange_left i.0 _ _ c.loop-index.index _ _ i.1
    (inl (drop_of_length-le c.args.replies.now c.in_default.ensures.lookup.3)) i.2

pub returns : goal.returns
returns c reported t =
    let i = c.loop-index.invariant reported t in
    no_exchange_left i.0 _ _ c.loop-index.index _ _ i.1
    (inr (drop_of_length-le c.args.ends.now (omega arith))) i.2
