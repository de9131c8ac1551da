use Rattle.std.proofs.Common.{ℕ, List, map, refl, subst, sym}
use Rattle.std.specs.Prelude.{Vec}
use Rattle.std.specs.declared.alloc.Global.{Global}
use Rattle.bw_store.specs.Memory.{content_under}
use Rattle.bw_exchange.specs.declared.serving.ExchangeEnd.{ExchangeEnd}
use Rattle.bw_commands.specs.OneFuse.{failures_under}
use Rattle.bw_commands.proofs.ReplayLemmas.{Replayed, replayed, with_ok, text_replayed, one_at_most}
use Rattle.bw_commands.proofs.replay.run_text.Goals as goal

pub returns : goal.returns
returns c =
    let run = c.in-Ok.run' in
    let calls = run.store.store.calls in
    let h = c.in-Ok.ensures.ok in
    let ran = replayed _ c.args.limit c.in_ok-store.store c.args.inputs.now run refl c.in-Ok.ensures.honest
    c.in_ok-store.ensures.empty c.requires (failures_under c.args.fuse calls) (one_at_most c.args.fuse calls)
    c.in_ok-store.ensures.failures c.in_ok-store.ensures.calls (c.kept_to.ensures c.if-not-kept_to.false) h.went h.are h.leaves in
    with_ok c.text_of_run.result _ _ _
    (λ text names is. text_replayed c.args.limit c.args.fuse calls (map (λ x. x.items) c.args.inputs.now) _ _ run.store.store.inner
    c.files.result.now text.items
    (subst (λ (es : List ExchangeEnd). Replayed c.args.limit (map (λ x. x.items) c.args.inputs.now) (failures_under c.args.fuse calls)
    calls c.as_slice-replies.result.now es (content_under run.store.store.inner.files)) (sym c.as_slice-ends.ensures.value)
    (subst (λ (rs : List (Vec ℕ Global)).
    Replayed c.args.limit (map (λ x. x.items) c.args.inputs.now) (failures_under c.args.fuse calls)
    calls rs run.ends.items (content_under run.store.store.inner.files)) (sym c.as_slice-replies.ensures.value) ran))
    run.store.took c.files.ensures names is)
    c.text_of_run.ensures.text c.text_of_run.ensures.names
