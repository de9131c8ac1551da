use Rattle.std.proofs.Common.{refl, sym, ◌∙◌, ap, subst, ◌++◌, inl}
use Rattle.bw_session.specs.IngestRuns.{IngestsInPart, answered_in, input_bytes}
use Rattle.bw_session.proofs.StoreRuns.{honest_still, runs_through, ingests_nothing, ingests_well}
use Rattle.bw_session.proofs.ingest.ingest_run.Goals as goal

pub returns-in-Err-clause-err : goal.returns-in-Err-clause-err
returns-in-Err-clause-err g c =
    subst (IngestsInPart g.S.TakeStore _ c.args.limit c.args.store (input_bytes c.args.inputs.now))
    (sym c.in-Err.ensures.back) (ingests_nothing g.S.TakeStore _ c.args.limit c.args.store (input_bytes c.args.inputs.now))

pub returns-in-Ok-serve_inputs-clause-honest : goal.returns-in-Ok-serve_inputs-clause-honest
returns-in-Ok-serve_inputs-clause-honest g c =
    let h = c.in-Ok-serve_inputs.ensures.ok in
    ap g.S.TakeStore.honest c.into_store-store.ensures
    ∙ honest_still g.S.TakeStore _ c.args.store c.in-Ok.server c.serve_inputs.new.server (answered_in h.went)
    c.in-Ok.ensures.store h.by_server

pub returns-in-Ok-serve_inputs-clause-ok : goal.returns-in-Ok-serve_inputs-clause-ok
returns-in-Ok-serve_inputs-clause-ok g c =
    let h = c.in-Ok-serve_inputs.ensures.ok in
    let begun = c.in-Ok.ensures in
    let ran = runs_through g.S.TakeStore _ (λ y. refl) c.args.limit c.args.store _ c.in-Ok.server
    c.serve_inputs.new.server begun.store begun.limit begun.book (answered_in h.went) h.by_server
    c.into_store-store.ensures in
    record { went = h.went; are = h.are; store = ran.0; leaves = ran.1 }

pub returns-in-Ok-serve_inputs-clause-in_order : goal.returns-in-Ok-serve_inputs-clause-in_order
returns-in-Ok-serve_inputs-clause-in_order g c = λ honest well.
    ingests_well g.S.TakeStore _ c.args.limit c.args.store (input_bytes c.args.inputs.now) _
    (returns-in-Ok-serve_inputs-clause-ok g c) honest well

pub returns-in-Err-serve_inputs-clause-honest : goal.returns-in-Err-serve_inputs-clause-honest
returns-in-Err-serve_inputs-clause-honest g c =
    let h = c.in-Err-serve_inputs.ensures.err in
    ap g.S.TakeStore.honest c.into_store.ensures
    ∙ honest_still g.S.TakeStore _ c.args.store c.in-Ok.server c.serve_inputs.new.server
    (answered_in h.went ++ h.next) c.in-Ok.ensures.store h.by_server

pub returns-in-Err-serve_inputs-clause-err : goal.returns-in-Err-serve_inputs-clause-err
returns-in-Err-serve_inputs-clause-err g c =
    let h = c.in-Err-serve_inputs.ensures.err in
    let begun = c.in-Ok.ensures in
    let ran = runs_through g.S.TakeStore _ (λ y. refl) c.args.limit c.args.store _ c.in-Ok.server
    c.serve_inputs.new.server begun.store begun.limit begun.book (answered_in h.went ++ h.next) h.by_server
    c.into_store.ensures in
    record { went = h.went; next = h.next; are = h.are; store = inl ran.0; leaves = ran.1 }
