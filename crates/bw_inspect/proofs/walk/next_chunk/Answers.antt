use Rattle.std.proofs.Common.{◌≤◌, length, arith, refl, ap}
use Rattle.std.proofs.lemmas.Result.{err_from_is_err_and}
use Rattle.bw_model.specs.Reading as reading
use Rattle.bw_inspect.specs.Walks.{form_by, seen_by}
use Rattle.bw_inspect.specs.Known.{facts_of}
use Rattle.bw_inspect.proofs.Contents.{at_start}
use Rattle.bw_inspect.proofs.Steps.{too_many, head_cut, headed, sized, by_hand, size_faulted, content_faulted}
use Rattle.bw_inspect.proofs.Steps.{learned_as, goes_on, stopped_after, whole_as}
use Rattle.bw_inspect.proofs.walk.next_chunk.Goals as goal

pub returns-then-len-ge-MOST_CHUNKS-clause-err : goal.returns-then-len-ge-MOST_CHUNKS-clause-err
returns-then-len-ge-MOST_CHUNKS-clause-err g c b s =
    let full : 4096 ≤ length (seen_by c.args.walk.now) =
    (let l = c.len.ensures in let t = c.if-len-ge-MOST_CHUNKS.true in omega arith) in
    too_many b _ c.args.walk.now _ _ s (omega arith) full c.fault_at.ensures

pub returns-in_err-head-clause-err : goal.returns-in_err-head-clause-err
returns-in_err-head-clause-err g c =
    let p = err_from_is_err_and c.from_residual.result c.from_residual.ensures.1 in
    rw (p.1, p.2) (λ b s. head_cut b (form_by c.args.form.now) c.args.walk.now _ _ _ _ s (omega arith)
    (omega (arith, c.len.ensures, c.if-len-ge-MOST_CHUNKS.false)) c.fault_at-2.ensures
    (c.in_err-head.ensures.err b (s.next (omega arith))))

pub returns-in_err-size-clause-err : goal.returns-in_err-size-clause-err
returns-in_err-size-clause-err g c =
    let p = err_from_is_err_and c.from_residual-in_err-size.result c.from_residual-in_err-size.ensures.1 in
    rw (p.1, p.2) (λ b s.
    let w = c.args.walk.now in
    let form = form_by c.args.form.now in
    let h = c.in_ok-head.ensures.ok b (s.next (omega arith)) in
    let at = headed b form w c.in_ok-head.head c.size_reported-reported.result _ (omega arith)
    (omega (arith, c.len.ensures, c.if-len-ge-MOST_CHUNKS.false)) h c.size_reported-reported.ensures in
    size_faulted b form w c.in_ok-head.head.id c.size_reported-reported.result _ _ _ s at h.rest c.in_err-size.ensures.kind
    (by_hand form w c.in_ok-head.head.id _ c.kind_by_id-kind.result c.was_seen.result c.size_reported-reported.result _ _ refl
    c.kind_by_id-kind.ensures c.was_seen.ensures c.in_err-size.ensures.err))

pub returns-in_err-read_content-clause-err : goal.returns-in_err-read_content-clause-err
returns-in_err-read_content-clause-err g c =
    let p = err_from_is_err_and c.from_residual-in_err-read_content.result
    c.from_residual-in_err-read_content.ensures.1 in
    rw (p.1, p.2) (λ b s.
    let w = c.args.walk.now in
    let form = form_by c.args.form.now in
    let e : reading.Entry = record { id = c.in_ok-head.head.id; place = w.place; size = c.in_ok-size.size } in
    let h = c.in_ok-head.ensures.ok b (s.next (omega arith)) in
    let at = headed b form w c.in_ok-head.head c.size_reported-reported.result _ (omega arith)
    (omega (arith, c.len.ensures, c.if-len-ge-MOST_CHUNKS.false)) h c.size_reported-reported.ensures in
    let z = sized form w c.in_ok-head.head.id c.kind_by_id-kind.result c.was_seen.result c.size_reported-reported.result
    c.in_ok-size.size c.kind_by_id-kind.ensures c.was_seen.ensures c.in_ok-size.ensures.is c.in_ok-size.ensures.ok
    c.in_ok-size.ensures.within in
    content_faulted b form w e c.size_reported-reported.result _ _ _ s at z refl
    (rw (← c.kind_by_id-kind.ensures) (c.in_err-read_content.ensures.err b (at_start b e _ h.within h.rest))))

pub returns-in_err-list_chunk-clause-err : goal.returns-in_err-list_chunk-clause-err
returns-in_err-list_chunk-clause-err g c =
    let p = err_from_is_err_and c.from_residual-in_err-list_chunk.result c.from_residual-in_err-list_chunk.ensures.1 in
    rw (p.1, p.2) (λ b s.
    let w = c.args.walk.now in
    let form = form_by c.args.form.now in
    let e : reading.Entry = record { id = c.in_ok-head.head.id; place = w.place; size = c.in_ok-size.size } in
    let h = c.in_ok-head.ensures.ok b (s.next (omega arith)) in
    let at = headed b form w c.in_ok-head.head c.size_reported-reported.result _ (omega arith)
    (omega (arith, c.len.ensures, c.if-len-ge-MOST_CHUNKS.false)) h c.size_reported-reported.ensures in
    let z = sized form w c.in_ok-head.head.id c.kind_by_id-kind.result c.was_seen.result c.size_reported-reported.result
    c.in_ok-size.size c.kind_by_id-kind.ensures c.was_seen.ensures c.in_ok-size.ensures.is c.in_ok-size.ensures.ok
    c.in_ok-size.ensures.within in
    let l = c.in_ok-read_content.ensures.ok b (at_start b e _ h.within h.rest) in
    stopped_after b form w e c.size_reported-reported.result _ _ _ _ s at z refl
    (whole_as b c.kind_by_id-kind.result _ e _ c.kind_by_id-kind.ensures l.whole)
    (c.in_err-list_chunk.ensures.err b l.whole.to))

pub returns-clause-ok : goal.returns-clause-ok
returns-clause-ok g c b s =
    let w = c.args.walk.now in
    let form = form_by c.args.form.now in
    let e : reading.Entry = record { id = c.in_ok-head.head.id; place = w.place; size = c.in_ok-size.size } in
    let h = c.in_ok-head.ensures.ok b (s.next (omega arith)) in
    let at = headed b form w c.in_ok-head.head c.size_reported-reported.result _ (omega arith)
    (omega (arith, c.len.ensures, c.if-len-ge-MOST_CHUNKS.false)) h c.size_reported-reported.ensures in
    let z = sized form w c.in_ok-head.head.id c.kind_by_id-kind.result c.was_seen.result c.size_reported-reported.result
    c.in_ok-size.size c.kind_by_id-kind.ensures c.was_seen.ensures c.in_ok-size.ensures.is c.in_ok-size.ensures.ok
    c.in_ok-size.ensures.within in
    let l = c.in_ok-read_content.ensures.ok b (at_start b e _ h.within h.rest) in
    record {
      stands = goes_on b form w c.list_chunk.new.walk e c.size_reported-reported.result _ _ _ s at z refl
          (learned_as b c.kind_by_id-kind.result _ e _ _ _ _ c.kind_by_id-kind.ensures
          (ap facts_of c.in_ok-list_chunk.ensures.known) l) c.in_ok-list_chunk.ensures.chunks
          c.in_ok-list_chunk.ensures.place (c.in_ok-list_chunk.ensures.ok b l.whole.to);
      ends = λ e. cc;
    }
