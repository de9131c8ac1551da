use Rattle.std.proofs.Common.{◌≡◌, ◌+◌, ◌*◌, ◌<◌, ◌≤◌, ◌∙◌, ap, refl, Some, arith}
use Rattle.bw_model.specs.Bytes.{u32_at}
use Rattle.bw_model.specs.Reading as reading
use Rattle.bw_model.specs.Report.{content_of}
use Rattle.bw_layout.specs.Tables.{Fixed, fixed_at}
use Rattle.bw_inspect.specs.Faults.{bytes_fault}
use Rattle.bw_inspect.proofs.Counted.{too_many_rows, no_room, stopped_reported}
use Rattle.bw_inspect.proofs.Tables.{fixed_prefix}
use Rattle.bw_inspect.proofs.ds64.read_fixed.Goals as goal

pub returns-then-fixed-gt-MOST_ENTRIES-clause-err : goal.returns-then-fixed-gt-MOST_ENTRIES-clause-err
returns-then-fixed-gt-MOST_ENTRIES-clause-err g c b r =
    let p = c.in_ok-read_part.ensures.ok b r in
    let content = content_of b (Some c.args.entry) in
    let reported : c.in-Ok.fixed ≡ fixed_at content = c.in-Ok.ensures.1 ∙ (ap fixed_at p.bytes ∙ fixed_prefix content) in
    let n = c.fixed.inside.table_len in
    let place : c.entry.inside.place ≡ c.args.entry.place = ap (λ (e : reading.Entry). e.place) c.entry.view_is in
    let is : n ≡ u32_at content 24 = ap (λ (x : Fixed). x.table_len) (c.fixed.view_is ∙ reported) in
    let many : 4096 < n = (let t = c.if-fixed-gt-MOST_ENTRIES.true in omega arith) in
    stopped_reported b c.args.entry 28 4096 12 reading.BadDs64 n (u32_at content 24) _ _ is
    (too_many_rows b c.args.entry 28 4096 12 reading.BadDs64 n _ _ c.requires.long p.to many
    (c.fault_at-then-fixed-gt-MOST_ENTRIES.ensures ∙ rw place refl))

pub returns-then-fixed-entry-clause-err : goal.returns-then-fixed-entry-clause-err
returns-then-fixed-entry-clause-err g c b r =
    let p = c.in_ok-read_part.ensures.ok b r in
    let content = content_of b (Some c.args.entry) in
    let reported : c.in-Ok.fixed ≡ fixed_at content = c.in-Ok.ensures.1 ∙ (ap fixed_at p.bytes ∙ fixed_prefix content) in
    let n = c.fixed.inside.table_len in
    let place : c.entry.inside.place ≡ c.args.entry.place = ap (λ (e : reading.Entry). e.place) c.entry.view_is in
    let is : n ≡ u32_at content 24 = ap (λ (x : Fixed). x.table_len) (c.fixed.view_is ∙ reported) in
    let size = ap (λ (e : reading.Entry). e.size) c.entry.view_is in
    let few : n ≤ 4096 = (let t = c.if-fixed-gt-MOST_ENTRIES.false in omega arith) in
    let short : c.args.entry.size < 28 + 12 * n = (let t = c.if-fixed-entry.true in omega arith) in
    stopped_reported b c.args.entry 28 4096 12 reading.BadDs64 n (u32_at content 24) _ _ is
    (no_room b c.args.entry 28 4096 12 reading.BadDs64 n _ _ c.requires.long p.to few short
    (ap bytes_fault c.fault_at-then-fixed-entry.ensures ∙ rw place refl))

pub returns-clause-ok : goal.returns-clause-ok
returns-clause-ok g c b r =
    let p = c.in_ok-read_part.ensures.ok b r in
    let content = content_of b (Some c.args.entry) in
    record { reported = c.in-Ok.ensures.1 ∙ (ap fixed_at p.bytes ∙ fixed_prefix content); to = p.to }
