use Rattle.std.proofs.Common.{◌≡◌, ◌∙◌, ℕ, ◌+◌, ◌-◌, ap, arith, drop, min, Some}
use Rattle.bw_model.specs.Reading.{Entry}
use Rattle.bw_contents.proofs.Gathered.{chunk_bytes}
use Rattle.bw_contents.proofs.reading.read_bytes.Goals as goal

pub returns-clause-ok : goal.returns-clause-ok
returns-clause-ok g c = λ b e.
    let passed = c.in_ok-skip_at.ensures.ok b e in
    let inside : c.chunk.inside.place ≡ c.args.chunk.now.place = ap (λ (x : Entry). x.place) c.chunk.view_is in
    let start : c.args.place + (c.chunk.inside.place + 8 - c.args.place) ≡ c.chunk.inside.place + 8 = omega arith in
    let given = c.in_ok-read_at.ensures.ok b (passed.rest ∙ ap (λ (k : ℕ). Some (drop k b)) start) in
    let size : c.in-Ok.bytes.len ≡ min c.args.chunk.now.size 65536 =
    c.in-Ok.ensures.len ∙ c.min.ensures ∙ ap (λ (x : Entry). min x.size 65536) c.chunk.view_is in
    chunk_bytes b _ _ c.args.chunk.now _ _ _ _ (ap (λ (p : ℕ). p + 8) inside) size (omega arith) (omega arith) given
