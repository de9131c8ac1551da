-- Parts of a chunk's content that were read into a buffer.
use Rattle.std.proofs.Common.{◌≡◌, ℕ, zero, suc, ◌+◌, ◌-◌, ◌<◌, ◌≤◌, List, ◌++◌, length, take, drop, sym, ◌∙◌}
use Rattle.std.proofs.Common.{ap, arith, length-take, length-drop}
use Rattle.std.proofs.lemmas.List.{take-append-le, take_all}
use Rattle.std.specs.Prelude.{slice_range}
use Rattle.bw_inspect.proofs.PartialReads.{part_at}

-- a part that stands in the list has its length
part_length : (b : List ℕ) (q n : ℕ) → (0 < n → q + n ≤ length b) → length (slice_range b q (q + n)) ≡ n
part_length b q zero h =
    length-take (q + 0 - q) (drop q b) ∙ omega arith
part_length b q (suc n) h =
    let there : q + suc n ≤ length b = h (omega arith) in
    let l = length-drop q b in
    length-take (q + suc n - q) (drop q b) ∙ omega (arith, there, l)

-- the buffer holds the part, and nothing of what stood after it
pub part_read : (b buf rest : List ℕ) (p size from n m k : ℕ) → from + n ≤ size → m ≡ n → k ≡ n →
    (0 < m → p + 8 + from + m ≤ length b) → buf ≡ slice_range b (p + 8 + from) (p + 8 + from + m) →
    take k (buf ++ rest) ≡ slice_range (slice_range b (p + 8) (p + 8 + size)) from (from + n)
part_read b buf rest p size from n m k fits e f there got =
    let long : length buf ≡ m = ap length got ∙ part_length b (p + 8 + from) m there in
    take-append-le k buf rest (omega (arith, long, e, f)) ∙ take_all k buf (omega (arith, long, e, f)) ∙ got
    ∙ ap (λ (i : ℕ). slice_range b (p + 8 + from) i) (omega (arith, e))
    ∙ sym (part_at b (p + 8) size from (from + n) (omega arith) (omega (arith, fits)))
