-- At OPEN the whole plan is still to come.
use Rattle.std.proofs.Common.{◌≡◌, ℕ, ◌+◌, List, [], ◌∷◌, ◌++◌, length, map, sym, ◌∙◌, ap, append_assoc}
use Rattle.std.specs.Prelude.{◌*◌, ◌/◌, slice_range}
use Rattle.bw_model.specs.Take.{Request, Open, Close, block_align}
use Rattle.bw_plan.specs.Recordings.{Outline}
use Rattle.bw_plan.specs.Plans.{plan, field_requests, block_requests, mark_request}
use Rattle.bw_plan.specs.Progress.{Samples, requests_after}

-- the parts of a plan, in another grouping
grouped : (a b c d : List Request) → a ++ (b ++ (c ++ d)) ≡ ((a ++ b) ++ c) ++ d
grouped a b c d =
    ap (λ (x : List Request). a ++ x) (sym (append_assoc b c d)) ∙ sym (append_assoc a (b ++ c) d)
    ∙ ap (λ (x : List Request). x ++ d) (sym (append_assoc a b c))

pub whole_plan : (b : List ℕ) (o : Outline) (s : Samples) (frames place : ℕ) → s.size ≡ frames * block_align o.format →
    s.place ≡ place → s.left ≡ o.samples_len →
    o.samples_len ≡ length (slice_range b place (place + o.samples_len)) →
    Open o.format o.history ∷ requests_after o s b 0
    ≡ plan frames (record { outline = o; samples = slice_range b place (place + o.samples_len) })
unfolding plan
whole_plan b o s frames place size at left long =
    let sets : List Request = field_requests 1 o.values in
    let marks : List Request = map mark_request o.markers in
    let samples : List ℕ = slice_range b place (place + o.samples_len) in
    let blocks : List Request = block_requests (frames * block_align o.format) samples in
    let close : ℕ → List Request = λ n. Close (n / block_align o.format) ∷ [] in
    ap (λ (n : ℕ). Open o.format o.history ∷ (sets ++ (block_requests n (slice_range b s.place (s.place + s.left))
    ++ (marks ++ close o.samples_len)))) size
    ∙ ap (λ (p : ℕ). Open o.format o.history ∷ (sets ++ (block_requests (frames * block_align o.format)
    (slice_range b p (p + s.left)) ++ (marks ++ close o.samples_len)))) at
    ∙ ap (λ (n : ℕ). Open o.format o.history ∷ (sets ++ (block_requests (frames * block_align o.format)
    (slice_range b place (place + n)) ++ (marks ++ close o.samples_len)))) left
    ∙ ap (λ (n : ℕ). Open o.format o.history ∷ (sets ++ (blocks ++ (marks ++ close n)))) long
    ∙ ap (λ (rs : List Request). Open o.format o.history ∷ rs) (grouped sets blocks marks (close (length samples)))
