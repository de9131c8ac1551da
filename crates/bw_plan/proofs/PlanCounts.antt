-- How many requests a plan has.
use Rattle.std.proofs.Common.{◌≡◌, ℕ, suc, zero, ◌*◌, Bool, false, cond, not, List, [], ◌∷◌, ◌++◌, length, map, drop, refl, sym, ◌∙◌}
use Rattle.std.proofs.Common.{ap, arith, length-append}
use Rattle.std.specs.Prelude.{◌==◌, ◌/◌}
use Rattle.std.proofs.lemmas.Bool.{ne_eqb}
use Rattle.std.proofs.lemmas.List.{length-map}
use Rattle.std.proofs.lemmas.List.Sums.{sum_by-cons}
use Rattle.bw_model.specs.Take.{Block, Close, block_align}
use Rattle.bw_plan.specs.Recordings.{given_count, piece_count}
use Rattle.bw_plan.specs.Plans.{plan, pieces, field_requests, block_requests, mark_request}
use Rattle.bw_plan.specs.PlanLaws.{PlansHaveTheirCount}

-- 1 for a value that is given
abbrev one_if : Bool → ℕ
one_if empty = cond (not empty) 1 0

-- a request for each value that is given
pub count_fields : (tag : ℕ) (values : List (List ℕ)) → length (field_requests tag values) ≡ given_count values
count_fields tag [] = refl
count_fields tag ([] ∷ values) =
    let step = sum_by-cons (λ (v : List ℕ). cond (not (length v == 0)) 1 0) [] values in
    count_fields (suc tag) values ∙ omega (arith, step)
count_fields tag ((c ∷ cs) ∷ values) =
    let given : (length (c ∷ cs) == 0) ≡ false = ne_eqb (length (c ∷ cs)) 0 (λ e. omega (arith, e)) in
    let one : one_if (length (c ∷ cs) == 0) ≡ one_if false = ap one_if given in
    let step = sum_by-cons (λ (v : List ℕ). cond (not (length v == 0)) 1 0) (c ∷ cs) values in
    let rest = count_fields (suc tag) values in
    omega (arith, step, one, rest)

count_pieces : (k size : ℕ) (bytes : List ℕ) → length (pieces k size bytes) ≡ k
count_pieces zero size bytes = refl
count_pieces (suc k) size bytes = let rest = count_pieces k size (drop size bytes) in omega (arith, rest)

pub plans_have_their_count : PlansHaveTheirCount
unfolding plan
plans_have_their_count frames r e =
    let size = frames * block_align r.outline.format in
    let sets = field_requests 1 r.outline.values in
    let blocks = block_requests size r.samples in
    let marks = map mark_request r.outline.markers in
    let close = Close (length r.samples / block_align r.outline.format) ∷ [] in
    let a = length-append (sets ++ blocks ++ marks) close in
    let b = length-append (sets ++ blocks) marks in
    let c = length-append sets blocks in
    let d = count_fields 1 r.outline.values in
    let f : length blocks ≡ piece_count size (length r.samples) =
    length-map (pieces (piece_count size (length r.samples)) size r.samples) Block
    ∙ count_pieces (piece_count size (length r.samples)) size r.samples in
    let g : length marks ≡ length r.outline.markers = length-map r.outline.markers mark_request in
    let h : piece_count size (length r.samples) ≡ piece_count size r.outline.samples_len =
    ap (piece_count size) (sym e) in
    omega (arith, a, b, c, d, f, g, h)
