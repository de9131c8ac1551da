-- Each request of a plan is stored, and together they make the recording's take.
use Rattle.std.proofs.Common.{◌≡◌, ℕ, suc, ◌+◌, ◌*◌, ◌≤◌, Bool, true, false, cond, ◌&&◌}
use Rattle.std.proofs.Common.{List, [], ◌∷◌, ◌++◌, length, map, refl, sym, ◌∙◌, ap, subst, arith, ◌⊎◌, inl, inr}
use Rattle.std.specs.Prelude.{◌||◌, ◌/◌, ◌==◌, nat_le}
use Rattle.std.proofs.lemmas.Bool.{and_parts, or_cases, leb-true, eqb-true, eq-eqb}
use Rattle.std.proofs.lemmas.Nat.{div-add-mod', mul-le}
use Rattle.std.proofs.lemmas.Grind.{div_ceil_times}
use Rattle.bw_model.specs.Bytes.{is_within}
use Rattle.bw_model.specs.Take.{Format, Take, Request, Open, Close, Stored, WrongTotal, judge, verdict, new_take}
use Rattle.bw_model.specs.Take.{is_format, block_align, shapes}
use Rattle.bw_plan.specs.Recordings.{Recording, piece_count}
use Rattle.bw_plan.specs.Plans.{plan, field_requests, block_requests, mark_request}
use Rattle.bw_plan.specs.PlanLaws.{IsClean, PlansMakeTakes, take_made_of, fields_of}
use Rattle.bw_plan.proofs.PlanSteps.{Leads, leads-none, leads-cons, leads-append, opened, open_stored, fields_lead}
use Rattle.bw_plan.proofs.PlanSteps.{blocks_lead, marks_lead}

-- an allowed format has frames
pub align_is_some : (f : Format) → is_format f ≡ true → 1 ≤ block_align f
align_is_some f h =
    let rate = is_within 1 768000 f.rate in
    let channels = is_within 1 64 f.channels in
    let bits = (f.bits == 16) || (f.bits == 24) || (f.bits == 32) in
    let both = and_parts (rate && channels) bits h in
    let first = (and_parts (nat_le 1 f.channels) (nat_le f.channels 64) (and_parts rate channels both.0).1).0 in
    go (leb-true 1 f.channels first) (or_cases ((f.bits == 16) || (f.bits == 24)) (f.bits == 32) both.1)
  where
    by : (n k : ℕ) → f.bits ≡ n → n / 8 ≡ suc k → 1 ≤ f.channels → 1 ≤ block_align f
    by n k e q c =
        let eight : f.bits / 8 ≡ suc k = ap (λ (b : ℕ). b / 8) e ∙ q in
        let more : f.channels * suc k ≡ f.channels + f.channels * k = omega arith in
        subst (λ (b : ℕ). 1 ≤ f.channels * b) (sym eight) (omega (arith, c, more))

    go : 1 ≤ f.channels → (((f.bits == 16) || (f.bits == 24)) ≡ true) ⊎ ((f.bits == 32) ≡ true) → 1 ≤ block_align f
    go c (inr e) = by 32 3 (eqb-true f.bits 32 e) refl c
    go c (inl e) = low c (or_cases (f.bits == 16) (f.bits == 24) e)
      where
        low : 1 ≤ f.channels → ((f.bits == 16) ≡ true) ⊎ ((f.bits == 24) ≡ true) → 1 ≤ block_align f
        low c (inl d) = by 16 1 (eqb-true f.bits 16 d) refl c
        low c (inr d) = by 24 2 (eqb-true f.bits 24 d) refl c

-- so many pieces hold all of it
pub pieces_hold : (size len : ℕ) → 1 ≤ size → len ≤ piece_count size len * size
pieces_hold size len h = (div_ceil_times len size h).0

close_stored : (f : Format) (history : List ℕ) (fields : List (List ℕ)) (samples : List ℕ) (markers : List (ℕ × ℕ)) →
    verdict (opened f history fields samples markers) (Close (length samples / block_align f)) ≡ Stored
unfolding judge
close_stored f history fields samples markers =
    let frames = length samples / block_align f in
    ap (λ (v : Bool). cond v Stored WrongTotal) (eq-eqb frames frames refl)

makes : (frames : ℕ) (r : Recording) → 1 ≤ frames → IsClean r → Leads (new_take false) (plan frames r) (take_made_of r)
unfolding plan
makes frames r some clean =
    leads-cons (new_take false) (Open f history) following (take_made_of r) (open_stored f history clean.format clean.history)
    (leads-append start (opened f history fields r.samples r.outline.markers) (take_made_of r) (sets ++ blocks ++ marks)
    (Close whole ∷ [])
    (leads-append start (opened f history fields r.samples []) (opened f history fields r.samples r.outline.markers)
    (sets ++ blocks) marks
    (leads-append start (opened f history fields [] []) (opened f history fields r.samples []) sets blocks
    (fields_lead f history [] shapes [] r.outline.values 0 refl refl refl clean.values)
    (blocks_lead f history fields [] r.samples (piece_count size (length r.samples)) frames whole align_some
    (sym (div-add-mod' (length r.samples) (block_align f)) ∙ omega (arith, clean.whole))
    (pieces_hold size (length r.samples) size_some)))
    (marks_lead f history fields r.samples [] r.outline.markers clean.markers))
    (leads-cons (opened f history fields r.samples r.outline.markers) (Close whole) [] (take_made_of r)
    (close_stored f history fields r.samples r.outline.markers) (leads-none (take_made_of r))))
  where
    f : Format
    f = r.outline.format

    history : List ℕ
    history = r.outline.history

    fields : List (List ℕ)
    fields = fields_of shapes r.outline.values

    size : ℕ
    size = frames * block_align f

    whole : ℕ
    whole = length r.samples / block_align f

    blocks : List Request
    blocks = block_requests size r.samples

    marks : List Request
    marks = map mark_request r.outline.markers

    sets : List Request
    sets = field_requests 1 r.outline.values

    following : List Request
    following = sets ++ blocks ++ marks ++ Close whole ∷ []

    start : Take
    start = opened f history (fields_of shapes []) [] []

    align_some : 1 ≤ block_align f
    align_some = align_is_some f clean.format

    size_some : 1 ≤ size
    size_some = mul-le 1 1 frames (block_align f) some align_some

pub plans_make_takes : PlansMakeTakes
plans_make_takes frames r some clean =
    let all = makes frames r some clean in record { stored = all.stored; take = all.made }
