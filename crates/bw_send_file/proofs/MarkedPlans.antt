-- The plan of a recording with the markers that were placed in it.
use Rattle.std.proofs.Common.{◌≡◌, ℕ, suc, ◌-◌, ◌*◌, List, [], ◌∷◌, ◌++◌, length, map, Ok, refl, sym, ◌∙◌, ap}
use Rattle.std.specs.Prelude.{◌/◌, fold}
use Rattle.std.proofs.lemmas.List.{append-nil, append_assoc}
use Rattle.bw_model.specs.Take.{Request, Open, Block, Mark, SetField, Close, block_align}
use Rattle.bw_plan.specs.Plans.{plan, block_requests, field_requests, mark_request, pieces}
use Rattle.bw_plan.specs.Recordings.{Setting, Field, History, Options, Outline, Recording, piece_count, with_setting}
use Rattle.bw_plan.specs.PcmRecordings.{pcm_recording_of, pcm_format, set_pcm_outline}
use Rattle.bw_plan.specs.declared.pcm.Pcm.{Pcm}
use Rattle.bw_plan.proofs.PcmRecordings.{pcm_comes}
use Rattle.bw_send_file.specs.Marked.{mark_requests, marked_recording, requests_before, with_marks}

marks_append : (ms : List (ℕ × ℕ)) (xs ys : List Request) →
    with_marks ms (xs ++ ys) ≡ with_marks ms xs ++ with_marks ms ys
marks_append ms [] ys = refl
marks_append ms (r ∷ xs) ys =
    ap (λ (z : List Request). requests_before ms r ++ r ∷ z) (marks_append ms xs ys)
    ∙ sym (append_assoc (requests_before ms r) (r ∷ with_marks ms xs) (with_marks ms ys))

blocks_unmarked : (ms : List (ℕ × ℕ)) (ps : List (List ℕ)) → with_marks ms (map Block ps) ≡ map Block ps
blocks_unmarked ms [] = refl
blocks_unmarked ms (p ∷ ps) = ap (λ (z : List Request). Block p ∷ z) (blocks_unmarked ms ps)

fields_unmarked : (ms : List (ℕ × ℕ)) (tag : ℕ) (vs : List (List ℕ)) →
    with_marks ms (field_requests tag vs) ≡ field_requests tag vs
fields_unmarked ms tag [] = refl
fields_unmarked ms tag ([] ∷ vs) = fields_unmarked ms (suc tag) vs
fields_unmarked ms tag ((c ∷ cs) ∷ vs) =
    ap (λ (z : List Request). SetField tag (c ∷ cs) ∷ z) (fields_unmarked ms (suc tag) vs)

pub none_marked : (rs : List Request) → with_marks [] rs ≡ rs
none_marked [] = refl
none_marked (Open f h ∷ rs) = ap (λ (z : List Request). Open f h ∷ z) (none_marked rs)
none_marked (Block b ∷ rs) = ap (λ (z : List Request). Block b ∷ z) (none_marked rs)
none_marked (Mark i f ∷ rs) = ap (λ (z : List Request). Mark i f ∷ z) (none_marked rs)
none_marked (SetField t v ∷ rs) = ap (λ (z : List Request). SetField t v ∷ z) (none_marked rs)
none_marked (Close n ∷ rs) = ap (λ (z : List Request). Close n ∷ z) (none_marked rs)

-- the markers come before CLOSE
marked_plan : (frames : ℕ) (ms : List (ℕ × ℕ)) (r : Recording) → r.outline.markers ≡ [] →
    with_marks ms (plan frames r) ≡ plan frames (marked_recording ms r)
unfolding plan
marked_plan frames [] r none = none_marked _
marked_plan frames (m ∷ ms) r none =
    let first : List Request = Open r.outline.format r.outline.history ∷ field_requests 1 r.outline.values in
    let blocks : List Request = block_requests (frames * block_align r.outline.format) r.samples in
    let close : List Request = Close (length r.samples / block_align r.outline.format) ∷ [] in
    let marks : List Request = mark_requests (length r.samples / block_align r.outline.format) (m ∷ ms) in
    let size : ℕ = frames * block_align r.outline.format in
    let unmarked : with_marks (m ∷ ms) (first ++ blocks) ≡ first ++ blocks =
    marks_append (m ∷ ms) first blocks
    ∙ ap (λ (z : List Request). (Open r.outline.format r.outline.history ∷ z) ++ with_marks (m ∷ ms) blocks)
    (fields_unmarked (m ∷ ms) 1 r.outline.values)
    ∙ ap (λ (z : List Request). first ++ z)
    (blocks_unmarked (m ∷ ms) (pieces (piece_count size (length r.samples)) size r.samples)) in
    ap (λ (k : List (ℕ × ℕ)). with_marks (m ∷ ms) (first ++ blocks ++ map mark_request k ++ close)) none
    ∙ ap (λ (z : List Request). with_marks (m ∷ ms) (z ++ close)) (append-nil (first ++ blocks))
    ∙ marks_append (m ∷ ms) (first ++ blocks) close
    ∙ ap (λ (z : List Request). z ++ (marks ++ close)) unmarked
    ∙ sym (append_assoc (first ++ blocks) marks close)

no_markers : (ss : List Setting) (r : Outline) → (fold with_setting r ss).markers ≡ r.markers
no_markers [] r = refl
no_markers (Field tag v ∷ ss) r = no_markers ss (with_setting r (Field tag v))
no_markers (History v ∷ ss) r = no_markers ss (with_setting r (History v))

pub pcm_marked : (b : List ℕ) (o : Options) (p : Pcm) (frames : ℕ) (ms : List (ℕ × ℕ)) (r : Recording) →
    pcm_recording_of b o p ≡ Ok r → plan frames (marked_recording ms r) ≡ with_marks ms (plan frames r)
pcm_marked b o p frames ms r is =
    let c = pcm_comes b o p r is in
    sym (marked_plan frames ms r (ap (λ (x : Outline). x.markers) (sym c.outline)
    ∙ no_markers o.settings (set_pcm_outline (record o { settings = [] }) (pcm_format p) (length b - p.skip))))
