-- The requests at the start are the plan of the recording.
use Rattle.std.proofs.Common.{◌≡◌, ℕ, ◌+◌, ◌-◌, ◌*◌, cond, List, [], ◌∷◌, ◌++◌, length, map, take, drop, Ok, Option, None, Some}
use Rattle.std.proofs.Common.{refl, sym, ◌∙◌, ap, arith, length-drop}
use Rattle.std.specs.Prelude.{◌/◌, ◌%◌, ◌==◌, fold}
use Rattle.std.proofs.lemmas.Bool.{eqb-true, not-false}
use Rattle.std.proofs.lemmas.List.{take_all, append-nil, append_assoc}
use Rattle.bw_model.specs.Bytes.{first_that_holds, unless}
use Rattle.bw_model.specs.Take.{Request, Open, Close, Format, block_align}
use Rattle.bw_plan.specs.Plans.{plan, block_requests, field_requests, mark_request}
use Rattle.bw_plan.specs.Recordings.{Setting, Field, History, Options, Outline, Recording, FaultAt, with_setting}
use Rattle.bw_plan.specs.PcmRecordings.{pcm_recording_of, pcm_outline_of, pcm_faults, pcm_format, set_pcm_outline}
use Rattle.bw_plan.specs.declared.pcm.Pcm.{Pcm}
use Rattle.bw_plan.proofs.FaultLists.{none_hold}
use Rattle.bw_plan.proofs.PcmRecordings.{pcm_comes}
use Rattle.bw_plan.proofs.WholeRecordings.{not_ok, ok_inj}
use Rattle.bw_send_file.specs.ComingRequests.{whole_frames, close_after}
use Rattle.bw_send_file.specs.FramedSamples.{HasWholeFrames, recording_with}

-- how many samples there are changes nothing else
other_len : (ss : List Setting) (r : Outline) (n : ℕ) →
    fold with_setting (record r { samples_len = n }) ss ≡ record (fold with_setting r ss) { samples_len = n }
other_len [] r n = refl
other_len (Field tag v ∷ ss) r n = other_len ss (with_setting r (Field tag v)) n
other_len (History v ∷ ss) r n = other_len ss (with_setting r (History v)) n

same_markers : (ss : List Setting) (r : Outline) → (fold with_setting r ss).markers ≡ r.markers
same_markers [] r = refl
same_markers (Field tag v ∷ ss) r = same_markers ss (with_setting r (Field tag v))
same_markers (History v ∷ ss) r = same_markers ss (with_setting r (History v))

same_len : (ss : List Setting) (r : Outline) → (fold with_setting r ss).samples_len ≡ r.samples_len
same_len [] r = refl
same_len (Field tag v ∷ ss) r = same_len ss (with_setting r (Field tag v))
same_len (History v ∷ ss) r = same_len ss (with_setting r (History v))

outlined_as : (o : Options) (p : Pcm) (len : ℕ) (r : Outline) → pcm_outline_of o p len ≡ Ok r →
    set_pcm_outline o (pcm_format p) (len - p.skip) ≡ r
unfolding pcm_outline_of
outlined_as o p len r h = go (first_that_holds (pcm_faults o p len)) h
  where
    go : (x : Option FaultAt) → unless x (set_pcm_outline o (pcm_format p) (len - p.skip)) ≡ Ok r →
        set_pcm_outline o (pcm_format p) (len - p.skip) ≡ r
    go None h = ok_inj h
    go (Some f) h = absurd (not_ok h)

-- the outline of a file of another length differs in that alone
pub outline_is : (b : List ℕ) (o : Options) (p : Pcm) (len : ℕ) (s : Outline) (r : Recording) →
    pcm_outline_of o p len ≡ Ok s → pcm_recording_of b o p ≡ Ok r →
    r.outline ≡ record s { samples_len = r.outline.samples_len }
outline_is b o p len s r h k =
    let c = pcm_comes b o p r k in
    let n : ℕ = length b - p.skip in
    let start : Outline = set_pcm_outline (record o { settings = [] }) (pcm_format p) (len - p.skip) in
    let count : r.outline.samples_len ≡ n =
    ap (λ (x : Outline). x.samples_len) (sym c.outline) ∙ same_len o.settings (record start { samples_len = n }) in
    sym c.outline
    ∙ other_len o.settings start n
    ∙ ap (λ (x : Outline). record x { samples_len = n }) (outlined_as o p len s h)
    ∙ ap (λ (k : ℕ). record s { samples_len = k }) (sym count)

pub plan_is : (b : List ℕ) (o : Options) (p : Pcm) (len frames : ℕ) (s : Outline) (r : Recording) →
    pcm_outline_of o p len ≡ Ok s → pcm_recording_of b o p ≡ Ok r →
    plan frames r
    ≡ Open s.format s.history ∷ field_requests 1 s.values
    ++ (block_requests (frames * block_align s.format) (whole_frames (block_align s.format) (drop p.skip b))
    ++ close_after 0 (block_align s.format) (length (drop p.skip b)))
unfolding plan
plan_is b o p len frames s r h k =
    let c = pcm_comes b o p r k in
    let same = outline_is b o p len s r h k in
    let a : ℕ = block_align s.format in
    let xs : List ℕ = drop p.skip b in
    let n : ℕ = length b - p.skip in
    let out : Outline = set_pcm_outline o (pcm_format p) n in
    let free = none_hold (pcm_faults o p (length b)) c.free in
    let start : Outline = set_pcm_outline (record o { settings = [] }) (pcm_format p) n in
    let part : out.samples_len % block_align out.format ≡ 0 =
    eqb-true (out.samples_len % block_align out.format) 0 (not-false _ free.1.1.1.1.0) in
    let count : out.samples_len ≡ length xs = same_len o.settings start ∙ sym (length-drop p.skip b) in
    let format : out.format ≡ s.format =
    ap (λ (x : Outline). x.format) c.outline ∙ ap (λ (x : Outline). x.format) same in
    let whole : length xs % a ≡ 0 =
    ap (λ (k : ℕ). k % a) (sym count) ∙ ap (λ (f : Format). out.samples_len % block_align f) (sym format) ∙ part in
    let all : length xs - length xs % a ≡ length xs = ap (λ (k : ℕ). length xs - k) whole ∙ omega arith in
    let frames_are : whole_frames a xs ≡ xs =
    ap (λ (k : ℕ). take k xs) all ∙ take_all (length xs) xs (omega arith) in
    let close : close_after 0 a (length xs) ≡ Close (length xs / a) ∷ [] =
    ap (λ (k : ℕ). cond (k == 0) (Close (0 + length xs / a) ∷ []) []) whole
    ∙ ap (λ (k : ℕ). Close k ∷ []) (omega arith) in
    let marks : r.outline.markers ≡ [] =
    ap (λ (x : Outline). x.markers) (sym c.outline) ∙ same_markers o.settings start in
    let first : Outline → List ℕ → List (ℕ × ℕ) → List Request = λ z ys ms.
    Open z.format z.history ∷ field_requests 1 z.values ++ block_requests (frames * block_align z.format) ys
    ++ map mark_request ms ++ Close (length ys / block_align z.format) ∷ [] in
    ap (λ (ms : List (ℕ × ℕ)). first r.outline r.samples ms) marks
    ∙ ap (λ (ys : List ℕ). first r.outline ys []) (sym c.samples)
    ∙ ap (λ (z : Outline). first z xs []) same
    ∙ ap (λ (rs : List Request). rs ++ Close (length xs / a) ∷ [])
    (append-nil (Open s.format s.history ∷ field_requests 1 s.values ++ block_requests (frames * a) xs))
    ∙ append_assoc (Open s.format s.history ∷ field_requests 1 s.values) (block_requests (frames * a) xs)
    (Close (length xs / a) ∷ [])
    ∙ ap (λ (ys : List ℕ). Open s.format s.history ∷ field_requests 1 s.values ++ (block_requests (frames * a) ys
    ++ Close (length xs / a) ∷ [])) (sym frames_are)
    ∙ ap (λ (rs : List Request). Open s.format s.history ∷ field_requests 1 s.values
    ++ (block_requests (frames * a) (whole_frames a xs) ++ rs)) (sym close)

-- the same of an outline and samples in whole frames
pub plan_with : (frames : ℕ) (s : Outline) (xs : List ℕ) → HasWholeFrames s xs →
    plan frames (recording_with s xs)
    ≡ Open s.format s.history ∷ field_requests 1 s.values
    ++ (block_requests (frames * block_align s.format) (whole_frames (block_align s.format) xs)
    ++ close_after 0 (block_align s.format) (length xs))
unfolding plan
plan_with frames s xs whole =
    let a : ℕ = block_align s.format in
    let all : length xs - length xs % a ≡ length xs = ap (λ (k : ℕ). length xs - k) whole ∙ omega arith in
    let frames_are : whole_frames a xs ≡ xs =
    ap (λ (k : ℕ). take k xs) all ∙ take_all (length xs) xs (omega arith) in
    let close : close_after 0 a (length xs) ≡ Close (length xs / a) ∷ [] =
    ap (λ (k : ℕ). cond (k == 0) (Close (0 + length xs / a) ∷ []) []) whole
    ∙ ap (λ (k : ℕ). Close k ∷ []) (omega arith) in
    ap (λ (rs : List Request). rs ++ Close (length xs / a) ∷ [])
    (append-nil (Open s.format s.history ∷ field_requests 1 s.values ++ block_requests (frames * a) xs))
    ∙ append_assoc (Open s.format s.history ∷ field_requests 1 s.values) (block_requests (frames * a) xs)
    (Close (length xs / a) ∷ [])
    ∙ ap (λ (ys : List ℕ). Open s.format s.history ∷ field_requests 1 s.values ++ (block_requests (frames * a) ys
    ++ Close (length xs / a) ∷ [])) (sym frames_are)
    ∙ ap (λ (rs : List Request). Open s.format s.history ∷ field_requests 1 s.values
    ++ (block_requests (frames * a) (whole_frames a xs) ++ rs)) (sym close)
