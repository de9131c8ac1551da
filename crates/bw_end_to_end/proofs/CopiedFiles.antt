-- The file of a recording's take reads as the recording.
use Rattle.std.proofs.Common.{◌≡◌, ℕ, suc, ◌+◌, ◌*◌, ◌<◌, ◌≤◌, Bool, true, false, cond, not, List, [], ◌∷◌, ◌++◌}
use Rattle.std.proofs.Common.{length, map, min, max, Some, None, Ok, refl, sym, ◌∙◌, ap, subst, arith, length-append}
use Rattle.std.proofs.Common.{◌⊎◌, inl, inr}
use Rattle.std.specs.Prelude.{◌&&◌, ◌||◌, ◌==◌, ◌/◌, ◌%◌, nat_le, nat_lt, codes, unwrap_or, option_map}
use Rattle.std.specs.List.{list_all, list_any}
use Rattle.std.proofs.Math.Bool.{and-false}
use Rattle.std.proofs.lemmas.Bool.{and_parts, and_from, le-leb, leb-true, leb-false, ltb-true, le-ltb, eq-eqb}
use Rattle.std.proofs.lemmas.Bool.{not_from_true, or_cases, eqb-true}
use Rattle.std.proofs.lemmas.Grind.{div_ceil_times}
use Rattle.std.proofs.lemmas.List.{length-map}
use Rattle.std.proofs.lemmas.List.Sums.{sum_by-cons}
use Rattle.std.proofs.lemmas.Nat.{mul-le}
use Rattle.bw_model.specs.Bytes.{first_that_holds, is_within}
use Rattle.bw_model.specs.Take.{Format, Take, shapes, Shape, is_format, is_history_byte, block_align}
use Rattle.bw_model.specs.File.{file_with, file_of, form_len, form_size}
use Rattle.bw_model.specs.Reading.{largest}
use Rattle.bw_model.specs.ReadBack.{IsWithinLimits, read_form, read_chunks, reported_fmt, reported_cue, reported_bext}
use Rattle.bw_model.specs.ReadBack.{reported_report}
use Rattle.bw_model.specs.Report.{Report}
use Rattle.bw_model.proofs.ChunkSteps.{first-none}
use Rattle.bw_model.proofs.FileReports.{reads_back}
use Rattle.bw_model.proofs.HeaderLaws.{form_len-form_size}
use Rattle.bw_plan.specs.CleanedContents.{text_cleaned_of, values_of, markers_of}
use Rattle.bw_plan.specs.PlanLaws.{take_made_of, fields_of, are_markers}
use Rattle.bw_plan.specs.Recordings.{Options, Outline, Recording, FileNotes, recording_of, outline, outline_of}
use Rattle.bw_plan.specs.Recordings.{format_faults, faults_of_content, bext_fields, given_count, piece_count}
use Rattle.bw_plan.specs.Recordings.{request_count, block_frames, head_place, samples_of, notes_of, is_bext_kept}
use Rattle.bw_plan.specs.Strictness.{refuses_texts}
use Rattle.bw_plan.specs.declared.options.Strictness.{Strictness}
use Rattle.bw_plan.proofs.FaultLists.{outlined, fits_block}
use Rattle.bw_plan.proofs.Openings.{reads_as, recorded_as}
use Rattle.bw_plan.proofs.PlanLaws.{align_is_some, pieces_hold, plans_make_takes}
use Rattle.bw_end_to_end.specs.Copies.{is_not_given, given_value, given_values, copy_of, read_again, IsCopied}
use Rattle.bw_end_to_end.proofs.Cleaned.{history_text, history-same, markers-same}
use Rattle.bw_end_to_end.proofs.ReadValues.{fields-widths}
use Rattle.bw_end_to_end.proofs.ReadFields.{values-read, texts_are_kept}
use Rattle.bw_end_to_end.proofs.Carried.{IsCarried}
use Rattle.bw_end_to_end.proofs.CarriedNumbers.{HasNumbers}
use Rattle.bw_end_to_end.proofs.FileContents.{samples_stand, notes_with, file_notes}

-- How many requests a recording has.

-- larger pieces are no more
fewer_pieces : (small large len : ℕ) → 1 ≤ small → small ≤ large → piece_count large len ≤ piece_count small len
fewer_pieces small large len some low = go (nat_le (piece_count large len) (piece_count small len)) refl
  where
    p : ℕ
    p = piece_count small len

    q : ℕ
    q = piece_count large len

    hold : len ≤ p * small
    hold = (div_ceil_times len small some).0

    tight : q * large < len + large
    tight = (div_ceil_times len large (omega (arith, some, low))).1

    wider : p * small ≤ p * large
    wider = mul-le p small p large (omega arith) low

    go : (v : Bool) → nat_le q p ≡ v → q ≤ p
    go true e = leb-true q p e
    go false e =
        let more : suc p ≤ q = leb-false q p e in
        let product : suc p * large ≤ q * large = mul-le (suc p) large q large more (omega arith) in
        let step : suc p * large ≡ large + p * large = omega arith in
        absurd (omega (arith, hold, tight, wider, product, step))

-- 1 for a value that is given
abbrev one_if : List ℕ → ℕ
one_if v = cond (not (length v == 0)) 1 0

fewer_given : (ss : List Shape) (values : List (List ℕ)) → given_count (given_values ss values) ≤ given_count values
fewer_given [] values = omega arith
fewer_given (s ∷ ss) [] = omega arith
fewer_given (s ∷ ss) (v ∷ values) =
    let a = sum_by-cons one_if v values in
    let b = sum_by-cons one_if (given_value s v) (given_values ss values) in
    let rest = fewer_given ss values in
    let first : one_if (given_value s v) ≤ one_if v = one (is_not_given s v) in
    omega (arith, a, b, rest, first)
  where
    one : (x : Bool) → one_if (cond x [] v) ≤ one_if v
    one true = omega arith
    one false = omega arith

fewer_frames : (k q : ℕ) → max 1 (min k q) ≤ max 1 (min q q)
fewer_frames k q = omega arith

copy_few : (o : Options) (r : Recording) (strict : Strictness) → 1 ≤ block_align r.outline.format →
    request_count (block_frames o r.outline.format) r.outline ≤ 16777216 →
    request_count (block_frames (read_again strict) r.outline.format) (copy_of r).outline ≤ 16777216
copy_few o r strict some few =
    let align : ℕ = block_align r.outline.format in
    let most : ℕ = 32768 / align in
    let old : ℕ = max 1 (min (unwrap_or o.frames most) most) in
    let new : ℕ = max 1 (min most most) in
    let len : ℕ = r.outline.samples_len in
    let frames : old ≤ new = fewer_frames (unwrap_or o.frames most) most in
    let one : 1 ≤ old = omega arith in
    let bytes : old * align ≤ new * align = mul-le old align new align frames (omega arith) in
    let size : 1 ≤ old * align = mul-le 1 1 old align one some in
    let pieces : piece_count (new * align) len ≤ piece_count (old * align) len =
    fewer_pieces (old * align) (new * align) len size bytes in
    let given : given_count (given_values shapes r.outline.values) ≤ given_count r.outline.values =
    fewer_given shapes r.outline.values in
    omega (arith, few, pieces, given)

-- The take is within the limits.

few_markers : (frames : ℕ) (before ms : List (ℕ × ℕ)) → are_markers frames before ms ≡ true → length before ≤ 1024 →
    length before + length ms ≤ 1024
few_markers frames before [] h low = omega (arith, low)
few_markers frames before (m ∷ ms) h low =
    let one = nat_le m.1 frames && not (list_any (λ k. k.0 == m.0) before) in
    let both = and_parts (one && nat_lt (length before) 1024) (are_markers frames (before ++ m ∷ []) ms) h in
    let room = ltb-true (length before) 1024 (and_parts one (nat_lt (length before) 1024) both.0).1 in
    let long = length-append before (m ∷ []) in
    let rest = few_markers frames (before ++ m ∷ []) ms both.1 (omega (arith, long, room)) in
    omega (arith, rest, long)

pub few_samples : (o : Options) (r : Outline) → 1 ≤ block_align r.format → block_align r.format ≤ 32768 →
    request_count (block_frames o r.format) r ≤ 16777216 → r.samples_len ≤ 16777216 * 32768
few_samples o r some low few =
    let align : ℕ = block_align r.format in
    let most : ℕ = 32768 / align in
    let frames : ℕ = max 1 (min (unwrap_or o.frames most) most) in
    let fits : frames * align ≤ 32768 = fits_block (unwrap_or o.frames most) align some low in
    let one : 1 ≤ frames = omega arith in
    let size : 1 ≤ frames * align = mul-le 1 1 frames align one some in
    let hold : r.samples_len ≤ piece_count (frames * align) r.samples_len * (frames * align) =
    pieces_hold (frames * align) r.samples_len size in
    let pieces : piece_count (frames * align) r.samples_len ≤ 16777216 = omega (arith, few) in
    let all : piece_count (frames * align) r.samples_len * (frames * align) ≤ 16777216 * 32768 =
    mul-le (piece_count (frames * align) r.samples_len) (frames * align) 16777216 32768 pieces fits in
    omega (arith, hold, all)

within_limits : (o : Options) (r : Recording) → IsCarried o r → HasNumbers r.outline →
    block_align r.outline.format ≤ 32768 →
    IsWithinLimits r.outline.format (take_made_of r)
within_limits o r c n low =
    let f : Format = r.outline.format in
    let t : Take = take_made_of r in
    let clean = c.whole.clean in
    let fields = fields-widths shapes r.outline.values clean.values in
    let marks : length r.outline.markers ≤ 1024 =
    let m = few_markers (length r.samples / block_align f) [] r.outline.markers clean.markers (omega arith) in
    omega (arith, m) in
    let size = form_len-form_size f t fields in
    let history = c.room.history in
    let samples = few_samples o r.outline (align_is_some f clean.format) low c.few in
    let counted = c.whole.samples in
    record {
      format = clean.format;
      fields = fields;
      history = history;
      markers = marks;
      numbers = n.markers;
      form = form (length r.outline.history) (length r.samples) (length r.outline.markers) (form_len f t) size history
          (omega (arith, samples, counted)) marks;
    }
  where
    form : (h d c n : ℕ) → n ≡ form_size h d c → h ≤ 4096 → d ≤ 16777216 * 32768 → c ≤ 1024 →
        n ≤ largest
    form h d c n e history samples marks = go (c == 0) e
      where
        go : (v : Bool) → n ≡ 682 + (h + h % 2) + (d + d % 2) + cond v 0 (12 + 24 * c) → n ≤ largest
        go true e = omega (arith, e, history, samples)
        go false e = omega (arith, e, history, samples, marks)

-- Nothing is refused.

no_format_fault : (f : Format) (p : ℕ) → is_format f ≡ true →
    first_that_holds (format_faults (reported_fmt f) [] p) ≡ None
no_format_fault f p h =
    let rate = is_within 1 768000 f.rate in
    let channels = is_within 1 64 f.channels in
    let bits = (f.bits == 16) || (f.bits == 24) || (f.bits == 32) in
    let both = and_parts (rate && channels) bits h in
    let first = and_parts rate channels both.0 in
    first-none (format_faults (reported_fmt f) [] p) (
      refl,
      (
        not_from_true bits both.1,
        (
          refl,
          (
            not_from_true (f.channels * (f.bits / 8) == f.channels * (f.bits / 8)) (eq-eqb (f.channels *
                (f.bits / 8)) (f.channels * (f.bits / 8)) refl),
            (not_from_true rate first.0, (not_from_true channels first.1, tt)),
          ),
        ),
      ),
    )

-- what is noted of the recording's file
abbrev copy_notes : Recording → ℕ → FileNotes
copy_notes r limit = notes_with (reported_report r.outline.format (take_made_of r) limit) [] r.outline.history

history_kept : (v : List ℕ) → list_all is_history_byte v ≡ true → length v ≤ 4096 →
    nat_le (length (text_cleaned_of v)) 4096 && list_all is_history_byte (text_cleaned_of v) ≡ true
history_kept v h short =
    ap (λ (t : List ℕ). nat_le (length t) 4096 && list_all is_history_byte t) (history_text v h)
    ∙ and_from (nat_le (length v) 4096) (list_all is_history_byte v) (le-leb (length v) 4096 short) h

bext_kept : (o : Options) (r : Recording) (limit : ℕ) → IsCarried o r → is_bext_kept (copy_notes r limit) ≡ true
bext_kept o r limit c =
    and_from _ _ (texts_are_kept r.outline.values c.room.values c.whole.clean.values)
    (history_kept r.outline.history c.whole.clean.history c.room.history)

no_content_fault : (o : Options) (r : Recording) (limit : ℕ) (strict : Strictness) → IsCarried o r →
    first_that_holds (faults_of_content (read_again strict) (copy_notes r limit) (copy_of r).outline) ≡ None
no_content_fault o r limit strict c =
    let few = copy_few o r strict (align_is_some r.outline.format c.whole.clean.format) c.few in
    let ms : List (ℕ × ℕ) = r.outline.markers in
    first-none (faults_of_content (read_again strict) (copy_notes r limit) (copy_of r).outline) (
      ap (λ (k : ℕ). not (k == 0)) c.whole.clean.whole,
      (
        ap (λ (v : Bool). refuses_texts strict && not v) (bext_kept o r limit c) ∙ and-false (refuses_texts strict),
        (
          ap (λ (v : Bool). refuses_texts strict && v) (le-ltb (length ms) (length (map reported_cue ms))
              (let l = length-map ms reported_cue in omega (arith, l))) ∙ and-false (refuses_texts strict),
          (
            le-ltb 16777216 (request_count (block_frames (read_again strict) r.outline.format)
                (copy_of r).outline) few,
            tt,
          ),
        ),
      ),
    )

-- The outline is the recording's.

outline_read : (o : Options) (r : Recording) (limit : ℕ) → IsCarried o r → HasNumbers r.outline →
    outline (copy_notes r limit) ≡ (copy_of r).outline
outline_read o r limit c n =
    let clean = c.whole.clean in
    let f : Format = r.outline.format in
    let history = history-same r.outline.history clean.history c.room.history in
    let values = values-read r.outline.values c.room.values clean.values n.values in
    let markers = markers-same (length r.samples / block_align f) r.outline.markers clean.markers in
    ap (λ (h : List ℕ). made h (values_of shapes (bext_fields (reported_bext (fields_of shapes r.outline.values))))
    (markers_of (length r.samples / block_align f) (map reported_cue r.outline.markers)) (length r.samples)) history
    ∙ ap (λ (v : List (List ℕ)). made r.outline.history v
    (markers_of (length r.samples / block_align f) (map reported_cue r.outline.markers)) (length r.samples)) values
    ∙ ap (λ (m : List (ℕ × ℕ)). made r.outline.history (given_values shapes r.outline.values) m
    (length r.samples)) markers
    ∙ ap (made r.outline.history (given_values shapes r.outline.values) r.outline.markers) (sym c.whole.samples)
  where
    made : List ℕ → List (List ℕ) → List (ℕ × ℕ) → ℕ → Outline
    made history values markers len = record {
      format = r.outline.format;
      history = history;
      values = values;
      markers = markers;
      samples_len = len;
    }

-- All of it.

file_read : (o : Options) (r : Recording) (limit : ℕ) (strict : Strictness) → IsCarried o r → HasNumbers r.outline →
    block_align r.outline.format ≤ 32768 → limit ≤ 4294967294 →
    recording_of (file_with r.outline.format (take_made_of r) limit) (read_again strict) ≡ Ok (copy_of r)
file_read o r limit strict c n low below =
    let f : Format = r.outline.format in
    let t : Take = take_made_of r in
    let b : List ℕ = file_with f t limit in
    let within = within_limits o r c n low in
    let back = reads_back f t limit within below in
    let same = outline_read o r limit c n in
    let out : outline_of (read_again strict) (copy_notes r limit) ≡ Ok (copy_of r).outline =
    outlined (read_again strict) (copy_notes r limit) (copy_of r).outline
    (no_format_fault f (head_place (codes "fmt ") (read_chunks f t limit)) c.whole.clean.format) (sym same)
    (no_content_fault o r limit strict c) in
    let noted : outline_of (read_again strict) (notes_of b (read_form f t limit) (read_chunks f t limit)) ≡ Ok
    (copy_of r).outline =
    ap (outline_of (read_again strict)) (file_notes f t limit within back) ∙ out in
    recorded_as b (read_again strict) (read_form f t limit) (read_chunks f t limit) (copy_of r).outline
    (reads_as b (read_form f t limit) (read_chunks f t limit) back.reading) noted
    ∙ ap (λ (x : Report). Ok (record { outline = (copy_of r).outline; samples = samples_of b x })) back.report
    ∙ ap (λ (s : List ℕ). Ok (record { outline = (copy_of r).outline; samples = s })) (samples_stand f t limit within)

-- a frame of an allowed format fits in a block
pub low_align : (f : Format) → is_format f ≡ true → block_align f ≤ 32768
low_align f h =
    let both = and_parts (is_within 1 768000 f.rate && is_within 1 64 f.channels)
    ((f.bits == 16) || (f.bits == 24) || (f.bits == 32)) h in
    let channels = leb-true f.channels 64 (and_parts (nat_le 1 f.channels) (nat_le f.channels 64)
    (and_parts (is_within 1 768000 f.rate) (is_within 1 64 f.channels) both.0).1).1 in
    mul-le f.channels (f.bits / 8) 64 512 channels (bytes both.1)
  where
    by : (n : ℕ) → f.bits ≡ n → n / 8 ≤ 512 → f.bits / 8 ≤ 512
    by n e small = subst (λ (m : ℕ). m / 8 ≤ 512) (sym e) small

    two : ((f.bits == 16) ≡ true) ⊎ ((f.bits == 24) ≡ true) → f.bits / 8 ≤ 512
    two (inl e) = by 16 (eqb-true f.bits 16 e) (omega arith)
    two (inr e) = by 24 (eqb-true f.bits 24 e) (omega arith)

    go : (((f.bits == 16) || (f.bits == 24)) ≡ true) ⊎ ((f.bits == 32) ≡ true) → f.bits / 8 ≤ 512
    go (inl e) = two (or_cases (f.bits == 16) (f.bits == 24) e)
    go (inr e) = by 32 (eqb-true f.bits 32 e) (omega arith)

    bytes : ((f.bits == 16) || (f.bits == 24) || (f.bits == 32)) ≡ true → f.bits / 8 ≤ 512
    bytes e = go (or_cases ((f.bits == 16) || (f.bits == 24)) (f.bits == 32) e)

pub copied : (o : Options) (r : Recording) → IsCarried o r → HasNumbers r.outline → IsCopied r
copied o r c n frames limit some below strict =
    let low = low_align r.outline.format c.whole.clean.format in
    ap (λ (t : Take). option_map (λ (b : List ℕ). recording_of b (read_again strict)) (file_of t limit))
    (plans_make_takes frames r some c.whole.clean).take
    ∙ ap Some (file_read o r limit strict c n low below)
