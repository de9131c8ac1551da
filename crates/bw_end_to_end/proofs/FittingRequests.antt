-- Each request of a recording's plan fits in a message.
use mathlib.Core.Logic.{inl, inr}
use Rattle.std.proofs.Common.{◌≡◌, ◌⊎◌, ℕ, zero, suc, ◌+◌, ◌-◌, ◌*◌, ◌^◌, ◌<◌, ◌≤◌, Bool, true, false, cond, List, []}
use Rattle.std.proofs.Common.{◌∷◌, ◌++◌, length, map, take, drop, min, max, refl, ◌∙◌, ap, subst, arith, length-append}
use Rattle.std.proofs.Common.{length-take, length-drop}
use Rattle.std.specs.Prelude.{◌&&◌, ◌||◌, ◌==◌, ◌/◌, nat_le, unwrap_or}
use Rattle.std.specs.List.{list_all}
use Rattle.std.specs.Char.{is_ascii_digit}
use Rattle.std.proofs.Math.Nat.{div-le_self}
use Rattle.std.proofs.lemmas.Bool.{and_parts, and_from, or_cases, leb-true, le-leb, lt-ltb, eqb-true, false≢true}
use Rattle.std.proofs.lemmas.Grind.{div_ceil_times}
use Rattle.std.proofs.lemmas.List.Folds.{list_all-append}
use Rattle.std.proofs.lemmas.Nat.{mul-le}
use Rattle.bw_model.specs.Bytes.{is_within, zeros}
use Rattle.bw_model.specs.ReadBack.{is_marker}
use Rattle.bw_model.specs.Take.{Format, Shape, Text, Digits, Whole, Maybe, Level, shapes, width, field_bytes, matches}
use Rattle.bw_model.specs.Take.{is_printable, is_format, is_history_byte, block_align, Request, Open, Block, SetField}
use Rattle.bw_model.specs.Take.{Close}
use Rattle.bw_model.specs.Wire.{is_below, are_bytes, is_request}
use Rattle.bw_model.proofs.ByteNumbers.{are_bytes-parts}
use Rattle.bw_model.proofs.FieldLaws.{length-field_bytes}
use Rattle.bw_plan.specs.PlanLaws.{are_values}
use Rattle.bw_plan.specs.Plans.{plan, pieces, field_requests, block_requests, mark_request}
use Rattle.bw_plan.specs.Recordings.{Options, Recording, piece_count, block_frames}
use Rattle.bw_plan.proofs.CleanParts.{is_value}
use Rattle.bw_plan.proofs.FaultLists.{fits_block}
use Rattle.bw_plan.proofs.PlanLaws.{align_is_some}
use Rattle.bw_end_to_end.proofs.Cleaned.{all-weaker}
use Rattle.bw_end_to_end.proofs.ReadValues.{allowed}
use Rattle.bw_end_to_end.proofs.ReadFields.{RawBytes, AllRawBytes}
use Rattle.bw_end_to_end.proofs.Carried.{IsCarried}
use Rattle.bw_end_to_end.proofs.CarriedNumbers.{HasNumbers}
use Rattle.bw_end_to_end.proofs.CopiedFiles.{low_align, few_samples}

-- Bytes of texts.

printable_below : (c : ℕ) → is_printable c ≡ true → is_below 256 c ≡ true
printable_below c h =
    let high : c ≤ 126 = leb-true c 126 (and_parts (nat_le 32 c) (nat_le c 126) h).1 in
    lt-ltb c 256 (omega (arith, high))

history_below : (c : ℕ) → is_history_byte c ≡ true → is_below 256 c ≡ true
history_below c h = go (or_cases ((c == 13) || (c == 10)) (is_printable c) h)
  where
    two : ((c == 13) ≡ true) ⊎ ((c == 10) ≡ true) → is_below 256 c ≡ true
    two (inl e) = let same : c ≡ 13 = eqb-true c 13 e in lt-ltb c 256 (omega (arith, same))
    two (inr e) = let same : c ≡ 10 = eqb-true c 10 e in lt-ltb c 256 (omega (arith, same))

    go : (((c == 13) || (c == 10)) ≡ true) ⊎ (is_printable c ≡ true) → is_below 256 c ≡ true
    go (inl e) = two (or_cases (c == 13) (c == 10) e)
    go (inr e) = printable_below c e

digit_below : (c : ℕ) → is_ascii_digit c ≡ true → is_below 256 c ≡ true
digit_below c h =
    let high : c ≤ 57 = leb-true c 57 (and_parts (nat_le 48 c) (nat_le c 57) h).1 in
    lt-ltb c 256 (omega (arith, high))

matching_bytes : (form v : List ℕ) → are_bytes form ≡ true → matches form v ≡ true → are_bytes v ≡ true
matching_bytes [] [] f h = refl
matching_bytes [] (c ∷ cs) f h = absurd (false≢true h)
matching_bytes (x ∷ xs) [] f h = absurd (false≢true h)
matching_bytes (x ∷ xs) (c ∷ cs) f h =
    let bytes = and_parts (is_below 256 x) (are_bytes xs) f in
    let both = and_parts (cond (x == 100) (is_ascii_digit c) (x == c)) (matches xs cs) h in
    and_from (is_below 256 c) (are_bytes cs) (go (x == 100) both.0) (matching_bytes xs cs bytes.1 both.1)
  where
    go : (v : Bool) → cond v (is_ascii_digit c) (x == c) ≡ true → is_below 256 c ≡ true
    go true e = digit_below c e
    go false e =
        subst (λ (k : ℕ). is_below 256 k ≡ true) (eqb-true x c e) (and_parts (is_below 256 x) (are_bytes xs) f).0

-- Fields.

-- a field has at most so many bytes, and its form has bytes
abbrev fits_message : Shape → Bool
fits_message (Text w) = nat_le w 256
fits_message (Digits form) = nat_le (length form) 256 && are_bytes form
fits_message (Whole w) = nat_le w 256
fits_message (Maybe w) = nat_le w 256
fits_message Level = true

narrow : (s : Shape) → fits_message s ≡ true → width s ≤ 256
narrow (Text w) h = leb-true w 256 h
narrow (Digits form) h = leb-true (length form) 256 (and_parts (nat_le (length form) 256) (are_bytes form) h).0
narrow (Whole w) h = leb-true w 256 h
narrow (Maybe w) h = leb-true w 256 h
narrow Level h = omega arith

field_whole : (s : Shape) (c : ℕ) (cs : List ℕ) → field_bytes s (c ∷ cs) ≡ (c ∷ cs) ++ zeros (width s - length (c ∷ cs))
field_whole (Text w) c cs = refl
field_whole (Digits form) c cs = refl
field_whole (Whole w) c cs = refl
field_whole (Maybe w) c cs = refl
field_whole Level c cs = refl

value_short : (s : Shape) (c : ℕ) (cs : List ℕ) → fits_message s ≡ true → is_value s (c ∷ cs) ≡ true →
    length (c ∷ cs) ≤ 256
value_short s c cs f h =
    let n = narrow s f in
    let whole = length-field_bytes s (c ∷ cs) (allowed s c cs h).long in
    let parts = ap length (field_whole s c cs) ∙ length-append (c ∷ cs) (zeros (width s - length (c ∷ cs))) in
    omega (arith, n, whole, parts)

pub value_bytes : (s : Shape) (c : ℕ) (cs : List ℕ) → fits_message s ≡ true → is_value s (c ∷ cs) ≡ true →
    RawBytes s (c ∷ cs) → are_bytes (c ∷ cs) ≡ true
value_bytes (Text w) c cs f h k =
    all-weaker is_printable (is_below 256) printable_below (c ∷ cs) (allowed (Text w) c cs h).bytes
value_bytes (Digits form) c cs f h k =
    matching_bytes form (c ∷ cs) (and_parts (nat_le (length form) 256) (are_bytes form) f).1
    (allowed (Digits form) c cs h).bytes
value_bytes (Whole w) c cs f h k = k
value_bytes (Maybe w) c cs f h k = k
value_bytes Level c cs f h k = k

fields_fit : (ss : List Shape) (tag : ℕ) (values : List (List ℕ)) → tag + length values ≤ 256 →
    list_all fits_message ss ≡ true → are_values ss values ≡ true → AllRawBytes ss values →
    list_all is_request (field_requests tag values) ≡ true
fields_fit ss tag [] n f h k = refl
fields_fit [] tag (v ∷ values) n f h k = absurd (false≢true h)
fields_fit (s ∷ ss) tag ([] ∷ values) n f h k =
    fields_fit ss (suc tag) values (omega (arith, n)) (and_parts (fits_message s) (list_all fits_message ss) f).1 h k.1
fields_fit (s ∷ ss) tag ((c ∷ cs) ∷ values) n f h k =
    let fit = and_parts (fits_message s) (list_all fits_message ss) f in
    let both = and_parts (is_value s (c ∷ cs)) (are_values ss values) h in
    and_from (is_request (SetField tag (c ∷ cs))) (list_all is_request (field_requests (suc tag) values))
    (and_from (is_below 256 tag && nat_le (length (c ∷ cs)) 256) (are_bytes (c ∷ cs))
    (and_from (is_below 256 tag) (nat_le (length (c ∷ cs)) 256) (lt-ltb tag 256 (omega (arith, n)))
    (le-leb (length (c ∷ cs)) 256 (value_short s c cs fit.0 both.0))) (value_bytes s c cs fit.0 both.0 k.0))
    (fields_fit ss (suc tag) values (omega (arith, n)) fit.1 both.1 k.1)

-- Blocks.

blocks_fit : (k size : ℕ) (bytes : List ℕ) → 1 ≤ size → size ≤ 32768 → are_bytes bytes ≡ true →
    k * size < length bytes + size → list_all is_request (map Block (pieces k size bytes)) ≡ true
blocks_fit zero size bytes some low fits tight = refl
blocks_fit (suc k) size bytes some low fits tight =
    let step : suc k * size ≡ size + k * size = omega arith in
    let parts = are_bytes-parts size bytes fits in
    let first = length-take size bytes in
    let rest = length-drop size bytes in
    and_from (is_request (Block (take size bytes))) (list_all is_request (map Block (pieces k size (drop size bytes))))
    (and_from (is_within 1 32768 (length (take size bytes))) (are_bytes (take size bytes))
    (and_from (nat_le 1 (length (take size bytes))) (nat_le (length (take size bytes)) 32768)
    (le-leb 1 (length (take size bytes)) (omega (arith, first, some, step, tight)))
    (le-leb (length (take size bytes)) 32768 (omega (arith, first, low)))) parts.0)
    (blocks_fit k size (drop size bytes) some low parts.1 (omega (arith, rest, step, tight)))

-- Markers.

marks_fit : (ms : List (ℕ × ℕ)) → list_all is_marker ms ≡ true → list_all is_request (map mark_request ms) ≡ true
marks_fit [] h = refl
marks_fit (m ∷ ms) h =
    let both = and_parts (is_marker m) (list_all is_marker ms) h in
    and_from (is_request (mark_request m)) (list_all is_request (map mark_request ms)) both.0 (marks_fit ms both.1)

-- OPEN.

format_fits : (f : Format) → is_format f ≡ true →
    is_below (2 ^ 32) f.rate && is_below (2 ^ 16) f.channels && is_below (2 ^ 16) f.bits ≡ true
format_fits f h =
    let both = and_parts (is_within 1 768000 f.rate && is_within 1 64 f.channels)
    ((f.bits == 16) || (f.bits == 24) || (f.bits == 32)) h in
    let first = and_parts (is_within 1 768000 f.rate) (is_within 1 64 f.channels) both.0 in
    let rate : f.rate ≤ 768000 =
    leb-true f.rate 768000 (and_parts (nat_le 1 f.rate) (nat_le f.rate 768000) first.0).1 in
    let channels : f.channels ≤ 64 =
    leb-true f.channels 64 (and_parts (nat_le 1 f.channels) (nat_le f.channels 64) first.1).1 in
    let bits : f.bits ≤ 32 = go (or_cases ((f.bits == 16) || (f.bits == 24)) (f.bits == 32) both.1) in
    and_from (is_below (2 ^ 32) f.rate && is_below (2 ^ 16) f.channels) (is_below (2 ^ 16) f.bits)
    (and_from (is_below (2 ^ 32) f.rate) (is_below (2 ^ 16) f.channels) (lt-ltb f.rate (2 ^ 32) (omega (arith, rate)))
    (lt-ltb f.channels (2 ^ 16) (omega (arith, channels)))) (lt-ltb f.bits (2 ^ 16) (omega (arith, bits)))
  where
    is : (n : ℕ) → n ≤ 32 → (f.bits == n) ≡ true → f.bits ≤ 32
    is n low e = let same : f.bits ≡ n = eqb-true f.bits n e in omega (arith, same, low)

    two : ((f.bits == 16) ≡ true) ⊎ ((f.bits == 24) ≡ true) → f.bits ≤ 32
    two (inl e) = is 16 (omega arith) e
    two (inr e) = is 24 (omega arith) e

    go : (((f.bits == 16) || (f.bits == 24)) ≡ true) ⊎ ((f.bits == 32) ≡ true) → f.bits ≤ 32
    go (inl e) = two (or_cases (f.bits == 16) (f.bits == 24) e)
    go (inr e) = is 32 (omega arith) e

-- All of it.

joined : (xs ys : List Request) → list_all is_request xs ≡ true → list_all is_request ys ≡ true →
    list_all is_request (xs ++ ys) ≡ true
joined xs ys h k =
    list_all-append is_request xs ys ∙ and_from (list_all is_request xs) (list_all is_request ys) h k

pub plan_fits : (o : Options) (r : Recording) → IsCarried o r → HasNumbers r.outline → are_bytes r.samples ≡ true →
    list_all is_request (plan (block_frames o r.outline.format) r) ≡ true
unfolding plan
plan_fits o r c n bytes =
    let f : Format = r.outline.format in
    let align : ℕ = block_align f in
    let most : ℕ = 32768 / align in
    let frames : ℕ = max 1 (min (unwrap_or o.frames most) most) in
    let size : ℕ = frames * align in
    let some = align_is_some f c.whole.clean.format in
    let low = low_align f c.whole.clean.format in
    let small : size ≤ 32768 = fits_block (unwrap_or o.frames most) align some low in
    let least : 1 ≤ frames = omega arith in
    let size_some : 1 ≤ size = mul-le 1 1 frames align least some in
    let len : ℕ = length r.samples in
    let long = c.room.values in
    let total : len / align ≤ len = div-le_self len align in
    let few = few_samples o r.outline some low c.few in
    let counted = c.whole.samples in
    let open_fits : is_request (Open f r.outline.history) ≡ true =
    and_from (is_below (2 ^ 32) f.rate && is_below (2 ^ 16) f.channels && is_below (2 ^ 16) f.bits
    && nat_le (length r.outline.history) 4096) (are_bytes r.outline.history)
    (and_from (is_below (2 ^ 32) f.rate && is_below (2 ^ 16) f.channels && is_below (2 ^ 16) f.bits)
    (nat_le (length r.outline.history) 4096) (format_fits f c.whole.clean.format)
    (le-leb (length r.outline.history) 4096 c.room.history))
    (all-weaker is_history_byte (is_below 256) history_below r.outline.history c.whole.clean.history) in
    let sets = fields_fit shapes 1 r.outline.values (omega (arith, long)) refl c.whole.clean.values n.values in
    let blocks = blocks_fit (piece_count size len) size r.samples size_some small bytes
    (div_ceil_times len size size_some).1 in
    let marks = marks_fit r.outline.markers n.markers in
    let close : is_request (Close (len / align)) ≡ true =
    lt-ltb (len / align) (2 ^ 64) (omega (arith, total, few, counted)) in
    joined (Open f r.outline.history ∷ field_requests 1 r.outline.values ++ block_requests size r.samples
    ++ map mark_request r.outline.markers) (Close (len / align) ∷ [])
    (joined (Open f r.outline.history ∷ field_requests 1 r.outline.values ++ block_requests size r.samples)
    (map mark_request r.outline.markers)
    (joined (Open f r.outline.history ∷ field_requests 1 r.outline.values) (block_requests size r.samples)
    (and_from (is_request (Open f r.outline.history)) (list_all is_request
    (field_requests 1 r.outline.values)) open_fits
    sets) blocks) marks)
    (and_from (is_request (Close (len / align))) true close refl)
