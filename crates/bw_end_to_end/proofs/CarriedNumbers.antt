-- The numbers of each recording are such as a file holds, and its samples are bytes.
use Rattle.std.proofs.Common.{◌≡◌, ℕ, zero, suc, ◌+◌, ◌-◌, ◌^◌, Bool, true, false, cond, List, [], ◌∷◌, ◌++◌, length}
use Rattle.std.proofs.Common.{map, drop, Option, Some, None, Ok, refl, ◌∙◌, subst}
use Rattle.std.specs.Prelude.{◌&&◌, fold, slice_set, slice_range, nat_le, nat_lt, codes, option_map}
use Rattle.std.specs.List.{list_all}
use Rattle.std.specs.Str.{bytes_eq}
use Rattle.std.proofs.lemmas.Bool.{and_parts, and_from, lt-ltb}
use Rattle.std.proofs.lemmas.List.Folds.{list_all-append}
use Rattle.bw_model.specs.Bytes.{le16, le64, u16_at, u32_at, u64_at}
use Rattle.bw_model.specs.Take.{Shape, Text, Digits, Whole, Maybe, Level, shapes, not_given}
use Rattle.bw_model.specs.Reading.{Form, Entry, entry_of}
use Rattle.bw_model.specs.ReadBack.{is_marker}
use Rattle.bw_model.specs.Report.{RawCue, report_of, content_of, raw_bext, raw_cues}
use Rattle.bw_model.specs.Wire.{are_bytes}
use Rattle.bw_model.proofs.ByteNumbers.{IsBytes-from_test, are_bytes-parts, wide32}
use Rattle.bw_plan.specs.CleanedContents.{are_zero, value_of, values_of, is_marker_kept, with_cue}
use Rattle.bw_plan.specs.PcmRecordings.{pcm_recording_of, pcm_format, set_pcm_outline}
use Rattle.bw_plan.specs.declared.pcm.Pcm.{Pcm}
use Rattle.bw_plan.specs.Recordings.{Setting, Field, History, Options, Outline, Recording, FileNotes, recording_of}
use Rattle.bw_plan.specs.Recordings.{notes_of, outline, no_options, with_setting, with_value, raw_fields, bext_fields}
use Rattle.bw_plan.proofs.PcmRecordings.{pcm_comes}
use Rattle.bw_plan.proofs.WholeRecordings.{outlines}
use Rattle.bw_delivery.proofs.SpelledBytes.{low_bytes}
use Rattle.bw_end_to_end.specs.Copies.{is_setting_of_bytes}
use Rattle.bw_end_to_end.proofs.ReadFields.{RawBytes, AllRawBytes}
use Rattle.bw_end_to_end.proofs.Carried.{comes}

-- each number is one that a file can hold
pub record HasNumbers (r : Outline) : Type 0 where
  pub values : AllRawBytes shapes r.values
  pub markers : list_all is_marker r.markers ≡ true

raw_bytes : (s : Shape) (v : List ℕ) → are_bytes v ≡ true → RawBytes s v
raw_bytes (Text w) v h = tt
raw_bytes (Digits form) v h = tt
raw_bytes (Whole w) v h = h
raw_bytes (Maybe w) v h = h
raw_bytes Level v h = h

numbers_set : (ss : List Shape) (values : List (List ℕ)) (n : ℕ) (v : List ℕ) → are_bytes v ≡ true →
    AllRawBytes ss values → AllRawBytes ss (slice_set values n v)
numbers_set [] values n v h k = tt
numbers_set (s ∷ ss) [] n v h k = tt
numbers_set (s ∷ ss) (x ∷ xs) zero v h k = (raw_bytes s v h, k.1)
numbers_set (s ∷ ss) (x ∷ xs) (suc n) v h k = (k.0, numbers_set ss xs n v h k.1)

numbers_with : (values : List (List ℕ)) (tag : ℕ) (v : List ℕ) → are_bytes v ≡ true → AllRawBytes shapes values →
    AllRawBytes shapes (with_value values tag v)
numbers_with values zero v h k = k
numbers_with values (suc n) v h k = numbers_set shapes values n v h k

setting_numbers : (r : Outline) (s : Setting) → is_setting_of_bytes s ≡ true → HasNumbers r →
    HasNumbers (with_setting r s)
setting_numbers r (Field tag v) h k = record { values = numbers_with r.values tag v h k.values; markers = k.markers }
setting_numbers r (History v) h k = record { values = k.values; markers = k.markers }

settings_numbers : (r : Outline) (ss : List Setting) → list_all is_setting_of_bytes ss ≡ true → HasNumbers r →
    HasNumbers (fold with_setting r ss)
settings_numbers r [] h k = k
settings_numbers r (s ∷ ss) h k =
    let both = and_parts (is_setting_of_bytes s) (list_all is_setting_of_bytes ss) h in
    settings_numbers (with_setting r s) ss both.1 (setting_numbers r s both.0 k)

-- the numbers that `bext` has

pub range_bytes : (b : List ℕ) (i j : ℕ) → are_bytes b ≡ true → are_bytes (slice_range b i j) ≡ true
range_bytes b i j h = (are_bytes-parts (j - i) (drop i b) (are_bytes-parts i b h).1).0

content_bytes : (b : List ℕ) (e : Option Entry) → are_bytes b ≡ true → are_bytes (content_of b e) ≡ true
content_bytes b None h = refl
content_bytes b (Some e) h = range_bytes b (e.place + 8) (e.place + 8 + e.size) h

kept_bytes : (v : List ℕ) (zero_or_unset : Bool) → are_bytes v ≡ true → are_bytes (cond zero_or_unset [] v) ≡ true
kept_bytes v true h = refl
kept_bytes v false h = h

pub time_bytes : (n : ℕ) → are_bytes (le64 n) ≡ true
time_bytes n = low_bytes 0 8 n

pub level_bytes : (n : ℕ) → are_bytes (le16 n) ≡ true
level_bytes n = low_bytes 0 2 n

bext_numbers : (c : List ℕ) → are_bytes c ≡ true → AllRawBytes shapes (values_of shapes (bext_fields (raw_bext c)))
bext_numbers c h = (
  tt,
  (
    tt,
    (
      tt,
      (
        tt,
        (
          tt,
          (
            kept_bytes (le64 (u64_at c 338)) (are_zero (le64 (u64_at c 338))) (time_bytes (u64_at c 338)),
            (
              kept_bytes (slice_range c 348 412) (are_zero (slice_range c 348 412)) (range_bytes c 348 412 h),
              levels (nat_le 2 (u16_at c 346)),
            ),
          ),
        ),
      ),
    ),
  ),
)
  where
    level : (n : ℕ) → are_bytes (value_of Level (le16 n)) ≡ true
    level n = kept_bytes (le16 n) (bytes_eq (le16 n) not_given) (level_bytes n)

    levels : (v : Bool) → AllRawBytes (Level ∷ Level ∷ Level ∷ Level ∷ Level ∷ [])
        (values_of (Level ∷ Level ∷ Level ∷ Level ∷ Level ∷ [])
        (map le16 (cond v (u16_at c 412 ∷ u16_at c 414 ∷ u16_at c 416 ∷ u16_at c 418 ∷ u16_at c 420 ∷ []) [])))
    levels true = (
      level (u16_at c 412),
      (
        level (u16_at c 414),
        (
          level (u16_at c 416),
          (
            level (u16_at c 418),
            (
              level
                  (u16_at c 420),
              tt,
            ),
          ),
        ),
      ),
    )
    levels false = (refl, (refl, (refl, (refl, (refl, tt)))))

report_numbers : (b : List ℕ) (form : Form) (es : List Entry) → are_bytes b ≡ true →
    AllRawBytes shapes (values_of shapes (raw_fields (report_of b form es).bext))
unfolding report_of
report_numbers b form es h = go (entry_of (codes "bext") es)
  where
    go : (x : Option Entry) → AllRawBytes shapes
        (values_of shapes (raw_fields (option_map (λ (e : Entry). (raw_bext (content_of b x), e.size - 602)) x)))
    go None = (tt, (tt, (tt, (tt, (tt, (refl, (refl, (refl, (refl, (refl, (refl, (refl, tt))))))))))))
    go (Some e) = bext_numbers (content_of b (Some e)) (content_bytes b (Some e) h)

-- the samples of a file of bytes are bytes
pub samples_bytes : (b : List ℕ) (o : Options) (r : Recording) → are_bytes b ≡ true → recording_of b o ≡ Ok r →
    are_bytes r.samples ≡ true
samples_bytes b o r fits h =
    let c = comes b o r h in
    let report = report_of b c.form c.entries in
    subst (λ (x : List ℕ). are_bytes x ≡ true) c.samples
    (range_bytes b report.data_at (report.data_at + report.data_size) fits)

-- those of cue points

number_fits : (c : List ℕ) (p : ℕ) → are_bytes c ≡ true → nat_lt (u32_at c p) (2 ^ 32) ≡ true
number_fits c p h =
    lt-ltb (u32_at c p) (2 ^ 32) (wide32.below (slice_range c p (p + 4))
    (IsBytes-from_test (slice_range c p (p + 4)) (range_bytes c p (p + 4) h)))

abbrev is_cue_marker : RawCue → Bool
is_cue_marker c = is_marker (c.id, c.offset)

cues_fit : (c : List ℕ) (p n : ℕ) → are_bytes c ≡ true → list_all is_cue_marker (raw_cues c p n) ≡ true
cues_fit c p zero h = refl
cues_fit c p (suc n) h =
    and_from (is_marker (u32_at c p, u32_at c (p + 20))) (list_all is_cue_marker (raw_cues c (p + 24) n))
    (and_from (nat_lt (u32_at c p) (2 ^ 32)) (nat_lt (u32_at c (p + 20)) (2 ^ 32)) (number_fits c p h)
    (number_fits c (p + 20) h)) (cues_fit c (p + 24) n h)

markers_fit : (frames : ℕ) (kept : List (ℕ × ℕ)) (cues : List RawCue) → list_all is_marker kept ≡ true →
    list_all is_cue_marker cues ≡ true → list_all is_marker (fold (with_cue frames) kept cues) ≡ true
markers_fit frames kept [] h k = h
markers_fit frames kept (c ∷ cs) h k =
    let both = and_parts (is_cue_marker c) (list_all is_cue_marker cs) k in
    markers_fit frames (with_cue frames kept c) cs (go (is_marker_kept frames kept c) both.0) both.1
  where
    go : (v : Bool) → is_cue_marker c ≡ true → list_all is_marker (cond v (kept ++ (c.id, c.offset) ∷ []) kept) ≡ true
    go false e = h
    go true e =
        list_all-append is_marker kept ((c.id, c.offset) ∷ [])
        ∙ and_from (list_all is_marker kept) (is_marker (c.id, c.offset) && true) h (and_from (is_marker
        (c.id, c.offset)) true e refl)

report_cues : (b : List ℕ) (form : Form) (es : List Entry) → are_bytes b ≡ true →
    list_all is_cue_marker (report_of b form es).cues ≡ true
unfolding report_of
report_cues b form es h =
    let c = content_of b (entry_of (codes "cue ") es) in
    cues_fit c 4 (u32_at c 0) (content_bytes b (entry_of (codes "cue ") es) h)

pub file_numbers : (b : List ℕ) (o : Options) (r : Recording) → are_bytes b ≡ true →
    list_all is_setting_of_bytes o.settings ≡ true → recording_of b o ≡ Ok r → HasNumbers r.outline
file_numbers b o r fits of_bytes h =
    let c = comes b o r h in
    let n : FileNotes = notes_of b c.form c.entries in
    let out = outlines o n r.outline c.outlined in
    let base : HasNumbers (outline n) = record {
      values = report_numbers b c.form c.entries fits;
      markers = markers_fit _ [] n.report.cues refl (report_cues b c.form c.entries fits);
    } in
    subst HasNumbers out.is (settings_numbers (outline n) o.settings of_bytes base)

pub pcm_numbers : (b : List ℕ) (o : Options) (p : Pcm) (r : Recording) →
    list_all is_setting_of_bytes o.settings ≡ true → pcm_recording_of b o p ≡ Ok r → HasNumbers r.outline
pcm_numbers b o p r of_bytes h =
    let c = pcm_comes b o p r h in
    let bare : Outline = set_pcm_outline no_options (pcm_format p) (length b - p.skip) in
    let base : HasNumbers bare = record {
      values = (tt, (tt, (tt, (tt, (tt, (refl, (refl, (refl, (refl, (refl, (refl, (refl, tt))))))))))));
      markers = refl;
    } in
    subst HasNumbers c.outline (settings_numbers bare o.settings of_bytes base)

pub pcm_bytes : (b : List ℕ) (o : Options) (p : Pcm) (r : Recording) → are_bytes b ≡ true →
    pcm_recording_of b o p ≡ Ok r →
    are_bytes r.samples ≡ true
pcm_bytes b o p r fits h =
    subst (λ (x : List ℕ). are_bytes x ≡ true) (pcm_comes b o p r h).samples (are_bytes-parts p.skip b fits).1
