-- What is found has no float as JSON, and few levels, so that its text is pinned and reads back.
use Rattle.std.proofs.Common.{◌≡◌, ℕ, suc, ◌≤◌, max, Bool, true, false, List, [], ◌∷◌, map, Option, Some, None}
use Rattle.std.proofs.Common.{refl, arith, rules, if◌then◌else◌, nat_lt, ◌==◌, codes, lit≤}
use Rattle.std.specs.Prelude.{pos, ◌-ℤ◌}
use Rattle.std.proofs.Math.Nat.{max-le}
use Rattle.std.specs.Str.{is_utf8}
use Rattle.serde_json.specs.Data.{Data, null, boolean, number, string, unsigned, negative}
use Rattle.serde_json.specs.Data.{depth, items_depth}
use Rattle.serde_json.specs.View.{view, items_of}
use Rattle.serde_json.specs.Written.{has_float, items_have_float}
use Rattle.serde_json.specs.declared.value.Value.{Null, Bool as Truth, the_lemmas}
use Rattle.bw_model.specs.Reading.{Entry}
use Rattle.bw_model.specs.Report.{RawBext, RawCue, RawFmt, Report}
use Rattle.bw_inspect.specs.Faults.{name_of}
use Rattle.bw_inspect.specs.Reports.{reported_by}
use Rattle.bw_report.specs.Values.{hex_or_null, level_data, number_or_null, text_data}
use Rattle.bw_report.specs.Objects.{bext_data, bext_or_null, chunk_data}
use Rattle.bw_report.specs.Objects.{cue_data, fault_data, loudness_data, report_data}
use Rattle.bw_report.specs.Objects.{samples_data}
use Rattle.bw_contents.specs.Texts.{Said}
use Rattle.bw_report.specs.ContentTexts.{contents_or_null, said_data}
use Rattle.bw_report.specs.Entries.{found_data}
use Rattle.bw_report.specs.declared.found.Found.{Found}
use Rattle.bw_report.specs.declared.found.Found.TheVariants.{Read, Faulty, Unopened}

pub view-Null : view Null ≡ null
view-Null = search (rules, the_lemmas)

pub view-Truth : (b : Bool) → view (Truth b) ≡ boolean b
view-Truth b = search (rules, the_lemmas)

-- No float.

text : (bytes : List ℕ) → has_float (text_data bytes) ≡ false
text bytes = go (is_utf8 bytes)
  where
    go : (b : Bool) → has_float (if b then string bytes else null) ≡ false
    go true = refl
    go false = refl

maybe_number : (n : Option ℕ) → has_float (number_or_null n) ≡ false
maybe_number None = refl
maybe_number (Some n) = refl

maybe_hex : (bytes : Option (List ℕ)) → has_float (hex_or_null bytes) ≡ false
maybe_hex None = refl
maybe_hex (Some bytes) = refl

level : (n : ℕ) → has_float (level_data n) ≡ false
level n = go (n == 0x7FFF) (nat_lt n 0x8000)
  where
    go : (a b : Bool) → has_float (if a then null else (if b then number (unsigned n)
        else number (negative (pos n -ℤ pos 0x10000)))) ≡ false
    go true b = refl
    go false true = refl
    go false false = refl

loudness : (levels : List ℕ) → has_float (loudness_data levels) ≡ false
loudness [] = refl
loudness (n ∷ ns) = simp level

bext : (rate : ℕ) (b : RawBext × ℕ) → has_float (bext_data rate b) ≡ false
bext rate b = simp (text, maybe_number, loudness)

maybe_bext : (rate : ℕ) (b : Option (RawBext × ℕ)) → has_float (bext_or_null rate b) ≡ false
maybe_bext rate None = refl
maybe_bext rate (Some b) = bext rate b

chunks : (entries : List Entry) → items_have_float (items_of (map chunk_data entries)) ≡ false
chunks [] = refl
chunks (e ∷ es) = simp (text, chunks es)

contents : (all : List Said) → items_have_float (items_of (map said_data all)) ≡ false
contents [] = refl
contents (x ∷ xs) = simp (text, maybe_number, contents xs)

maybe_contents : (known : Option (List Said)) → has_float (contents_or_null known) ≡ false
maybe_contents None = refl
maybe_contents (Some all) = contents all

cues : (rate : ℕ) (points : List RawCue) → items_have_float (items_of (map (cue_data rate) points)) ≡ false
cues rate [] = refl
cues rate (c ∷ cs) = simp (maybe_number, cues rate cs)

report : (name : List ℕ) (digest : Option (List ℕ)) (known : Option (List Said)) (r : Report)
    → has_float (report_data name digest known r) ≡ false
report name digest known r = simp (maybe_bext, chunks, maybe_contents, cues, maybe_number, text, maybe_hex)

fault : (name kind : List ℕ) (place : Option ℕ) → has_float (fault_data name kind place) ≡ false
fault name kind place = simp maybe_number

pub found-has_float : (name : List ℕ) (found : Found) → has_float (found_data name found) ≡ false
found-has_float name (Read r digest known) = report name digest known (reported_by r)
found-has_float name (Faulty f) = fault name (name_of f.kind) (Some f.offset)
found-has_float name (Unopened exit) = fault name (codes "Open") None

-- Few levels.

text_depth : (bytes : List ℕ) → depth (text_data bytes) ≡ 0
text_depth bytes = go (is_utf8 bytes)
  where
    go : (b : Bool) → depth (if b then string bytes else null) ≡ 0
    go true = refl
    go false = refl

number_depth : (n : Option ℕ) → depth (number_or_null n) ≡ 0
number_depth None = refl
number_depth (Some n) = refl

hex_depth : (bytes : Option (List ℕ)) → depth (hex_or_null bytes) ≡ 0
hex_depth None = refl
hex_depth (Some bytes) = refl

level_depth : (n : ℕ) → depth (level_data n) ≡ 0
level_depth n = go (n == 0x7FFF) (nat_lt n 0x8000)
  where
    go : (a b : Bool) → depth (if a then null else (if b then number (unsigned n)
        else number (negative (pos n -ℤ pos 0x10000)))) ≡ 0
    go true b = refl
    go false true = refl
    go false false = refl

loudness_depth : (levels : List ℕ) → depth (loudness_data levels) ≤ 1
loudness_depth [] = omega arith
loudness_depth (n ∷ ns) = simp level_depth (lit≤ tt)

below_four : (n : ℕ) → n ≤ 3 → suc n ≤ 4
below_four n h = omega (arith, h)

flat : (n : ℕ) (d : Data) → depth d ≡ 0 → depth d ≤ n
flat n d is = rw is (omega arith)

-- a flat member before others
past : (n : ℕ) → n ≤ 1 → max 0 n ≤ 1
past n h = max-le (omega arith) h

bext_depth : (rate : ℕ) (b : RawBext × ℕ) → depth (bext_data rate b) ≤ 2
bext_depth rate b = simp (text_depth, number_depth)
    (go (depth (loudness_data b.0.loudness)) (loudness_depth b.0.loudness))
  where
    go : (l : ℕ) → l ≤ 1 → suc (max 0 (max 0 (max 0 (max 0 (max 0 (max 0 (max 0 (max l 0)))))))) ≤ 2
    go l h =
        let last : max l 0 ≤ 1 = max-le h (omega arith) in
        let all = past _ (past _ (past _ (past _ (past _ (past _ (past _ last)))))) in
        omega (arith, all)

maybe_bext_depth : (rate : ℕ) (b : Option (RawBext × ℕ)) → depth (bext_or_null rate b) ≤ 2
maybe_bext_depth rate None = omega arith
maybe_bext_depth rate (Some b) = bext_depth rate b

chunks_depth : (entries : List Entry) → items_depth (items_of (map chunk_data entries)) ≤ 1
chunks_depth [] = omega arith
chunks_depth (e ∷ es) =
    let one : depth (chunk_data e) ≤ 1 = simp text_depth (lit≤ tt) in
    max-le one (chunks_depth es)

contents_depth : (all : List Said) → items_depth (items_of (map said_data all)) ≤ 1
contents_depth [] = omega arith
contents_depth (x ∷ xs) =
    let one : depth (said_data x) ≤ 1 = simp (text_depth, number_depth) (lit≤ tt) in
    max-le one (contents_depth xs)

maybe_contents_depth : (known : Option (List Said)) → depth (contents_or_null known) ≤ 3
maybe_contents_depth None = omega arith
maybe_contents_depth (Some all) = omega (arith, contents_depth all)

cues_depth : (rate : ℕ) (points : List RawCue) → items_depth (items_of (map (cue_data rate) points)) ≤ 1
cues_depth rate [] = omega arith
cues_depth rate (c ∷ cs) =
    let one : depth (cue_data rate c) ≤ 1 = simp number_depth (lit≤ tt) in
    max-le one (cues_depth rate cs)

samples_depth : (place size : ℕ) (f : RawFmt) → depth (samples_data place size f) ≤ 2
samples_depth place size f = simp number_depth (lit≤ tt)

report_depth : (name : List ℕ) (digest : Option (List ℕ)) (known : Option (List Said)) (r : Report)
    → depth (report_data name digest known r) ≤ 4
report_depth name digest known r =
    let b : depth (bext_or_null r.fmt.rate r.bext) ≤ 3 = omega (arith, maybe_bext_depth r.fmt.rate r.bext) in
    let cs : items_depth (items_of (map chunk_data r.chunks)) ≤ 1 = chunks_depth r.chunks in
    let ps : items_depth (items_of (map (cue_data r.fmt.rate) r.cues)) ≤ 1 = cues_depth r.fmt.rate r.cues in
    let d : depth (samples_data r.data_at r.data_size r.fmt) ≤ 3 =
    omega (arith, samples_depth r.data_at r.data_size r.fmt) in
    below_four _ (max-le (lit≤ tt) (max-le b (max-le (omega (arith, cs)) (max-le (maybe_contents_depth known)
    (max-le (omega (arith, ps)) (max-le d
    (max-le (lit≤ tt) (max-le (lit≤ tt) (max-le (lit≤ tt) (max-le (flat 3 _ (text_depth r.form))
    (max-le (lit≤ tt) (max-le (lit≤ tt) (max-le (flat 3 _ (hex_depth digest)) (lit≤ tt))))))))))))))

fault_depth : (name kind : List ℕ) (place : Option ℕ) → depth (fault_data name kind place) ≤ 4
fault_depth name kind place = simp number_depth (lit≤ tt)

pub found-depth : (name : List ℕ) (found : Found) → depth (found_data name found) ≤ 127
found-depth name (Read r digest known) = omega (arith, report_depth name digest known (reported_by r))
found-depth name (Faulty f) = omega (arith, fault_depth name (name_of f.kind) (Some f.offset))
found-depth name (Unopened exit) = omega (arith, fault_depth name (codes "Open") None)
