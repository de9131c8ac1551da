-- The recording of a file's bytes may be stored, and has all the samples that its outline counts.
use Rattle.std.proofs.Common.{◌≡◌, ℕ, zero, suc, ◌+◌, ◌-◌, ◌≤◌, Bool, true, false, cond, ◌&&◌, List, [], ◌∷◌}
use Rattle.std.proofs.Common.{length, map, drop, Option, Some, None, Result, Ok, Err, refl, sym, ◌∙◌, ap, subst}
use Rattle.std.proofs.Common.{arith, length-take, length-drop}
use Rattle.std.specs.Prelude.{◌/◌, ◌%◌, ◌||◌, ◌==◌, fold, is_none, slice_range, nat_le, codes}
use Rattle.std.specs.Prelude.{option_map, unwrap_or}
use Rattle.std.specs.List.{list_all}
use Rattle.std.proofs.lemmas.Bool.{and_parts, and_from, eqb-true, not-false}
use Rattle.bw_model.specs.Bytes.{first_that_holds, unless, is_within, u16_at, u64_at, le16, le64, even_up}
use Rattle.bw_model.specs.Limits.{longest_history}
use Rattle.bw_model.specs.Take.{Format, Level, shapes, field_fault, is_format, is_history_byte, block_align}
use Rattle.bw_model.specs.Reading as reading
use Rattle.bw_model.specs.Reading.{Form, Entry, IsReading, entry_of, is_id, read}
use Rattle.bw_model.specs.Prefix.{IsChunkAt, StandFrom}
use Rattle.bw_model.specs.Report.{report_of, content_of, raw_bext}
use Rattle.bw_model.proofs.Elements.{Each, some_inj}
use Rattle.bw_model.proofs.EndLaws.{reads, readings}
use Rattle.bw_model.proofs.BookLemmas.{same_name}
use Rattle.bw_inspect.specs.OtherFormats.{other_format_of}
use Rattle.bw_plan.specs.Recordings.{Setting, Field, History, Options, Outline, Recording, FaultAt, FileNotes, recording_of}
use Rattle.bw_plan.specs.Recordings.{recorded, notes_of, outline_of, set_outline, outline, with_setting, with_value}
use Rattle.bw_plan.specs.Recordings.{raw_fields, bext_fields, recording_faults, samples_of, recorded_format}
use Rattle.bw_plan.specs.AllowedSettings.{is_setting, are_settings}
use Rattle.bw_plan.specs.PlanLaws.{RecordingsAreWhole, are_values, are_markers}
use Rattle.bw_plan.proofs.FaultLists.{none_hold}
use Rattle.bw_plan.proofs.CleanParts.{history_clean, values_clean, values_set, markers_clean, AllFill}

-- What a recording is made of.

record Comes (b : List ℕ) (o : Options) (r : Recording) : Type 0 where
  form : Form
  entries : List Entry
  reads : read b ≡ Ok (form, entries)
  outlined : outline_of o (notes_of b form entries) ≡ Ok r.outline
  samples : samples_of b (report_of b form entries) ≡ r.samples

pub not_ok : {X E : Type 0} {x : X} {e : E} → Err e ≡ Ok x → ⊥
not_ok h = cc

pub ok_inj : {X E : Type 0} {x y : X} → ◌≡◌ {A = Result X E} (Ok x) (Ok y) → x ≡ y
ok_inj h = cc

comes : (b : List ℕ) (o : Options) (r : Recording) → recording_of b o ≡ Ok r → Comes b o r
unfolding recording_of
comes b o r h = go (read b) refl h
  where
    inner : (form : Form) (entries : List Entry) → read b ≡ Ok (form, entries) →
        (x : Result Outline FaultAt) → outline_of o (notes_of b form entries) ≡ x →
        ◌≡◌ {A = Result Recording FaultAt} (elim x [
          | Err fault ↦ Err fault
          | Ok z ↦ Ok (record { outline = z; samples = samples_of b (report_of b form entries) })
        ]) (Ok r) → Comes b o r
    inner form entries q (Err fault) e h = absurd (not_ok h)
    inner form entries q (Ok z) e h = let same = ok_inj h in record {
      form = form;
      entries = entries;
      reads = q;
      outlined = e ∙ ap (λ (x : Recording). Ok x.outline) same;
      samples = ap (λ (x : Recording). x.samples) same;
    }

    go : (x : Result (Form × List Entry) reading.Fault) → read b ≡ x →
        ◌≡◌ {A = Result Recording FaultAt} (elim x [
          | Err fault ↦ Err (record {
            kind = Rattle.bw_plan.specs.Recordings.kind_unread fault.kind (other_format_of b);
            offset = fault.offset;
          })
          | Ok z ↦ recorded b o z.0 z.1
        ]) (Ok r) → Comes b o r
    go (Err fault) q h = absurd (not_ok h)
    go (Ok z) q h = inner z.0 z.1 q (outline_of o (notes_of b z.0 z.1)) refl h

-- no fault, and the outline that the notes give
pub record Outlines (o : Options) (n : FileNotes) (r : Outline) : Type 0 where
  pub free : first_that_holds (recording_faults o n) ≡ None
  pub is : set_outline o n ≡ r

pub outlines : (o : Options) (n : FileNotes) (r : Outline) → outline_of o n ≡ Ok r → Outlines o n r
unfolding outline_of
outlines o n r h = go (first_that_holds (recording_faults o n)) refl h
  where
    go : (x : Option FaultAt) → first_that_holds (recording_faults o n) ≡ x →
        unless x (set_outline o n) ≡ Ok r → Outlines o n r
    go None e h = record { free = e; is = ok_inj h }
    go (Some f) e h = absurd (not_ok h)

-- The chunks stand within the bytes.

each_stands : (b : List ℕ) (form : Form) (p : ℕ) (es : List Entry) → StandFrom b form p es → Each (IsChunkAt b form) es
each_stands b form p [] h = tt
each_stands b form p (e ∷ es) h = (h.1, each_stands b form (e.place + 8 + even_up e.size) es h.2)

pub record Stands (b : List ℕ) (form : Form) (id : List ℕ) (e : Entry) : Type 0 where
  pub chunk : IsChunkAt b form e
  pub named : e.id ≡ id

pub found_stands : (b : List ℕ) (form : Form) (id : List ℕ) (es : List Entry) (e : Entry) → Each (IsChunkAt b form) es →
    entry_of id es ≡ Some e → Stands b form id e
found_stands b form id [] e h q = absurd (none q)
  where
    none : {X : Type 0} {z : X} → None ≡ Some z → ⊥
    none h = cc
found_stands b form id (x ∷ xs) e h q = go (is_id x.id id) refl q (found_stands b form id xs e h.1)
  where
    go : (v : Bool) → is_id x.id id ≡ v → cond v (Some x) (entry_of id xs) ≡ Some e →
        (entry_of id xs ≡ Some e → Stands b form id e) → Stands b form id e
    go true s q rest =
        subst (Stands b form id) (some_inj q) (record { chunk = h.0; named = same_name x.id id s })
    go false s q rest = rest q

pub chunks_of : (b : List ℕ) (form : Form) (es : List Entry) → read b ≡ Ok (form, es) → Each (IsChunkAt b form) es
chunks_of b form es q =
    let whole = (readings b form es).0 ((reads b).reading form es q) in each_stands b form 12 es whole.0.chunks

range_long : (b : List ℕ) (p n : ℕ) → p + n ≤ length b → length (slice_range b p (p + n)) ≡ n
range_long b p n h =
    let d = length-drop p b in length-take (p + n - p) (drop p b) ∙ omega (arith, d, h)

-- the data that a report gives are there
pub data_there : (b : List ℕ) (form : Form) (es : List Entry) → Each (IsChunkAt b form) es →
    length (samples_of b (report_of b form es)) ≡ (report_of b form es).data_size
unfolding report_of
data_there b form es h = go (entry_of (codes "data") es) refl
  where
    go : (x : Option Entry) → entry_of (codes "data") es ≡ x →
        length (slice_range b (unwrap_or (option_map (λ (e : Entry). e.place + 8) x) 0)
        (unwrap_or (option_map (λ (e : Entry). e.place + 8) x) 0
        + unwrap_or (option_map (λ (e : Entry). e.size) x) 0))
        ≡ unwrap_or (option_map (λ (e : Entry). e.size) x) 0
    go None q = range_long b 0 0 (omega arith)
    go (Some e) q = range_long b (e.place + 8) e.size (found_stands b form (codes "data") es e h q).chunk.in_bytes

-- Each field of `bext` is filled.

range_most : (c : List ℕ) (i j : ℕ) → length (slice_range c i j) ≤ j - i
range_most c i j = let n = length-take (j - i) (drop i c) in omega (arith, n)

eight : (n : ℕ) → length (le64 n) ≡ 8
eight n = refl

two : (n : ℕ) → length (le16 n) ≡ 2
two n = refl

bext_fills : (c : List ℕ) → 602 ≤ length c → AllFill shapes (bext_fields (raw_bext c))
bext_fills c h = go (nat_le 2 (u16_at c 346))
  where
    go : (v : Bool) → AllFill shapes (slice_range c 0 256 ∷ slice_range c 256 288 ∷ slice_range c 288 320
        ∷ slice_range c 320 330 ∷ slice_range c 330 338 ∷ le64 (u64_at c 338) ∷ slice_range c 348 412
        ∷ map le16 (cond v (u16_at c 412 ∷ u16_at c 414 ∷ u16_at c 416 ∷ u16_at c 418 ∷ u16_at c 420 ∷ []) []))
    go v =
        let umid : length (slice_range c 348 412) ≡ 64 = range_long c 348 64 (omega (arith, h)) in
        let text : length (slice_range c 0 256) ≤ 256 = range_most c 0 256 in
        let originator : length (slice_range c 256 288) ≤ 32 = range_most c 256 288 in
        let reference : length (slice_range c 288 320) ≤ 32 = range_most c 288 320 in
        (text, (originator, (reference, (tt, (tt, (eight (u64_at c 338), (umid, levels v)))))))
      where
        levels : (v : Bool) → AllFill (Level ∷ Level ∷ Level ∷ Level ∷ Level ∷ [])
            (map le16 (cond v (u16_at c 412 ∷ u16_at c 414 ∷ u16_at c 416 ∷ u16_at c 418 ∷ u16_at c 420 ∷ []) []))
        levels true = (two (u16_at c 412), (two (u16_at c 414), (two (u16_at c 416), (two (u16_at c 418), (two (u16_at c 420), tt)))))
        levels false = tt

fields_fill : (b : List ℕ) (form : Form) (es : List Entry) → Each (IsChunkAt b form) es →
    AllFill shapes (raw_fields (report_of b form es).bext)
unfolding report_of
fields_fill b form es h = go (entry_of (codes "bext") es) refl
  where
    go : (x : Option Entry) → entry_of (codes "bext") es ≡ x →
        AllFill shapes (raw_fields (option_map (λ (e : Entry). (raw_bext (content_of b x), e.size - 602)) x))
    go None q = tt
    go (Some e) q =
        let s = found_stands b form (codes "bext") es e h q in
        let large : 602 ≤ e.size = s.chunk.bext s.named in
        bext_fills (content_of b (Some e))
        (let l = range_long b (e.place + 8) e.size s.chunk.in_bytes in omega (arith, l, large))

-- What settings keep.

pub record Keeps (f : Format) (m : List (ℕ × ℕ)) (l : ℕ) (r : Outline) : Type 0 where
  pub format : r.format ≡ f
  pub markers : r.markers ≡ m
  pub samples_len : r.samples_len ≡ l
  pub history : list_all is_history_byte r.history ≡ true
  pub values : are_values shapes r.values ≡ true

value_set : (values : List (List ℕ)) (tag : ℕ) (v : List ℕ) → are_values shapes values ≡ true →
    (length v == 0) || is_none (field_fault tag v) ≡ true → are_values shapes (with_value values tag v) ≡ true
value_set values zero v h k = h
value_set values (suc n) v h k = values_set shapes values n v h k

setting_keeps : (f : Format) (m : List (ℕ × ℕ)) (l : ℕ) (r : Outline) (s : Setting) → is_setting s ≡ true →
    Keeps f m l r → Keeps f m l (with_setting r s)
setting_keeps f m l r (Field tag v) h k = record {
  format = k.format;
  markers = k.markers;
  samples_len = k.samples_len;
  history = k.history;
  values = value_set r.values tag v k.values h;
}
setting_keeps f m l r (History v) h k = record {
  format = k.format;
  markers = k.markers;
  samples_len = k.samples_len;
  history = (and_parts (nat_le (length v) longest_history) (list_all is_history_byte v) h).1;
  values = k.values;
}

pub settings_keep : (f : Format) (m : List (ℕ × ℕ)) (l : ℕ) (r : Outline) (ss : List Setting) → are_settings ss ≡ true →
    Keeps f m l r → Keeps f m l (fold with_setting r ss)
settings_keep f m l r [] h k = k
settings_keep f m l r (s ∷ ss) h k =
    let both = and_parts (is_setting s) (are_settings ss) h in
    settings_keep f m l (with_setting r s) ss both.1 (setting_keeps f m l r s both.0 k)

-- All of it.

pub recordings_are_whole : RecordingsAreWhole
recordings_are_whole b o r allowed h =
    let c = comes b o r h in
    let n : FileNotes = notes_of b c.form c.entries in
    let f : Format = recorded_format n.report.fmt in
    let out = outlines o n r.outline c.outlined in
    let free = none_hold (recording_faults o n) out.free in
    let chunks = chunks_of b c.form c.entries c.reads in
    let m : List (ℕ × ℕ) = (outline n).markers in
    let size : ℕ = n.report.data_size in
    let base : Keeps f m size (outline n) = record {
      format = refl;
      markers = refl;
      samples_len = refl;
      history = history_clean n.history;
      values = values_clean shapes (raw_fields n.report.bext) (fields_fill b c.form c.entries chunks);
    } in
    let all : Keeps f m size r.outline =
    subst (Keeps f m size) out.is (settings_keep f m size (outline n) o.settings allowed base) in
    let rate = is_within 1 768000 f.rate in
    let channels = is_within 1 64 f.channels in
    let bits = (f.bits == 16) || (f.bits == 24) || (f.bits == 32) in
    let format : is_format f ≡ true =
    and_from (rate && channels) bits
    (and_from rate channels (not-false rate free.1.1.1.1.0) (not-false channels free.1.1.1.1.1.0))
    (not-false bits free.1.0) in
    let long : length r.samples ≡ size = ap length (sym c.samples) ∙ data_there b c.form c.entries chunks in
    let frames : size % block_align (set_outline o n).format ≡ 0 =
    eqb-true (size % block_align (set_outline o n).format) 0 (not-false _ free.1.1.1.1.1.1.0) in
    let whole : size % block_align r.outline.format ≡ 0 =
    subst (λ (x : Outline). size % block_align x.format ≡ 0) out.is frames in
    record {
      clean = record {
        format = subst (λ (x : Format). is_format x ≡ true) (sym all.format) format;
        history = all.history;
        values = all.values;
        whole = ap (λ (k : ℕ). k % block_align r.outline.format) long ∙ whole;
        markers = ap (λ (k : ℕ). are_markers (k / block_align r.outline.format) [] r.outline.markers) long
            ∙ ap (λ (x : Format). are_markers (size / block_align x) [] r.outline.markers) all.format
            ∙ ap (are_markers (size / block_align f) []) all.markers
            ∙ markers_clean (size / block_align f) n.report.cues;
      };
      samples = all.samples_len ∙ sym long;
    }
