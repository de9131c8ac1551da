-- What a take with joined chunks reads as.
use Rattle.std.proofs.Common.{◌≡◌, ◌∙◌, ℕ, ◌+◌, ◌^◌, ◌≤◌, ◌<◌, Bool, true, false, cond, List, [], ◌∷◌}
use Rattle.std.proofs.Common.{◌++◌, length, Option, Some, None, Result, Ok, refl, sym, ap, subst, arith}
use Rattle.std.specs.Prelude.{codes, not, min, nat_le, is_none, is_some, if◌then◌else◌}
use Rattle.std.specs.List.{filter, list_any}
use Rattle.std.proofs.lemmas.Bool.{and_parts, leb-true, not-true}
use Rattle.std.proofs.lemmas.List.{length-append, length-take}
use Rattle.std.proofs.lemmas.List.Sums.{sum_by-append}
use Rattle.bw_model.specs.Bytes.{even_up, u32_at}
use Rattle.bw_model.specs.Prefix.{AreSingle, EndsForm, StandFrom, StandsFirst, count_of}
use Rattle.bw_model.specs.Reading.{Entry, Fault, Form, IsReading, entry_of, form_end, id_at, is_id, largest, next_place}
use Rattle.bw_model.specs.Reading.{outer, single_ids}
use Rattle.bw_model.specs.Report.{content_of}
use Rattle.bw_model.proofs.EndLaws.{readings}
use Rattle.bw_model.proofs.PrefixLaws.{count-none, prefixes}
use Rattle.bw_repair.specs.Joined.{is_riff_id, joined_size, largest_of, resized}
use Rattle.bw_repair.specs.Joinings.{Joins}
use Rattle.bw_repair.specs.JoinLaws.{HasChunksOfBoth, JoinedFilesHaveBoth, JoinedFilesRead, ReadsAsJoined}
use Rattle.bw_repair.specs.JoinLaws.{joined_entries, joined_form, placed_after, placed_from}
use Rattle.bw_repair.specs.JoinLaws.{read_samples}
use Rattle.bw_repair.specs.LeftOut.{is_left_chunk, is_too_large, largest_riff, left_chunks, whole_lens}
use Rattle.bw_inspect.specs.Readings.{HasReading}
use Rattle.bw_repair.proofs.JoinedHeads.{IsResized, resized_is, resized_length}
use Rattle.bw_repair.proofs.JoinedLefts.{AllLeft, ArePlaced, left_of, none_counted, placed_all, placed_end}
use Rattle.bw_repair.proofs.JoinedLefts.{wholes_length}
use Rattle.bw_repair.proofs.JoinedOuters.{HasDs64, outer_ds64, outer_has, outer_resized}
use Rattle.bw_repair.proofs.JoinedTakes.{BeginsWithDs64, StandSame, all_same, begins, end_from, end_grows}
use Rattle.bw_repair.proofs.JoinedTakes.{same_contents, same_samples}
use Rattle.bw_repair.proofs.OneReading.{end_append, found_first, one_list, stand_append}

-- the pad byte of the last chunk may be absent
end_near : (b : List ℕ) (form : Form) (p : ℕ) (es : List Entry) → p ≤ length b + 1 → StandFrom b form p es →
    end_from p es ≤ length b + 1
end_near b form p [] near s = near
end_near b form p (e ∷ es) near s =
    let inside = s.1.in_bytes in
    end_near b form (e.place + 8 + even_up e.size) es (omega (arith, inside)) s.2

-- what a reading says of its bytes
record IsRead (b : List ℕ) (form : Form) (es : List Entry) : Type 0 where
  first : StandsFirst b form es
  ends : EndsForm form es
  four : length form.id ≡ 4
  low : 12 ≤ next_place es
  near : next_place es ≤ length b + 1
  wide : is_riff_id form.id ≡ false → HasDs64 b
  after : is_riff_id form.id ≡ false → 20 + u32_at b 16 ≤ next_place es

after_ds64 : (b text : List ℕ) (form : Form) (es : List Entry) → StandFrom b form 12 es →
    BeginsWithDs64 b text form 0 0 es → 20 + u32_at b 16 ≤ next_place es
after_ds64 b text form [] s begin = absurd begin
after_ds64 b text form (e ∷ es) s begin =
    let at : e.place ≡ 12 = s.0 in
    let size : e.size ≡ u32_at b 16 = begin.1 in
    let grows : e.place + 8 + even_up e.size ≤ end_from (e.place + 8 + even_up e.size) es =
    end_grows b form (e.place + 8 + even_up e.size) es s.2 in
    omega (arith, at, size, grows)

not_empty : (id : List ℕ) (es : List Entry) → count_of id es ≡ 1 → es ≡ [] → ⊥
not_empty id es one e =
    let none : count_of id es ≡ 0 = ap (count_of id) e in omega (arith, one, none)

is_read : (b : List ℕ) (r : HasReading b) → IsRead b r.form r.entries
is_read b r =
    let both = (readings b r.form r.entries).0 r.reads in
    let s = both.0 in
    let h = outer_has b r.form s.header in
    let there = h.there in
    let id : id_at b 0 ≡ r.form.id = ap (λ (f : Form). f.id) h.form_is in
    let named : length (id_at b 0) ≡ min 4 (length b) = length-take 4 b in
    let wide : is_riff_id r.form.id ≡ false → HasDs64 b =
    λ q. outer_ds64 b r.form s.header (ap (λ (z : List ℕ). is_id z (codes "RIFF")) id ∙ q) in
    record {
      first = s;
      ends = both.1;
      four = ap length (sym id) ∙ named ∙ omega (arith, there);
      low = end_grows b r.form 12 r.entries s.chunks;
      near = end_near b r.form 12 r.entries (omega (arith, there)) s.chunks;
      wide = wide;
      after = λ q.
          after_ds64 b b r.form r.entries s.chunks
          (begins b b r.form 0 0 r.entries (wide q) s.chunks (not_empty (codes "data") r.entries both.1.samples));
    }

-- a joined file
record IsJoined (t l text : List ℕ) (take : HasReading t) (left : HasReading l) : Type 0 where
  header : outer text ≡ Ok (joined_form take.form take.entries left.entries)
  stand : StandSame t text take.form (joined_size take.entries left.entries) (next_place take.entries) 12 take.entries
  others : AllLeft l (filter is_left_chunk left.entries)
  placed : ArePlaced text l (joined_form take.form take.entries left.entries) (next_place take.entries)
      (filter is_left_chunk left.entries)

bounded : (riff : Bool) (n : ℕ) → n ≤ (if riff then largest_riff else largest) → n < 2 ^ 64
bounded true n h = omega (arith, h)
bounded false n h = omega (arith, h)

narrow : (riff : Bool) (n : ℕ) → n ≤ (if riff then largest_riff else largest) → riff ≡ true → n < 2 ^ 32
narrow true n h e = omega (arith, h)
narrow false n h e = absurd (cc)

is_joined : (t l text : List ℕ) (joins : Joins t l text) → IsJoined t l text joins.take_reading joins.left_reading
is_joined t l text joins =
    let x = joins.take_reading in
    let y = joins.left_reading in
    let r = is_read t x in
    let id = x.form.id in
    let riff = is_riff_id id in
    let end = next_place x.entries in
    let es = filter is_left_chunk y.entries in
    let size = joined_size x.entries y.entries in
    let low : 12 ≤ end = r.low in
    let fit = and_parts (nat_le size (largest_of id)) (not (list_any is_too_large es)) joins.fits in
    let fits : size ≤ largest_of id = leb-true size (largest_of id) fit.0 in
    let small : list_any is_too_large es ≡ false = not-true (list_any is_too_large es) fit.1 in
    let others : AllLeft l es = left_of l y.form 12 y.entries ((readings l y.form y.entries).0 y.reads).0.chunks in
    let front = resized id size end t in
    let tail = left_chunks l y.entries in
    let some : riff ≡ false → 28 ≤ end =
    λ q. (let after : 20 + u32_at t 16 ≤ end = r.after q in let long = (r.wide q).long in omega (arith, after, long)) in
    let front_length : length front ≡ end = resized_length riff id t size end r.four r.near (omega (arith, low)) some in
    let tail_length : length tail ≡ whole_lens es = wholes_length l es others in
    let whole : length text ≡ length front + length tail = ap length joins.is ∙ length-append front tail in
    let sized : end + whole_lens es ≡ 8 + size = omega (arith, low) in
    let there : end ≤ length text = omega (arith, whole, front_length) in
    let in_form : end ≤ 8 + size = omega (arith, sized) in
    let same : IsResized t text id riff size end =
    subst (λ (z : List ℕ). IsResized t z id riff size end) (sym joins.is)
    (resized_is riff id t tail size end r.four r.near (narrow riff size fits)
    (λ q. (some q, bounded riff size fits))) in
    record {
      header = outer_resized t text x.form size end riff r.first.header same refl low there in_form fits r.after;
      stand = all_same t text x.form size end riff x.entries same r.first.chunks (omega arith) there in_form r.wide;
      others = others;
      placed = placed_all text l front (joined_form x.form x.entries y.entries) end es others small
          (sym front_length) joins.is (omega (arith, sized)) (omega (arith, whole, front_length, tail_length));
    }

-- what is counted is found
found : (id : List ℕ) (es : List Entry) → count_of id es ≡ 1 → is_none (entry_of id es) ≡ false
found id es one = go (entry_of id es) refl
  where
    go : (x : Option Entry) → entry_of id es ≡ x → is_none x ≡ false
    go None q = let none : count_of id es ≡ 0 = count-none id es (ap is_some q) in absurd (omega (arith, one, none))
    go (Some e) q = refl

-- a chunk that a file has once isn't among the joined ones
counted : (l : List ℕ) (p : ℕ) (es ds : List Entry) (id : List ℕ) → AllLeft l ds →
    list_any (is_id id) single_ids ≡ true → count_of id (es ++ placed_from p ds) ≡ count_of id es
counted l p es ds id a single =
    let none : count_of id (placed_from p ds) ≡ 0 = none_counted l p ds id a single in
    sum_by-append (λ (e : Entry). cond (is_id e.id id) 1 0) es (placed_from p ds)
    ∙ ap (λ (n : ℕ). count_of id es + n) none ∙ omega arith

module _ (t l text : List ℕ) (take : HasReading t) (left : HasReading l) where
  -- all chunks of the joined file
  abbrev all_of : List Entry
  all_of = joined_entries take.entries left.entries

  abbrev form_of : Form
  form_of = joined_form take.form take.entries left.entries

  -- they stand in it up to the form's end
  record FillsForm : Type 0 where
    chunks : StandFrom text form_of 12 all_of
    ends : form_end form_of < end_from 12 all_of + 8

  fills : IsRead t take.form take.entries → IsJoined t l text take left → FillsForm
  fills r j =
      let end = next_place take.entries in
      let low : 12 ≤ end = r.low in
      let es = filter is_left_chunk left.entries in
      let all : end_from 12 all_of ≡ end + whole_lens es =
      end_append 12 take.entries (placed_after take.entries left.entries) ∙ placed_end end es in
      record {
        chunks = stand_append text form_of 12 take.entries (placed_after take.entries left.entries)
            j.stand.chunks j.placed.chunks;
        ends = omega (arith, all, low);
      }

  keeps : IsRead t take.form take.entries → IsJoined t l text take left → HasChunksOfBoth t l text take left
  keeps r j = record {
    prefix = (prefixes text form_of take.entries).1
        (record { header = j.header; chunks = j.stand.chunks; single = r.first.single; few = r.first.few });
    kept = same_contents t text take.entries j.stand.same;
    added = j.placed.contents;
  }

  -- the chunks that a file has once
  single_stay : IsRead t take.form take.entries → IsJoined t l text take left → AreSingle all_of
  single_stay r j id single =
      subst (λ (n : ℕ). n ≤ 1)
      (sym (counted l (next_place take.entries) take.entries (filter is_left_chunk left.entries) id j.others single))
      (r.first.single id single)

  reads_all : IsRead t take.form take.entries → IsJoined t l text take left → length all_of ≤ 4096 →
      IsReading text form_of all_of
  reads_all r j few =
      let f = fills r j in
      let es = filter is_left_chunk left.entries in
      let end = next_place take.entries in
      (readings text form_of all_of).1 (
        record { header = j.header; chunks = f.chunks; single = single_stay r j; few = few },
        record {
          ends = f.ends;
          fmt = counted l end take.entries es (codes "fmt ") j.others refl ∙ r.ends.fmt;
          samples = counted l end take.entries es (codes "data") j.others refl ∙ r.ends.samples;
        },
      )

  -- no other chunks are read
  reads_them : IsRead t take.form take.entries → IsJoined t l text take left → (read : HasReading text) →
      read.entries ≡ all_of
  reads_them r j read =
      let f = fills r j in
      let both = (readings text read.form read.entries).0 read.reads in
      let same : read.form ≡ form_of = one_form (sym both.0.header ∙ j.header) in
      one_list text form_of 12 read.entries all_of
      (subst (λ (g : Form). StandFrom text g 12 read.entries) same both.0.chunks) f.chunks
      (subst (λ (g : Form). form_end g < end_from 12 read.entries + 8) same both.1.ends) f.ends
    where
      one_form : ◌≡◌ {A = Result Form Fault} (Ok read.form) (Ok form_of) → read.form ≡ form_of
      one_form e = cc

  reads : IsRead t take.form take.entries → IsJoined t l text take left → ReadsAsJoined t l text take left
  reads r j = record {
    reads = λ few. reads_all r j few;
    chunks_are = λ read. reads_them r j read;
    samples = λ read.
        ap (read_samples text) (reads_them r j read)
        ∙ ap (content_of text) (found_first (codes "data") take.entries (placed_after take.entries left.entries)
        (found (codes "data") take.entries r.ends.samples))
        ∙ same_samples t text take.entries j.stand.same;
  }

pub joined_files_have : JoinedFilesHaveBoth
joined_files_have t l text joins =
    keeps t l text joins.take_reading joins.left_reading (is_read t joins.take_reading) (is_joined t l text joins)

pub joined_files_read : JoinedFilesRead
joined_files_read t l text joins =
    reads t l text joins.take_reading joins.left_reading (is_read t joins.take_reading) (is_joined t l text joins)
