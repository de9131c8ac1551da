-- A take with chunks as sections of its file and of another.
use Rattle.std.proofs.Common.{◌≡◌, ◌∙◌, ℕ, zero, suc, ◌+◌, ◌-◌, ◌^◌, ◌≤◌, Bool, true, false, List, [], ◌∷◌, ◌++◌}
use Rattle.std.proofs.Common.{take, drop, Some, None, refl, sym, ap, arith}
use Rattle.std.specs.Prelude.{flat_map, fold, if◌then◌else◌, slice_range}
use Rattle.std.specs.List.{filter}
use Rattle.std.proofs.lemmas.List.{append_assoc, append-nil}
use Rattle.std.proofs.Math.Seq.{drop-nil}
use Rattle.bw_model.specs.Bytes.{even_up, le32, le64, unsaid}
use Rattle.bw_model.specs.Reading.{Entry, form_end, next_place}
use Rattle.bw_inspect.specs.declared.report.Report.{Report}
use Rattle.bw_repair.specs.ChunkSections.{capped, chunk_sections, total_of}
use Rattle.bw_repair.specs.Joined.{fits_take, is_riff_id, joined_size, largest_of, resized}
use Rattle.bw_repair.specs.Joinings.{Joins}
use Rattle.bw_repair.specs.JoinSections.{AreSections, take_end, take_sections}
use Rattle.bw_repair.specs.LeftOut.{chunk_whole, chunks_fit, is_left_chunk, left_chunks, whole_lens}
use Rattle.bw_repair.specs.ReadReports.{HasChunkReport}
use Rattle.bw_repair.specs.SectionBytes.{assembled, padded_range}
use Rattle.bw_repair.specs.declared.left_out.section.Section.{Section}
use Rattle.bw_repair.proofs.LeftFiles.{apart}
use Rattle.bw_repair.proofs.LeftLaws.{Apart, chunks_are, earlier, filtered}

-- no total: they don't fit
pub unfit_by : (most most' others others' : ℕ) (es es' : List Entry) → most ≡ most' → others ≡ others' → es ≡ es' →
    None ≡ total_of most others es → chunks_fit most' others' es' ≡ false
unfit_by most most' others others' es es' m o e none =
    sym (ap (λ (x : ℕ). chunks_fit x others es) m ∙ ap (λ (x : ℕ). chunks_fit most' x es) o ∙ ap (chunks_fit most' others') e)
    ∙ go (chunks_fit most others es) none
  where
    go : (v : Bool) → None ≡ (if v then Some (others + whole_lens es) else None) → v ≡ false
    go true h = absurd (cc)
    go false h = refl

-- a zero byte after what is left
drop_pad : (k m : ℕ) (t : List ℕ) → 1 ≤ m → drop m (drop k t ++ 0 ∷ []) ≡ drop (k + m) (t ++ 0 ∷ [])
drop_pad zero m t h = let same : m ≡ 0 + m = omega arith in ap (λ (j : ℕ). drop j (t ++ 0 ∷ [])) same
drop_pad (suc k) zero t h = absurd (omega (arith, h))
drop_pad (suc k) (suc m) [] h =
    let more : suc (k + suc m) ≡ suc k + suc m = omega arith in
    drop-nil m ∙ sym (drop-nil (k + suc m)) ∙ ap (λ (j : ℕ). drop j (0 ∷ [])) more
drop_pad (suc k) (suc m) (x ∷ t) h =
    let more : suc (k + suc m) ≡ suc k + suc m = omega arith in
    drop_pad k (suc m) t h ∙ ap (λ (j : ℕ). drop j (x ∷ (t ++ 0 ∷ []))) more

-- the take's sections are the take with this size
take_are : (id : List ℕ) (size end : ℕ) (t : List ℕ) → assembled (take_sections id size end) t ≡ resized id size end t
take_are id size end t = go (is_riff_id id)
  where
    go : (v : Bool) →
        assembled (if v then record { front = id ++ le32 size; gap = 8; size = end - 8 } ∷ []
        else record { front = id ++ le32 unsaid; gap = 8; size = 12 }
        ∷ record { front = le64 size; gap = 8; size = end - 28 } ∷ []) t
        ≡ (if v then id ++ le32 size ++ slice_range (t ++ 0 ∷ []) 8 end
        else id ++ le32 unsaid ++ slice_range (t ++ 0 ∷ []) 8 20 ++ le64 size ++ slice_range (t ++ 0 ∷ []) 28 end)
    go true = ap (λ (z : List ℕ). (id ++ le32 size) ++ z) (append-nil (slice_range (t ++ 0 ∷ []) 8 end))
    go false =
        let head = id ++ le32 unsaid in
        let mid = slice_range (t ++ 0 ∷ []) 8 20 in
        let last : padded_range 8 (end - 28) (drop 20 t) ++ [] ≡ slice_range (t ++ 0 ∷ []) 28 end =
        append-nil (padded_range 8 (end - 28) (drop 20 t)) ∙ ap (take (end - 28)) (drop_pad 20 8 t (omega arith)) in
        ap (λ (z : List ℕ). head ++ (mid ++ (le64 size ++ z))) last
        ∙ sym (append_assoc head mid (le64 size ++ slice_range (t ++ 0 ∷ []) 28 end))
        ∙ sym (append_assoc (head ++ mid) (le64 size) (slice_range (t ++ 0 ∷ []) 28 end))

-- where chunks end that are whole, each after the one before
ends_near : (b : List ℕ) (p : ℕ) (es : List Entry) → p ≤ 16 + 2 ^ 62 → Apart b p es →
    fold (λ (q : ℕ) (e : Entry). e.place + 8 + even_up e.size) p es ≤ 16 + 2 ^ 62
ends_near b p [] h a = h
ends_near b p (e ∷ es) h a =
    let near : e.place + 8 + e.size ≤ 8 + 2 ^ 62 = a.2 in
    ends_near b (e.place + 8 + even_up e.size) es (omega (arith, near)) a.4

end_is : (b : List ℕ) (r : Report) (has : HasChunkReport b r) → take_end r ≡ next_place has.reading_is.entries
end_is b r has =
    let x = has.reading_is in
    let small : x.form.size ≤ 2 ^ 62 = has.small in
    let near : form_end x.form ≤ 8 + 2 ^ 62 = omega (arith, small) in
    let within : next_place x.entries ≤ 16 + 2 ^ 62 =
    ends_near b 12 x.entries (omega arith) (apart b x near) in
    ap (λ (es : List Entry). capped (next_place es)) has.chunks_are ∙ omega (arith, within)

-- the sections of both files are the take with the chunks
pub joins : (t l : List ℕ) (first second : Report) (ss ts : List Section) → HasChunkReport t first → HasChunkReport l second →
    AreSections first second ss ts → Joins t l (assembled ss t ++ assembled ts l)
joins t l first second ss ts a b are =
    let x = a.reading_is in
    let y = b.reading_is in
    let small : y.form.size ≤ 2 ^ 62 = b.small in
    let near : form_end y.form ≤ 8 + 2 ^ 62 = omega (arith, small) in
    let es = filter is_left_chunk y.entries in
    let left : filter is_left_chunk second.chunks ≡ es = ap (filter is_left_chunk) b.chunks_are in
    let end = end_is t first a in
    let sized : take_end first - 8 + whole_lens (filter is_left_chunk second.chunks) ≡ joined_size x.entries y.entries =
    ap (λ (n : ℕ). n - 8 + whole_lens (filter is_left_chunk second.chunks)) end
    ∙ ap (λ (ds : List Entry). next_place x.entries - 8 + whole_lens ds) left in
    let head : assembled ss t ≡ resized x.form.id (joined_size x.entries y.entries) (next_place x.entries) t =
    ap (λ (z : List Section). assembled z t) are.first_is
    ∙ take_are first.form _ (take_end first) t
    ∙ ap (λ (n : ℕ). resized first.form n (take_end first) t) sized
    ∙ ap (λ (n : ℕ). resized first.form (joined_size x.entries y.entries) n t) end
    ∙ ap (λ (i : List ℕ). resized i (joined_size x.entries y.entries) (next_place x.entries) t) a.form_is in
    let whole : assembled (chunk_sections 0 es ++ []) l ≡ flat_map (chunk_whole l) es ++ [] =
    chunks_are l 0 es [] [] (earlier l 0 12 es (omega arith) (filtered is_left_chunk l 12 y.entries (apart l y near)))
    (λ z. refl) in
    let tail : assembled ts l ≡ left_chunks l y.entries =
    ap (λ (z : List Section). assembled z l) (are.second_is ∙ ap (chunk_sections 0) left)
    ∙ ap (λ (z : List Section). assembled z l) (sym (append-nil (chunk_sections 0 es))) ∙ whole
    ∙ append-nil (flat_map (chunk_whole l) es) in
    record {
      take_reading = x;
      left_reading = y;
      fits = sym (ap (λ (i : List ℕ). chunks_fit (largest_of i) (take_end first - 8) (filter is_left_chunk second.chunks)) a.form_is
          ∙ ap (λ (n : ℕ). chunks_fit (largest_of x.form.id) (n - 8) (filter is_left_chunk second.chunks)) end
          ∙ ap (chunks_fit (largest_of x.form.id) (next_place x.entries - 8)) left) ∙ are.fit;
      is = ap (λ (z : List ℕ). z ++ assembled ts l) head
          ∙ ap (λ (z : List ℕ). resized x.form.id (joined_size x.entries y.entries) (next_place x.entries) t ++ z) tail;
    }

-- .. or don't fit
pub unfit_to_join : (t l : List ℕ) (first second : Report) (a : HasChunkReport t first) (b : HasChunkReport l second) →
    chunks_fit (largest_of first.form) (take_end first - 8) (filter is_left_chunk second.chunks) ≡ false →
    fits_take a.reading_is.form.id a.reading_is.entries b.reading_is.entries ≡ false
unfit_to_join t l first second a b h =
    let x = a.reading_is in
    let end = end_is t first a in
    sym (ap (λ (i : List ℕ). chunks_fit (largest_of i) (take_end first - 8) (filter is_left_chunk second.chunks)) a.form_is
    ∙ ap (λ (n : ℕ). chunks_fit (largest_of x.form.id) (n - 8) (filter is_left_chunk second.chunks)) end
    ∙ ap (λ (ds : List Entry). chunks_fit (largest_of x.form.id) (next_place x.entries - 8) (filter is_left_chunk ds)) b.chunks_are)
    ∙ h
