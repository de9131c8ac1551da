-- Rows of the same width, one after another.
use Rattle.std.proofs.Common.{◌≡◌, ℕ, zero, suc, ◌+◌, ◌*◌, ◌<◌, ◌≤◌, List, [], ◌∷◌, ◌++◌, Some, refl, sym, ◌∙◌, ap}
use Rattle.std.proofs.Common.{subst, Option, arith, add_assoc, add-zero, lit≤}
use Rattle.std.proofs.Math.Nat.{mul-zero, mul-suc, mul-le-mul_left}
use Rattle.std.specs.Prelude.{slice_range}
use Rattle.std.specs.Int.{w32, w64, from_le_bytes}
use Rattle.bw_model.specs.Bytes.{u32_at, u64_at}
use Rattle.bw_model.specs.Reading as reading
use Rattle.bw_model.specs.Report as report
use Rattle.bw_layout.specs.Raw.{raw_cue}
use Rattle.bw_layout.specs.Tables.{entry_at}
use Rattle.bw_inspect.specs.CueContents.{point_at}
use Rattle.bw_inspect.specs.Contents.{ReadTo}
use Rattle.bw_inspect.specs.RowLists.{HasRow, HasRows, rows_at}
use Rattle.bw_inspect.proofs.Contents.{read_as}
use Rattle.bw_inspect.proofs.PartialReads.{part_at}

-- a number in a part
u32_part : (c : List ℕ) (d n i : ℕ) → i + 4 ≤ n → u32_at (slice_range c d (d + n)) i ≡ u32_at c (d + i)
u32_part c d n i h = ap (from_le_bytes w32)
    (part_at c d n i (i + 4) (omega arith) h ∙ ap (λ (k : ℕ). slice_range c (d + i) k) (sym (add_assoc d i 4)))

u64_part : (c : List ℕ) (d n i : ℕ) → i + 8 ≤ n → u64_at (slice_range c d (d + n)) i ≡ u64_at c (d + i)
u64_part c d n i h = ap (from_le_bytes w64)
    (part_at c d n i (i + 8) (omega arith) h ∙ ap (λ (k : ℕ). slice_range c (d + i) k) (sym (add_assoc d i 8)))

-- the 24 bytes of a point
pub point_part : (c : List ℕ) (d : ℕ) → raw_cue (slice_range c d (d + 24)) ≡ point_at c d
point_part c d =
    let i = u32_part c d 24 0 (lit≤ tt) ∙ ap (u32_at c) (add-zero d) in
    let p = u32_part c d 24 4 (lit≤ tt) in
    let o = u32_part c d 24 20 (lit≤ tt) in
    cc

-- the 12 bytes of an entry
pub row_part : (c : List ℕ) (d : ℕ) → entry_at (slice_range c d (d + 12)) ≡ (reading.id_at c d, u64_at c (d + 4))
row_part c d =
    let i : slice_range (slice_range c d (d + 12)) 0 4 ≡ reading.id_at c d =
    part_at c d 12 0 4 (lit≤ tt) (lit≤ tt) ∙ ap (λ (k : ℕ). slice_range c k (d + 4)) (add-zero d) in
    let s = u64_part c d 12 4 (lit≤ tt) in
    cc

-- a row after the others
rows_at-suc : {X : Type 0} (reported : List ℕ → X) (width : ℕ) (c : List ℕ) (p n : ℕ) →
    rows_at reported width c p (suc n)
    ≡ rows_at reported width c p n ++ reported (slice_range c (p + width * n) (p + width * n + width)) ∷ []
rows_at-suc {X} reported width c p zero =
    let here : p ≡ p + width * zero = sym (ap (λ (k : ℕ). p + k) (mul-zero width) ∙ add-zero p) in
    ap (λ (k : ℕ). reported (slice_range c k (k + width)) ∷ []) here
rows_at-suc {X} reported width c p (suc n) =
    let more = mul-suc width n in
    let here : p + width + width * n ≡ p + width * suc n = omega arith in
    ap (λ (rest : List X). reported (slice_range c p (p + width)) ∷ rest)
    (rows_at-suc reported width c (p + width) n
    ∙ ap (λ (k : ℕ). rows_at reported width c (p + width) n ++ reported (slice_range c k (k + width)) ∷ []) here)

-- where the row after n others ends
pub row_end : (prefix width n : ℕ) → prefix + width * n + width ≡ prefix + width * (n + 1)
row_end prefix width n =
    let one : n + 1 ≡ suc n = omega arith in
    let more : width * (n + 1) ≡ width * n + width = ap (λ (k : ℕ). width * k) one ∙ mul-suc width n in
    omega arith

-- the row after n others is in the content, if all of them are
pub row_fits : (prefix width n count size : ℕ) → n < count → prefix + width * count ≤ size →
    prefix + width * (n + 1) ≤ size
row_fits prefix width n count size less fits =
    let next : n + 1 ≤ count = omega arith in
    let most = mul-le-mul_left width next in
    omega arith

-- the place of a row, by the width that the code has
pub stands_at : (b : List ℕ) (e e' : reading.Entry) (prefix width w n : ℕ) (left : Option (List ℕ)) → w ≡ width →
    e' ≡ e → ReadTo b e (prefix + width * n) left → ReadTo b e' (prefix + w * n) left
stands_at b e e' prefix width w n left q same r =
    subst (λ (k : ℕ). ReadTo b e' (prefix + k * n) left) (sym q) (read_as b e e' (prefix + width * n) left (sym same) r)

-- a row, by the width that the code has
pub row_at : {X : Type 0} (reported : List ℕ → X) (b : List ℕ) (e e' : reading.Entry) (prefix width w n : ℕ) (row : X)
    (left : Option (List ℕ)) → w ≡ width → e' ≡ e → HasRow reported width b e' (prefix + w * n) row left →
    HasRow reported width b e (prefix + width * n) row left
row_at reported b e e' prefix width w n row left q same r =
    subst (λ (x : reading.Entry). HasRow reported width b x (prefix + width * n) row left) same
    (subst (λ (k : ℕ). HasRow reported width b e' (prefix + k * n) row left) q r)

-- one row more was read
pub more_rows : {X : Type 0} (reported : List ℕ → X) (width : ℕ) (b : List ℕ) (e : reading.Entry) (prefix n : ℕ)
    (old new : List X) (x : X) (left left' : Option (List ℕ)) → HasRows reported width b e prefix n old left →
    HasRow reported width b e (prefix + width * n) x left' →
    new ≡ old ++ x ∷ [] → HasRows reported width b e prefix (n + 1) new left'
more_rows {X} reported width b e prefix n old new x left left' h r q =
    let content = report.content_of b (Some e) in
    let one : n + 1 ≡ suc n = omega arith in
    record {
      rows_are = q ∙ (ap (λ (z : List X). z ++ x ∷ []) h.rows_are
          ∙ (ap (λ (y : X). rows_at reported width content prefix n ++ y ∷ []) r.row_is
          ∙ (sym (rows_at-suc reported width content prefix n) ∙ ap (rows_at reported width content prefix) (sym one))));
      to = subst (λ (k : ℕ). ReadTo b e k left') (row_end prefix width n) r.to;
    }

-- the points of a `cue ` chunk, as rows
pub rows_points : (c : List ℕ) (p n : ℕ) → rows_at raw_cue 24 c p n ≡ report.raw_cues c p n
rows_points c p zero = refl
rows_points c p (suc n) =
    ap (λ (x : report.RawCue). x ∷ rows_at raw_cue 24 c (p + 24) n) (point_part c p)
    ∙ ap (λ (rest : List report.RawCue). point_at c p ∷ rest) (rows_points c (p + 24) n)

-- the entries of a `ds64` chunk, as rows
pub rows_table : (c : List ℕ) (p n : ℕ) → rows_at entry_at 12 c p n ≡ reading.table_at c p n
rows_table c p zero = refl
rows_table c p (suc n) =
    ap (λ (x : List ℕ × ℕ). x ∷ rows_at entry_at 12 c (p + 12) n) (row_part c p)
    ∙ ap (λ (rest : List (List ℕ × ℕ)). (reading.id_at c p, u64_at c (p + 4)) ∷ rest) (rows_table c (p + 12) n)
