-- The fields of a `bext` chunk are read back.
use Rattle.std.proofs.Common.{◌≡◌, ℕ, ◌+◌, Bool, true, false, cond, List, [], ◌∷◌, ◌++◌, length, map, refl, ◌∙◌, ap}
use Rattle.std.proofs.Common.{arith, append_assoc, length-append}
use Rattle.std.specs.Prelude.{nat_le, slice_range}
use Rattle.std.specs.List.{concat}
use Rattle.std.specs.Int.{w16, w64, from_le_bytes}
use Rattle.std.proofs.lemmas.List.{append-nil}
use Rattle.bw_model.specs.Bytes.{le16, zeros, u16_at}
use Rattle.bw_model.specs.Layout.{bext_fixed}
use Rattle.bw_model.specs.Report.{RawBext}
use Rattle.bw_layout.specs.Raw.{bext_at}
use Rattle.bw_layout.specs.ReadBack.{FieldsReadBack}
use Rattle.bw_model.specs.ReadBack.{reported_bext}
use Rattle.bw_layout.proofs.JoinedRanges.{range_at_seam}
use Rattle.bw_layout.proofs.BextParts.{Widths, by_name, fixed, version_1}

-- the widths of all parts
record PartWidths (a b c d e t v u l z : List ℕ) : Type 0 where
  a-width : length a ≡ 256
  b-width : length b ≡ 32
  c-width : length c ≡ 32
  d-width : length d ≡ 10
  e-width : length e ≡ 8
  t-width : length t ≡ 8
  v-width : length v ≡ 2
  u-width : length u ≡ 64
  l-width : length l ≡ 10
  z-width : length z ≡ 180

-- each part is in its range
record Slices (a b c d e t v u l z bytes : List ℕ) : Type 0 where
  a-is : slice_range bytes 0 256 ≡ a
  b-is : slice_range bytes 256 288 ≡ b
  c-is : slice_range bytes 288 320 ≡ c
  d-is : slice_range bytes 320 330 ≡ d
  e-is : slice_range bytes 330 338 ≡ e
  t-is : slice_range bytes 338 346 ≡ t
  v-is : slice_range bytes 346 348 ≡ v
  u-is : slice_range bytes 348 412 ≡ u
  l-is : slice_range bytes 412 422 ≡ l
  z-is : slice_range bytes 422 602 ≡ z

slices : (a b c d e t v u l z q : List ℕ) → PartWidths a b c d e t v u l z →
    Slices a b c d e t v u l z (fixed [] a b c d e t v u l z q)
slices a b c d e t v u l z q w = record {
  a-is = part ([]) a (b ++ c ++ d ++ e ++ t ++ v ++ u ++ l ++ z ++ q) 0 256 refl w.a-width
      (simp (append_assoc, append-nil));
  b-is = part (a) b (c ++ d ++ e ++ t ++ v ++ u ++ l ++ z ++ q) 256 32 w.a-width w.b-width
      (simp (append_assoc, append-nil));
  c-is = part (a ++ b) c (d ++ e ++ t ++ v ++ u ++ l ++ z ++ q) 288 32 simp length-append
      (omega (arith, w.a-width, w.b-width)) w.c-width (simp (append_assoc, append-nil));
  d-is = part (a ++ b ++ c) d (e ++ t ++ v ++ u ++ l ++ z ++ q) 320 10 simp length-append
      (omega (arith, w.a-width, w.b-width, w.c-width)) w.d-width (simp (append_assoc, append-nil));
  e-is = part (a ++ b ++ c ++ d) e (t ++ v ++ u ++ l ++ z ++ q) 330 8 simp length-append
      (omega (arith, w.a-width, w.b-width, w.c-width, w.d-width)) w.e-width (simp (append_assoc, append-nil));
  t-is = part (a ++ b ++ c ++ d ++ e) t (v ++ u ++ l ++ z ++ q) 338 8 simp length-append
      (omega (arith, w.a-width, w.b-width, w.c-width, w.d-width, w.e-width)) w.t-width
      (simp (append_assoc, append-nil));
  v-is = part (a ++ b ++ c ++ d ++ e ++ t) v (u ++ l ++ z ++ q) 346 2 simp length-append
      (omega (arith, w.a-width, w.b-width, w.c-width, w.d-width, w.e-width, w.t-width)) w.v-width
      (simp (append_assoc, append-nil));
  u-is = part (a ++ b ++ c ++ d ++ e ++ t ++ v) u (l ++ z ++ q) 348 64 simp length-append
      (omega (arith, w.a-width, w.b-width, w.c-width, w.d-width, w.e-width, w.t-width, w.v-width)) w.u-width
      (simp (append_assoc, append-nil));
  l-is = part (a ++ b ++ c ++ d ++ e ++ t ++ v ++ u) l (z ++ q) 412 10 simp length-append
      (omega (arith, w.a-width, w.b-width, w.c-width, w.d-width, w.e-width, w.t-width, w.v-width, w.u-width)) w.l-width
      (simp (append_assoc, append-nil));
  z-is = part (a ++ b ++ c ++ d ++ e ++ t ++ v ++ u ++ l) z (q) 422 180 simp length-append
      (omega (arith, w.a-width, w.b-width, w.c-width, w.d-width, w.e-width, w.t-width, w.v-width, w.u-width, w.l-width))
      w.z-width (simp (append_assoc, append-nil));
}
  where
    part : (before x following : List ℕ) (place count : ℕ) → length before ≡ place → length x ≡ count →
        fixed [] a b c d e t v u l z q ≡ before ++ (x ++ following) →
        slice_range (fixed [] a b c d e t v u l z q) place (place + count) ≡ x
    part before x following place count p k is =
        ap (λ (bytes : List ℕ). slice_range bytes place (place + count)) is
        ∙ range_at_seam before x following place count p k

-- the five parts of the loudness are in theirs
record Levels (g h i j k bytes : List ℕ) : Type 0 where
  g-is : slice_range bytes 412 414 ≡ g
  h-is : slice_range bytes 414 416 ≡ h
  i-is : slice_range bytes 416 418 ≡ i
  j-is : slice_range bytes 418 420 ≡ j
  k-is : slice_range bytes 420 422 ≡ k

levels_at_412 : (x g h i j k q : List ℕ) → length x ≡ 412 → length g ≡ 2 → length h ≡ 2 → length i ≡ 2 →
    length j ≡ 2 → length k ≡ 2 → Levels g h i j k (x ++ ((g ++ (h ++ (i ++ (j ++ (k ++ []))))) ++ q))
levels_at_412 x g h i j k q lx lg lh li lj lk = record {
  g-is = part x g (h ++ i ++ j ++ k ++ q) 412 lx lg (simp (append_assoc, append-nil));
  h-is = part (x ++ g) h (i ++ j ++ k ++ q) 414 (simp length-append (omega arith)) lh (simp (append_assoc, append-nil));
  i-is = part (x ++ g ++ h) i (j ++ k ++ q) 416 (simp length-append (omega arith)) li (simp (append_assoc, append-nil));
  j-is = part (x ++ g ++ h ++ i) j (k ++ q) 418 (simp length-append (omega arith)) lj (simp (append_assoc, append-nil));
  k-is = part (x ++ g ++ h ++ i ++ j) k q 420 (simp length-append (omega arith)) lk (simp (append_assoc, append-nil));
}
  where
    whole : List ℕ
    whole = x ++ ((g ++ (h ++ (i ++ (j ++ (k ++ []))))) ++ q)

    part : (before y following : List ℕ) (place : ℕ) → length before ≡ place → length y ≡ 2 →
        whole ≡ before ++ (y ++ following) → slice_range whole place (place + 2) ≡ y
    part before y following place p l is =
        ap (λ (bytes : List ℕ). slice_range bytes place (place + 2)) is ∙ range_at_seam before y following place 2 p l

same_five : (g g' h h' i i' j j' k k' : ℕ) → g ≡ g' → h ≡ h' → i ≡ i' → j ≡ j' → k ≡ k' →
    g ∷ h ∷ i ∷ j ∷ k ∷ [] ≡ g' ∷ h' ∷ i' ∷ j' ∷ k' ∷ []
same_five g g' h h' i i' j j' k k' ge he ie je ke = cc

same_reported : (a a' b b' c c' d d' e e' u u' l l' z z' : List ℕ) (t t' v v' : ℕ) → a ≡ a' → b ≡ b' → c ≡ c' → d
    ≡ d' →
    e ≡ e' → t ≡ t' → v ≡ v' → u ≡ u' → l ≡ l' → z ≡ z' →
    (let left : RawBext × List ℕ =
    (record { texts = a ∷ b ∷ c ∷ d ∷ e ∷ []; time = t; version = v; umid = u; loudness = l }, z) in left)
    ≡ (let right : RawBext × List ℕ =
    (record { texts = a' ∷ b' ∷ c' ∷ d' ∷ e' ∷ []; time = t'; version = v'; umid = u'; loudness = l' }, z') in right)
same_reported a a' b b' c c' d d' e e' u u' l l' z z' t t' v v' ae be ce de ee te ve ue le ze = cc

-- the bytes of a chunk of version 1 or 2, with these five numbers
abbrev chunk_of : (a b c d e t u g h i j k q : List ℕ) → Bool → List ℕ
chunk_of a b c d e t u g h i j k q v =
    fixed [] a b c d e t (cond v (le16 1) (le16 2)) u (cond v (zeros 10) (concat (g ∷ h ∷ i ∷ j ∷ k ∷ [])))
    (zeros 180) q

abbrev numbers : List ℕ → List ℕ
numbers x = u16_at x 412 ∷ u16_at x 414 ∷ u16_at x 416 ∷ u16_at x 418 ∷ u16_at x 420 ∷ []

to_levels : (a b c d e t v u l z q : List ℕ) →
    fixed [] a b c d e t v u l z q ≡ (a ++ b ++ c ++ d ++ e ++ t ++ v ++ u) ++ (l ++ (z ++ q))
to_levels a b c d e t v u l z q = simp (append_assoc, append-nil)

-- the widths of its parts, by those of the version and of what is at the place of the levels
part_widths : (a b c d e t v u l : List ℕ) (levels : List (List ℕ)) → Widths a b c d e t u levels → length v ≡ 2 →
    length l ≡ 10 → PartWidths a b c d e t v u l (zeros 180)
part_widths a b c d e t v u l levels w v_width l_width = record {
  a-width = w.a-width;
  b-width = w.b-width;
  c-width = w.c-width;
  d-width = w.d-width;
  e-width = w.e-width;
  t-width = w.t-width;
  v-width = v_width;
  u-width = w.u-width;
  l-width = l_width;
  z-width = refl;
}

-- if its parts are known, what it says is known
reported : (a b c d e t u g h i j k q : List ℕ) (v : Bool) → Widths a b c d e t u (g ∷ h ∷ i ∷ j ∷ k ∷ []) →
    bext_at (chunk_of a b c d e t u g h i j k q v)
    ≡ (let right : RawBext × List ℕ = (
      record {
        texts = a ∷ b ∷ c ∷ d ∷ e ∷ [];
        time = from_le_bytes w64 t;
        version = cond v 1 2;
        umid = u;
        loudness = cond v [] (map (from_le_bytes w16) (g ∷ h ∷ i ∷ j ∷ k ∷ []));
      },
      zeros 180,
    ) in right)
reported a b c d e t u g h i j k q true w =
    let x = chunk_of a b c d e t u g h i j k q true in
    let parts = part_widths a b c d e t (le16 1) u (zeros 10) _ w refl refl in
    let s = slices a b c d e t (le16 1) u (zeros 10) (zeros 180) q parts in
    let version : u16_at x 346 ≡ 1 = ap (from_le_bytes w16) s.v-is in
    same_reported _ a _ b _ c _ d _ e _ u _ [] _ (zeros 180) _ (from_le_bytes w64 t) _ 1 s.a-is s.b-is s.c-is s.d-is s.e-is
    (ap (from_le_bytes w64) s.t-is) version s.u-is
    (ap (λ (n : ℕ). cond (nat_le 2 n) (numbers x) []) version) s.z-is
reported a b c d e t u g h i j k q false w =
    let x = chunk_of a b c d e t u g h i j k q false in
    let l = g ++ (h ++ (i ++ (j ++ (k ++ [])))) in
    let lg : length g ≡ 2 = cc (w.level-widths) in
    let lh : length h ≡ 2 = cc (w.level-widths) in
    let li : length i ≡ 2 = cc (w.level-widths) in
    let lj : length j ≡ 2 = cc (w.level-widths) in
    let lk : length k ≡ 2 = cc (w.level-widths) in
    let parts = part_widths a b c d e t (le16 2) u l _ w refl (simp length-append (omega arith)) in
    let s = slices a b c d e t (le16 2) u l (zeros 180) q parts in
    let version : u16_at x 346 ≡ 2 = ap (from_le_bytes w16) s.v-is in
    let before = a ++ b ++ c ++ d ++ e ++ t ++ le16 2 ++ u in
    let whole : x ≡ before ++ (l ++ (zeros 180 ++ q)) = to_levels a b c d e t (le16 2) u l (zeros 180) q in
    let place : length before ≡ 412 =
    simp length-append (omega
    (arith, w.a-width, w.b-width, w.c-width, w.d-width, w.e-width, w.t-width, w.u-width)) in
    let n = levels_at_412 before g h i j k (zeros 180 ++ q) place lg lh li lj lk in
    let at : (from to : ℕ) (y : List ℕ) → slice_range (before ++ (l ++ (zeros 180 ++ q))) from to ≡ y →
    from_le_bytes w16 (slice_range x from to) ≡ from_le_bytes w16 y =
    λ from to y is. ap (λ (bytes : List ℕ). from_le_bytes w16 (slice_range bytes from to)) whole
    ∙ ap (from_le_bytes w16) is in
    same_reported _ a _ b _ c _ d _ e _ u _ (map (from_le_bytes w16) (g ∷ h ∷ i ∷ j ∷ k ∷ [])) _ (zeros 180) _
    (from_le_bytes w64 t) _ 2 s.a-is s.b-is s.c-is s.d-is s.e-is (ap (from_le_bytes w64) s.t-is) version s.u-is
    (ap (λ (n : ℕ). cond (nat_le 2 n) (numbers x) []) version
    ∙ same_five _ (from_le_bytes w16 g) _ (from_le_bytes w16 h) _ (from_le_bytes w16 i) _ (from_le_bytes w16 j) _
    (from_le_bytes w16 k)
    (at 412 414 g n.g-is) (at 414 416 h n.h-is) (at 416 418 i n.i-is) (at 418 420 j n.j-is) (at 420 422 k n.k-is))
    s.z-is

pub fields_read_back : FieldsReadBack
fields_read_back fields rest h =
    by_name (λ fs. bext_at (bext_fixed fs ++ rest) ≡ (reported_bext fs, zeros 180)) named fields h
  where
    named : (a b c d e t u : List ℕ) (levels : List (List ℕ)) → Widths a b c d e t u levels →
        bext_at (bext_fixed (a ∷ b ∷ c ∷ d ∷ e ∷ t ∷ u ∷ levels) ++ rest)
        ≡ (reported_bext (a ∷ b ∷ c ∷ d ∷ e ∷ t ∷ u ∷ levels), zeros 180)
    named a b c d e t u (g ∷ h ∷ i ∷ j ∷ k ∷ []) w =
        reported a b c d e t u g h i j k rest (version_1 (g ∷ h ∷ i ∷ j ∷ k ∷ [])) w
    named a b c d e t u [] w = cc (w.level-widths)
    named a b c d e t u (g ∷ []) w = cc (w.level-widths)
    named a b c d e t u (g ∷ h ∷ []) w = cc (w.level-widths)
    named a b c d e t u (g ∷ h ∷ i ∷ []) w = cc (w.level-widths)
    named a b c d e t u (g ∷ h ∷ i ∷ j ∷ []) w = cc (w.level-widths)
    named a b c d e t u (g ∷ h ∷ i ∷ j ∷ k ∷ m ∷ more) w = cc (w.level-widths)
