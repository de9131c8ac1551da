-- What is read from the content of `bext` is what was written into it.
use Rattle.std.proofs.Common.{◌≡◌, ℕ, ◌+◌, Bool, true, false, cond, List, [], ◌∷◌, ◌++◌, length, take, drop, refl, sym}
use Rattle.std.proofs.Common.{◌∙◌, ap, arith, append_assoc}
use Rattle.std.specs.Prelude.{map, slice_range, slice_index_or, nat_le}
use Rattle.std.specs.List.{concat, sum}
use Rattle.std.specs.Int.{w16, w64, from_le_bytes}
use Rattle.std.proofs.lemmas.List.{append-nil}
use Rattle.std.proofs.lemmas.List.Folds.{concat-append}
use Rattle.bw_model.specs.Bytes.{u16_at, le16, zeros}
use Rattle.bw_model.specs.Take.{AreFields}
use Rattle.bw_model.specs.Layout.{bext_fixed, is_version_1}
use Rattle.bw_model.specs.Report.{RawBext, raw_bext}
use Rattle.bw_model.specs.ReadBack.{reported_bext}
use Rattle.bw_model.proofs.Widths.{length-concat}
use Rattle.bw_model.proofs.StandingChunks.{range-whole}

-- a part of joined lists, after the parts before it
part : (before : List (List ℕ)) (x : List ℕ) (following : List (List ℕ)) (p n : ℕ) → sum (map length before) ≡ p →
    length x ≡ n → slice_range (concat (before ++ x ∷ following)) p (p + n) ≡ x
part before x following p n place l =
    ap (λ (z : List ℕ). slice_range z p (p + n)) (concat-append before (x ∷ following))
    ∙ range-whole (concat before) x (concat following) p n (sym (length-concat before ∙ place)) (sym l)

-- the k-th of these widths, and the sum of those before it
width_of : (ws vs : List ℕ) (k : ℕ) → ws ≡ vs → slice_index_or ws k 0 ≡ slice_index_or vs k 0
width_of ws vs k e = ap (λ (z : List ℕ). slice_index_or z k 0) e

widths_to : (ws vs : List ℕ) (k : ℕ) → ws ≡ vs → sum (take k ws) ≡ sum (take k vs)
widths_to ws vs k e = ap (λ (z : List ℕ). sum (take k z)) e

abbrev prefix_widths : List ℕ
prefix_widths = 256 ∷ 32 ∷ 32 ∷ 10 ∷ 8 ∷ 8 ∷ 2 ∷ 64 ∷ []

-- the five levels, if the version has them
abbrev levels_of : List ℕ → List ℕ
levels_of c = cond (nat_le 2 (u16_at c 346))
    (u16_at c 412 ∷ u16_at c 414 ∷ u16_at c 416 ∷ u16_at c 418 ∷ u16_at c 420 ∷ []) []

-- what is read up to the UMID
raw-prefix : (a b c d e f v g : List ℕ) (following : List (List ℕ)) →
    length a ∷ length b ∷ length c ∷ length d ∷ length e ∷ length f ∷ length v ∷ length g ∷ [] ≡ prefix_widths →
    raw_bext (concat (a ∷ b ∷ c ∷ d ∷ e ∷ f ∷ v ∷ g ∷ following))
    ≡ record {
      texts = a ∷ b ∷ c ∷ d ∷ e ∷ [];
      time = from_le_bytes w64 f;
      version = from_le_bytes w16 v;
      umid = g;
      loudness = levels_of (concat (a ∷ b ∷ c ∷ d ∷ e ∷ f ∷ v ∷ g ∷ following));
    }
raw-prefix a b c d e f v g following h =
    ap (λ (x : List ℕ). made x (at 256 32) (at 288 32) (at 320 10) (at 330 8) (at 338 8) (at 346 2) (at 348 64))
    (part [] a (b ∷ c ∷ d ∷ e ∷ f ∷ v ∷ g ∷ following) 0 256 refl (width 0))
    ∙ ap (λ (x : List ℕ). made a x (at 288 32) (at 320 10) (at 330 8) (at 338 8) (at 346 2) (at 348 64))
    (part (a ∷ []) b (c ∷ d ∷ e ∷ f ∷ v ∷ g ∷ following) 256 32 (before 1) (width 1))
    ∙ ap (λ (x : List ℕ). made a b x (at 320 10) (at 330 8) (at 338 8) (at 346 2) (at 348 64))
    (part (a ∷ b ∷ []) c (d ∷ e ∷ f ∷ v ∷ g ∷ following) 288 32 (before 2) (width 2))
    ∙ ap (λ (x : List ℕ). made a b c x (at 330 8) (at 338 8) (at 346 2) (at 348 64))
    (part (a ∷ b ∷ c ∷ []) d (e ∷ f ∷ v ∷ g ∷ following) 320 10 (before 3) (width 3))
    ∙ ap (λ (x : List ℕ). made a b c d x (at 338 8) (at 346 2) (at 348 64))
    (part (a ∷ b ∷ c ∷ d ∷ []) e (f ∷ v ∷ g ∷ following) 330 8 (before 4) (width 4))
    ∙ ap (λ (x : List ℕ). made a b c d e x (at 346 2) (at 348 64))
    (part (a ∷ b ∷ c ∷ d ∷ e ∷ []) f (v ∷ g ∷ following) 338 8 (before 5) (width 5))
    ∙ ap (λ (x : List ℕ). made a b c d e f x (at 348 64))
    (part (a ∷ b ∷ c ∷ d ∷ e ∷ f ∷ []) v (g ∷ following) 346 2 (before 6) (width 6))
    ∙ ap (λ (x : List ℕ). made a b c d e f v x)
    (part (a ∷ b ∷ c ∷ d ∷ e ∷ f ∷ v ∷ []) g following 348 64 (before 7) (width 7))
  where
    ws : List ℕ
    ws = length a ∷ length b ∷ length c ∷ length d ∷ length e ∷ length f ∷ length v ∷ length g ∷ []

    whole : List ℕ
    whole = concat (a ∷ b ∷ c ∷ d ∷ e ∷ f ∷ v ∷ g ∷ following)

    at : ℕ → ℕ → List ℕ
    at p n = slice_range whole p (p + n)

    width : (k : ℕ) → slice_index_or ws k 0 ≡ slice_index_or prefix_widths k 0
    width k = width_of ws prefix_widths k h

    before : (k : ℕ) → sum (take k ws) ≡ sum (take k prefix_widths)
    before k = widths_to ws prefix_widths k h

    made : List ℕ → List ℕ → List ℕ → List ℕ → List ℕ → List ℕ → List ℕ → List ℕ → RawBext
    made a b c d e f v g = record {
      texts = a ∷ b ∷ c ∷ d ∷ e ∷ [];
      time = from_le_bytes w64 f;
      version = from_le_bytes w16 v;
      umid = g;
      loudness = levels_of whole;
    }

version_said : (a b c d e f v g : List ℕ) (following : List (List ℕ)) →
    length a ∷ length b ∷ length c ∷ length d ∷ length e ∷ length f ∷ length v ∷ length g ∷ [] ≡ prefix_widths →
    u16_at (concat (a ∷ b ∷ c ∷ d ∷ e ∷ f ∷ v ∷ g ∷ following)) 346 ≡ from_le_bytes w16 v
version_said a b c d e f v g following h = ap (λ (r : RawBext). r.version) (raw-prefix a b c d e f v g following h)

abbrev all_widths : List ℕ
all_widths = 256 ∷ 32 ∷ 32 ∷ 10 ∷ 8 ∷ 8 ∷ 2 ∷ 64 ∷ 2 ∷ 2 ∷ 2 ∷ 2 ∷ 2 ∷ []

-- the five levels of version 2
levels-read : (a b c d e f g h i j k l : List ℕ) (following : List (List ℕ)) →
    length a ∷ length b ∷ length c ∷ length d ∷ length e ∷ length f ∷ 2 ∷ length g ∷ length h ∷ length i ∷ length j
    ∷ length k ∷ length l ∷ [] ≡ all_widths →
    levels_of (concat (a ∷ b ∷ c ∷ d ∷ e ∷ f ∷ le16 2 ∷ g ∷ h ∷ i ∷ j ∷ k ∷ l ∷ following))
    ≡ map (from_le_bytes w16) (h ∷ i ∷ j ∷ k ∷ l ∷ [])
levels-read a b c d e f g h i j k l following w =
    ap (λ (n : ℕ). cond (nat_le 2 n) (levels (at 412) (at 414) (at 416) (at 418) (at 420)) [])
    (version_said a b c d e f (le16 2) g (h ∷ i ∷ j ∷ k ∷ l ∷ following) (ap (take 8) w))
    ∙ ap (λ (x : List ℕ). levels x (at 414) (at 416) (at 418) (at 420))
    (part (a ∷ b ∷ c ∷ d ∷ e ∷ f ∷ le16 2 ∷ g ∷ []) h (i ∷ j ∷ k ∷ l ∷ following) 412 2 (before 8) (width 8))
    ∙ ap (λ (x : List ℕ). levels h x (at 416) (at 418) (at 420))
    (part (a ∷ b ∷ c ∷ d ∷ e ∷ f ∷ le16 2 ∷ g ∷ h ∷ []) i (j ∷ k ∷ l ∷ following) 414 2 (before 9) (width 9))
    ∙ ap (λ (x : List ℕ). levels h i x (at 418) (at 420))
    (part (a ∷ b ∷ c ∷ d ∷ e ∷ f ∷ le16 2 ∷ g ∷ h ∷ i ∷ []) j (k ∷ l ∷ following) 416 2 (before 10) (width 10))
    ∙ ap (λ (x : List ℕ). levels h i j x (at 420))
    (part (a ∷ b ∷ c ∷ d ∷ e ∷ f ∷ le16 2 ∷ g ∷ h ∷ i ∷ j ∷ []) k (l ∷ following) 418 2 (before 11) (width 11))
    ∙ ap (λ (x : List ℕ). levels h i j k x)
    (part (a ∷ b ∷ c ∷ d ∷ e ∷ f ∷ le16 2 ∷ g ∷ h ∷ i ∷ j ∷ k ∷ []) l following 420 2 (before 12) (width 12))
  where
    ws : List ℕ
    ws = length a ∷ length b ∷ length c ∷ length d ∷ length e ∷ length f ∷ 2 ∷ length g ∷ length h ∷ length i
        ∷ length j ∷ length k ∷ length l ∷ []

    whole : List ℕ
    whole = concat (a ∷ b ∷ c ∷ d ∷ e ∷ f ∷ le16 2 ∷ g ∷ h ∷ i ∷ j ∷ k ∷ l ∷ following)

    at : ℕ → List ℕ
    at p = slice_range whole p (p + 2)

    levels : List ℕ → List ℕ → List ℕ → List ℕ → List ℕ → List ℕ
    levels h i j k l = map (from_le_bytes w16) (h ∷ i ∷ j ∷ k ∷ l ∷ [])

    width : (n : ℕ) → slice_index_or ws n 0 ≡ slice_index_or all_widths n 0
    width n = width_of ws all_widths n w

    before : (n : ℕ) → sum (take n ws) ≡ sum (take n all_widths)
    before n = widths_to ws all_widths n w

-- the fixed part and the history, part by part
parts_of_1 : (a b c d e f v g z r y : List ℕ) →
    ((a ++ (b ++ (c ++ (d ++ (e ++ (f ++ [])))))) ++ v ++ (g ++ []) ++ z ++ r) ++ y
    ≡ concat (a ∷ b ∷ c ∷ d ∷ e ∷ f ∷ v ∷ g ∷ z ∷ r ∷ y ∷ [])
parts_of_1 a b c d e f v g z r y = simp (append_assoc, append-nil)

parts_of_2 : (a b c d e f v g h i j k l r y : List ℕ) →
    ((a ++ (b ++ (c ++ (d ++ (e ++ (f ++ [])))))) ++ v ++ (g ++ []) ++ (h ++ (i ++ (j ++ (k ++ (l ++ []))))) ++ r) ++ y
    ≡ concat (a ∷ b ∷ c ∷ d ∷ e ∷ f ∷ v ∷ g ∷ h ∷ i ∷ j ∷ k ∷ l ∷ r ∷ y ∷ [])
parts_of_2 a b c d e f v g h i j k l r y = simp (append_assoc, append-nil)

twelve : (a b c d e f g h i j k l history : List ℕ) →
    AreFields (a ∷ b ∷ c ∷ d ∷ e ∷ f ∷ g ∷ h ∷ i ∷ j ∷ k ∷ l ∷ []) →
    raw_bext (bext_fixed (a ∷ b ∷ c ∷ d ∷ e ∷ f ∷ g ∷ h ∷ i ∷ j ∷ k ∷ l ∷ []) ++ history)
    ≡ reported_bext (a ∷ b ∷ c ∷ d ∷ e ∷ f ∷ g ∷ h ∷ i ∷ j ∷ k ∷ l ∷ [])
twelve a b c d e f g h i j k l history w = go (is_version_1 (a ∷ b ∷ c ∷ d ∷ e ∷ f ∷ g ∷ h ∷ i ∷ j ∷ k ∷ l ∷ []))
  where
    widths : length a ∷ length b ∷ length c ∷ length d ∷ length e ∷ length f ∷ 2 ∷ length g ∷ length h ∷ length i
        ∷ length j ∷ length k ∷ length l ∷ [] ≡ all_widths
    widths = ap (λ (ws : List ℕ). take 6 ws ++ 2 ∷ drop 6 ws) w

    texts : List ℕ
    texts = a ++ (b ++ (c ++ (d ++ (e ++ (f ++ [])))))

    levels : List ℕ
    levels = h ++ (i ++ (j ++ (k ++ (l ++ []))))

    made : ℕ → List ℕ → RawBext
    made version loudness =
        record {
          texts = a ∷ b ∷ c ∷ d ∷ e ∷ [];
          time = from_le_bytes w64 f;
          version = version;
          umid = g;
          loudness = loudness;
        }

    one : List ℕ
    one = concat (a ∷ b ∷ c ∷ d ∷ e ∷ f ∷ le16 1 ∷ g ∷ zeros 10 ∷ zeros 180 ∷ history ∷ [])

    go : (v : Bool) → raw_bext
        ((texts ++ cond v (le16 1) (le16 2) ++ (g ++ []) ++ cond v (zeros 10) levels ++ zeros 180) ++ history)
        ≡ made (cond v 1 2) (cond v [] (map (from_le_bytes w16) (h ∷ i ∷ j ∷ k ∷ l ∷ [])))
    go true =
        ap raw_bext (parts_of_1 a b c d e f (le16 1) g (zeros 10) (zeros 180) history)
        ∙ raw-prefix a b c d e f (le16 1) g (zeros 10 ∷ zeros 180 ∷ history ∷ []) (ap (take 8) widths)
        ∙ ap (λ (n : ℕ). made 1
        (cond (nat_le 2 n) (u16_at one 412 ∷ u16_at one 414 ∷ u16_at one 416 ∷ u16_at one 418 ∷ u16_at one 420
        ∷ []) []))
        (version_said a b c d e f (le16 1) g (zeros 10 ∷ zeros 180 ∷ history ∷ []) (ap (take 8) widths))
    go false =
        ap raw_bext (parts_of_2 a b c d e f (le16 2) g h i j k l (zeros 180) history)
        ∙ raw-prefix a b c d e f (le16 2) g (h ∷ i ∷ j ∷ k ∷ l ∷ zeros 180 ∷ history ∷ []) (ap (take 8) widths)
        ∙ ap (made 2) (levels-read a b c d e f g h i j k l (zeros 180 ∷ history ∷ []) widths)

-- the fields and the version are read as they were set
pub raw-bext : (fields : List (List ℕ)) (history : List ℕ) → AreFields fields →
    raw_bext (bext_fixed fields ++ history) ≡ reported_bext fields
raw-bext (a ∷ b ∷ c ∷ d ∷ e ∷ f ∷ g ∷ h ∷ i ∷ j ∷ k ∷ l ∷ []) history w = twelve a b c d e f g h i j k l history w
raw-bext fields history w = absurd (omega (arith, ap length w))
