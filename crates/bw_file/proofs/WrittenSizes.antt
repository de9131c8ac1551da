-- The sizes in a header: for two lengths of data only they differ.
use Rattle.std.proofs.Common.{◌≡◌, ℕ, ◌+◌, ◌-◌, ◌<◌, ◌≤◌, List, ◌++◌, length, Option, Some, refl, sym, ◌∙◌, ap, arith}
use Rattle.std.proofs.Common.{append_assoc, length-append}
use Rattle.std.specs.Prelude.{codes, nat_le}
use Rattle.bw_model.specs.Bytes.{le32, le64}
use Rattle.bw_model.specs.Take.{Format, AreFields}
use Rattle.bw_model.specs.File.{header, form_size, data_place}
use Rattle.bw_layout.specs.Headers.{riff_middle, bw64_prefix, bw64_rear}
use Rattle.bw_layout.proofs.SizePlaces.{riff_sizes_stand, bw64_sizes_stand}
use Rattle.bw_store.specs.Stores.{Written}
use Rattle.bw_file.proofs.Puts.{put_over}

-- longer data have no smaller form size
pub form_grows : (history_len before after : ℕ) → before ≤ after →
    form_size history_len before 0 ≤ form_size history_len after 0
form_grows history_len before after h = grind arith

pub form_cues : (history_len data_len cues : ℕ) → form_size history_len data_len 0 ≤ form_size history_len data_len cues
form_cues history_len data_len cues = grind arith

-- above the limit together
pub both_above : (before after limit : ℕ) → nat_le before limit ≡ nat_le after limit → limit < after → limit < before
both_above before after limit same above = grind arith

module _ (f : Format) (fields : List (List ℕ)) (history : List ℕ) (limit : ℕ) where
  abbrev pub head_for : ℕ → ℕ → List ℕ
  head_for data_len cues = header f fields history data_len cues limit

  abbrev pub form_for : ℕ → ℕ → ℕ
  form_for data_len cues = form_size (length history) data_len cues

  -- between the two sizes of a RIFF header
  abbrev between : List ℕ
  between = riff_middle f fields history

  -- after the sizes of a BW64 header
  abbrev following : List ℕ
  following = bw64_rear f fields history

  joined : (a b c d : List ℕ) → a ++ b ++ c ++ d ≡ a ++ (b ++ (c ++ d))
  joined a b c d = simp append_assoc

  riff_parts : (data_len cues : ℕ) → AreFields fields → form_for data_len cues ≤ limit →
      head_for data_len cues ≡ codes "RIFF" ++ (le32 (form_for data_len cues) ++ (between ++ le32 data_len))
  riff_parts data_len cues h small =
      (riff_sizes_stand f fields history data_len cues limit h small).whole
      ∙ joined (codes "RIFF") (le32 (form_for data_len cues)) between (le32 data_len)

  around : (a b c d : List ℕ) → a ++ (b ++ c) ++ d ≡ a ++ (b ++ (c ++ d))
  around a b c d = simp append_assoc

  bw64_parts : (data_len cues : ℕ) → limit < form_for data_len cues →
      head_for data_len cues ≡ bw64_prefix ++ (le64 (form_for data_len cues) ++ (le64 data_len ++ following))
  bw64_parts data_len cues large =
      (bw64_sizes_stand f fields history data_len cues limit large).whole
      ∙ around bw64_prefix (le64 (form_for data_len cues)) (le64 data_len) following

  length-prefix : (data_len cues : ℕ) → limit < form_for data_len cues → length bw64_prefix ≡ 20
  length-prefix data_len cues large = (bw64_sizes_stand f fields history data_len cues limit large).prefix_length

  -- the data size is in the last four bytes
  length-between : (data_len cues : ℕ) → AreFields fields → form_for data_len cues ≤ limit →
      8 + length between ≡ data_place (length history) - 4
  length-between data_len cues h small =
      omega (arith, (riff_sizes_stand f fields history data_len cues limit h small).middle_length)

  regroup : (a b c d : List ℕ) → (a ++ (b ++ c)) ++ d ≡ a ++ (b ++ (c ++ d))
  regroup a b c d = simp append_assoc

  -- both sizes of a RIFF file
  pub riff_sizes : (before after cues : ℕ) (c0 c1 c2 : Option (List ℕ)) (tail : List ℕ) → AreFields fields →
      form_for before cues ≤ limit → form_for after cues ≤ limit →
      c0 ≡ Some (head_for before cues ++ tail) → Written c0 4 (le32 (form_for after cues)) c1 →
      Written c1 (data_place (length history) - 4) (le32 after) c2 → c2 ≡ Some (head_for after cues ++ tail)
  riff_sizes before after cues c0 c1 c2 tail h small_before small_after e w1 w2 =
      let form = le32 (form_for after cues) in
      let first = put_over c0 c1 (codes "RIFF") (le32 (form_for before cues)) ((between ++ le32 before) ++ tail) form 4
      (e ∙ ap (λ (l : List ℕ). Some (l ++ tail)) (riff_parts before cues h small_before)
      ∙ ap Some (regroup (codes "RIFF") (le32 (form_for before cues)) (between ++ le32 before) tail)) refl refl
      w1 in
      let prefix = codes "RIFF" ++ (form ++ between) in
      let at_data : (data_size : List ℕ) →
      codes "RIFF" ++ (form ++ ((between ++ data_size) ++ tail)) ≡ prefix ++ (data_size ++ tail) =
      λ data_size. simp append_assoc in
      let long : length prefix ≡ data_place (length history) - 4 =
      omega (arith, length-between after cues h small_after, length-append form between) in
      put_over c1 c2 prefix (le32 before) tail (le32 after) (data_place (length history) - 4)
      (first ∙ ap Some (at_data (le32 before))) long refl w2
      ∙ ap Some (sym (at_data (le32 after)) ∙ sym (regroup (codes "RIFF") form (between ++ le32 after) tail)
      ∙ ap (λ (l : List ℕ). l ++ tail) (sym (riff_parts after cues h small_after)))

  -- its form size
  pub riff_form : (data_len before after : ℕ) (c0 c1 : Option (List ℕ)) (tail : List ℕ) → AreFields fields →
      form_for data_len before ≤ limit → form_for data_len after ≤ limit →
      c0 ≡ Some (head_for data_len before ++ tail) → Written c0 4 (le32 (form_for data_len after)) c1 →
      c1 ≡ Some (head_for data_len after ++ tail)
  riff_form data_len before after c0 c1 tail h small_before small_after e w =
      let rest = between ++ le32 data_len in
      put_over c0 c1 (codes "RIFF") (le32 (form_for data_len before)) (rest ++ tail) (le32 (form_for data_len after)) 4
      (e ∙ ap (λ (l : List ℕ). Some (l ++ tail)) (riff_parts data_len before h small_before)
      ∙ ap Some (regroup (codes "RIFF") (le32 (form_for data_len before)) rest tail)) refl refl w
      ∙ ap Some (sym (regroup (codes "RIFF") (le32 (form_for data_len after)) rest tail)
      ∙ ap (λ (l : List ℕ). l ++ tail) (sym (riff_parts data_len after h small_after)))

  -- both sizes of a BW64 file
  pub bw64_sizes : (before after cues : ℕ) (c0 c1 : Option (List ℕ)) (tail : List ℕ) → limit < form_for before cues →
      limit < form_for after cues →
      c0 ≡ Some (head_for before cues ++ tail) → Written c0 20 (le64 (form_for after cues) ++ le64 after) c1 →
      c1 ≡ Some (head_for after cues ++ tail)
  bw64_sizes before after cues c0 c1 tail large_before large_after e w =
      let sizes : ℕ → List ℕ = λ d. le64 (form_for d cues) ++ le64 d in
      let regrouped : (d : ℕ) → bw64_prefix ++ (sizes d ++ (following ++ tail))
      ≡ (bw64_prefix ++ (le64 (form_for d cues) ++ (le64 d ++ following))) ++ tail = λ d. simp append_assoc in
      put_over c0 c1 bw64_prefix (sizes before) (following ++ tail) (sizes after) 20
      (e ∙ ap (λ (l : List ℕ). Some (l ++ tail)) (bw64_parts before cues large_before)
      ∙ ap Some (sym (regrouped before))) (length-prefix before cues large_before) refl w
      ∙ ap Some (regrouped after ∙ ap (λ (l : List ℕ). l ++ tail) (sym (bw64_parts after cues large_after)))

  -- its form size
  pub bw64_form : (data_len before after : ℕ) (c0 c1 : Option (List ℕ)) (tail : List ℕ) →
      limit < form_for data_len before → limit < form_for data_len after →
      c0 ≡ Some (head_for data_len before ++ tail) → Written c0 20 (le64 (form_for data_len after)) c1 →
      c1 ≡ Some (head_for data_len after ++ tail)
  bw64_form data_len before after c0 c1 tail large_before large_after e w =
      let rest = le64 data_len ++ following in
      put_over c0 c1 bw64_prefix (le64 (form_for data_len before)) (rest ++ tail) (le64 (form_for data_len after)) 20
      (e ∙ ap (λ (l : List ℕ). Some (l ++ tail)) (bw64_parts data_len before large_before)
      ∙ ap Some (regroup bw64_prefix (le64 (form_for data_len before)) rest tail))
      (length-prefix data_len before large_before) refl w
      ∙ ap Some (sym (regroup bw64_prefix (le64 (form_for data_len after)) rest tail)
      ∙ ap (λ (l : List ℕ). l ++ tail) (sym (bw64_parts data_len after large_after)))
