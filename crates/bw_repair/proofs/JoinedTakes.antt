-- The chunks of a take under another size of its form.
use Rattle.std.proofs.Common.{◌≡◌, ◌∙◌, ◌⊎◌, ℕ, ◌+◌, ◌*◌, ◌≤◌, Bool, true, false, cond, List, [], ◌∷◌}
use Rattle.std.proofs.Common.{length, Option, Some, None, refl, sym, ap, subst, arith, inl, inr}
use Rattle.std.specs.Prelude.{slice_range, codes, not, fold, option_map}
use Rattle.std.specs.Int.{w32, from_le_bytes}
use Rattle.std.specs.List.{filter}
use Rattle.std.proofs.lemmas.Bool.{not-false}
use Rattle.bw_model.specs.Bytes.{even_up, u32_at}
use Rattle.bw_model.specs.Prefix.{IsChunkAt, IsSizeGiven, IsSized, StandFrom}
use Rattle.bw_model.specs.Reading.{Entry, Form, Sizes, entry_of, id_at, is_id}
use Rattle.bw_model.specs.Report.{content_of}
use Rattle.bw_model.proofs.BookLemmas.{same_name}
use Rattle.bw_repair.specs.JoinLaws.{contents_in, is_no_ds64, resized_form, resized_sizes, read_samples}
use Rattle.bw_repair.proofs.JoinedHeads.{IsResized}
use Rattle.bw_repair.proofs.JoinedOuters.{HasDs64}

-- where chunks end, from a place on
abbrev pub end_from : ℕ → List Entry → ℕ
end_from p es = fold (λ q e. e.place + 8 + even_up e.size) p es

pub end_grows : (b : List ℕ) (form : Form) (p : ℕ) (es : List Entry) → StandFrom b form p es → p ≤ end_from p es
end_grows b form p [] s = omega arith
end_grows b form p (e ∷ es) s =
    let place : e.place ≡ p = s.0 in
    let more : e.place + 8 + even_up e.size ≤ end_from (e.place + 8 + even_up e.size) es =
    end_grows b form (e.place + 8 + even_up e.size) es s.2 in
    omega (arith, place, more)

-- `ds64` gives the same sizes of chunks
given_same : (size : ℕ) (sizes : Option Sizes) (id : List ℕ) (n : ℕ) → IsSizeGiven sizes id n →
    IsSizeGiven (option_map (resized_sizes size) sizes) id n
given_same size None id n g = g
given_same size (Some s) id n g = g

-- the content of each chunk but `ds64` is that in t
abbrev AreSame : List ℕ → List ℕ → List Entry → Type 0
AreSame t text [] = Unit {0}
AreSame t text (e ∷ es) =
    (is_no_ds64 e ≡ true → content_of text (Some e) ≡ content_of t (Some e)) × AreSame t text es

pub same_contents : (t text : List ℕ) (es : List Entry) → AreSame t text es →
    contents_in text (filter is_no_ds64 es) ≡ contents_in t (filter is_no_ds64 es)
same_contents t text [] a = refl
same_contents t text (e ∷ es) a = go (is_no_ds64 e) a.0 (same_contents t text es a.1)
  where
    go : (v : Bool) → (v ≡ true → content_of text (Some e) ≡ content_of t (Some e)) →
        contents_in text (filter is_no_ds64 es) ≡ contents_in t (filter is_no_ds64 es) →
        contents_in text (cond v (e ∷ filter is_no_ds64 es) (filter is_no_ds64 es))
        ≡ contents_in t (cond v (e ∷ filter is_no_ds64 es) (filter is_no_ds64 es))
    go true one rest =
        ap (λ (z : List ℕ). z ∷ contents_in text (filter is_no_ds64 es)) (one refl)
        ∙ ap (λ (z : List (List ℕ)). content_of t (Some e) ∷ z) rest
    go false one rest = rest

pub same_samples : (t text : List ℕ) (es : List Entry) → AreSame t text es → read_samples text es ≡ read_samples t es
same_samples t text [] a = refl
same_samples t text (e ∷ es) a = go (is_id e.id (codes "data")) refl (same_samples t text es a.1)
  where
    go : (v : Bool) → is_id e.id (codes "data") ≡ v → read_samples text es ≡ read_samples t es →
        content_of text (cond v (Some e) (entry_of (codes "data") es))
        ≡ content_of t (cond v (Some e) (entry_of (codes "data") es))
    go true q rest =
        a.0 (ap (λ (z : List ℕ). not (is_id z (codes "ds64"))) (same_name e.id (codes "data") q))
    go false q rest = rest

module _ (t text : List ℕ) (form : Form) (size end : ℕ) where
  -- a chunk that the size of the form isn't in
  chunk_same : (riff : Bool) (e : Entry) → IsResized t text form.id riff size end → IsChunkAt t form e → 12 ≤ e.place →
      e.place + 8 + e.size ≤ end → end ≤ length text → end ≤ 8 + size →
      (riff ≡ true) ⊎ (((e.place ≡ 12) × (e.id ≡ codes "ds64")) ⊎ (28 ≤ e.place)) →
      IsChunkAt text (resized_form size form) e
  chunk_same riff e r c low far there fits part =
      let inside = c.in_bytes in
      let head : slice_range text e.place (e.place + 4) ≡ slice_range t e.place (e.place + 4) =
      r.ranges e.place (e.place + 4) (omega (arith, low)) (omega arith) (omega (arith, far)) (omega (arith, inside))
      (elim part [
        | inl q ↦ inl q
        | inr side ↦ elim side [ inl q ↦ (let at = q.0 in inr (inl (omega (arith, at)))) | inr q ↦ inr (inr q) ]
      ]) in
      let number : u32_at text (e.place + 4) ≡ u32_at t (e.place + 4) =
      ap (from_le_bytes w32)
      (r.ranges (e.place + 4) (e.place + 4 + 4) (omega (arith, low)) (omega arith) (omega (arith, far))
      (omega (arith, inside))
      (elim part [
        | inl q ↦ inl q
        | inr side ↦ elim side [
          | inl q ↦ (let at = q.0 in inr (inl (omega (arith, at))))
          | inr q ↦ inr (inr (omega (arith, q)))
        ]
      ])) in
      record {
        spelled = head ∙ c.spelled;
        sized = sized c.sized number;
        no_larger = c.no_larger;
        in_form = omega (arith, far, fits);
        in_bytes = omega (arith, far, there);
        fmt = c.fmt;
        bext = c.bext;
        cue = λ q.
            let cues = c.cue q in
            let four = cues.count in
            let same : u32_at text (e.place + 8) ≡ u32_at t (e.place + 8) =
            ap (from_le_bytes w32)
            (r.ranges (e.place + 8) (e.place + 8 + 4) (omega (arith, low)) (omega arith) (omega (arith, far, four))
            (omega (arith, inside, four))
            (elim part [
              | inl k ↦ inl k
              | inr side ↦ elim side [
                | inl k ↦ absurd (other (sym q ∙ k.1))
                | inr k ↦ inr (inr (omega (arith, k)))
              ]
            ])) in
            record {
              count = cues.count;
              few = subst (λ (n : ℕ). n ≤ 65536) (sym same) cues.few;
              points = subst (λ (n : ℕ). 4 + 24 * n ≤ e.size) (sym same) cues.points;
            };
      }
    where
      other : codes "cue " ≡ codes "ds64" → ⊥
      other q = cc

      sized : IsSized t form e → u32_at text (e.place + 4) ≡ u32_at t (e.place + 4) →
          IsSized text (resized_form size form) e
      sized (inl h) same = inl ((λ q. h.0 (sym same ∙ q)), h.1 ∙ sym same)
      sized (inr h) same = inr (same ∙ h.0, given_same size form.sizes e.id e.size h.1)

  -- .. and its content
  content_same : (riff : Bool) (e : Entry) → IsResized t text form.id riff size end → IsChunkAt t form e →
      12 ≤ e.place → e.place + 8 + e.size ≤ end → (riff ≡ true) ⊎ (28 ≤ e.place) →
      content_of text (Some e) ≡ content_of t (Some e)
  content_same riff e r c low far part =
      r.ranges (e.place + 8) (e.place + 8 + e.size) (omega (arith, low)) (omega arith) far c.in_bytes
      (elim part [ inl q ↦ inl q | inr q ↦ inr (inr (omega (arith, q))) ])

  -- the chunks after `ds64`, or of RIFF, are there
  pub record StandSame (p : ℕ) (es : List Entry) : Type 0 where
    pub chunks : StandFrom text (resized_form size form) p es
    pub same : AreSame t text es

  stand_same : (riff : Bool) (p : ℕ) (es : List Entry) → IsResized t text form.id riff size end →
      StandFrom t form p es → 12 ≤ p → end_from p es ≤ end → end ≤ length text → end ≤ 8 + size →
      (riff ≡ true) ⊎ (28 ≤ p) → StandSame p es
  stand_same riff p [] r s low far there fits part = record { chunks = tt; same = tt }
  stand_same riff p (e ∷ es) r s low far there fits part =
      let at : e.place ≡ p = s.0 in
      let next = e.place + 8 + even_up e.size in
      let grows : next ≤ end_from next es = end_grows t form next es s.2 in
      let inside : e.place + 8 + e.size ≤ end = omega (arith, grows, far) in
      let low' : 12 ≤ e.place = omega (arith, at, low) in
      let part' : (riff ≡ true) ⊎ (28 ≤ e.place) =
      elim part [ inl q ↦ inl q | inr q ↦ inr (omega (arith, q, at)) ] in
      let later = stand_same riff next es r s.2 (omega (arith, low')) far there fits
      (elim part' [ inl q ↦ inl q | inr q ↦ inr (omega (arith, q)) ]) in
      record {
        chunks = (
          s.0,
          chunk_same riff e r s.1 low' inside there fits (elim part' [ inl q ↦ inl q | inr q ↦ inr (inr q) ]),
          later.chunks,
        );
        same = ((λ q. content_same riff e r s.1 low' inside part'), later.same);
      }

  -- those of a form with `ds64` begin with it
  abbrev pub BeginsWithDs64 : List Entry → Type 0
  BeginsWithDs64 [] = ⊥
  BeginsWithDs64 (e ∷ es) = (e.id ≡ codes "ds64") × (e.size ≡ u32_at t 16)

  pub begins : (es : List Entry) → HasDs64 t → StandFrom t form 12 es → (es ≡ [] → ⊥) → BeginsWithDs64 es
  begins [] d s some = some refl
  begins (e ∷ es) d s some =
      let at : e.place ≡ 12 = s.0 in
      let here = s.1 in (
        sym here.spelled ∙ ap (id_at t) at
            ∙ same_name (id_at t 12) (codes "ds64") (not-false (is_id (id_at t 12) (codes "ds64")) d.spelled),
        sized here.sized at,
      )
    where
      sized : IsSized t form e → e.place ≡ 12 → e.size ≡ u32_at t 16
      sized (inl h) at = h.1 ∙ ap (λ (p : ℕ). u32_at t (p + 4)) at
      sized (inr h) at = absurd (d.said (ap (λ (p : ℕ). u32_at t (p + 4)) (sym at) ∙ h.0))

  pub all_same : (riff : Bool) (es : List Entry) → IsResized t text form.id riff size end → StandFrom t form 12 es →
      end_from 12 es ≤ end → end ≤ length text → end ≤ 8 + size → (riff ≡ false → HasDs64 t) → StandSame 12 es
  all_same true es r s far there fits wide =
      stand_same true 12 es r s (omega arith) far there fits (inl refl)
  all_same false [] r s far there fits wide = record { chunks = tt; same = tt }
  all_same false (e ∷ es) r s far there fits wide =
      let d = wide refl in
      let b = begins (e ∷ es) d s (λ q. cc) in
      let at : e.place ≡ 12 = s.0 in
      let long = d.long in
      let sized : e.size ≡ u32_at t 16 = b.1 in
      let next = e.place + 8 + even_up e.size in
      let grows : next ≤ end_from next es = end_grows t form next es s.2 in
      let later = stand_same false next es r s.2 (omega (arith, at)) far there fits
      (inr (omega (arith, at, sized, long))) in
      record {
        chunks = (
          s.0,
          chunk_same false e r s.1 (omega (arith, at)) (omega (arith, grows, far)) there fits (inr (inl (at, b.0))),
          later.chunks,
        );
        same = ((λ q. absurd (hidden (sym q ∙ ap (λ (z : List ℕ). not (is_id z (codes "ds64"))) b.0))), later.same);
      }
    where
      hidden : true ≡ false → ⊥
      hidden q = cc
