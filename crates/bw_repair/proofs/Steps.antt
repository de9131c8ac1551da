-- The walk over the chunks before the samples.
use Rattle.std.proofs.Common.{◌≡◌, ℕ, ◌+◌, ◌≤◌, List, [], ◌∷◌, ◌++◌, length, drop, Option, Some}
use Rattle.std.proofs.Common.{refl, sym, ◌∙◌, ap, subst}
use Rattle.std.proofs.lemmas.List.{length-append}
use Rattle.bw_model.specs.Reading.{Entry}
use Rattle.bw_repair.specs.DataHeads.{IsPassedAt, StandBefore, StandBetween, place_following, align_with, entry_of_head}
use Rattle.bw_repair.specs.Steps.{IsOtherAt}

-- so many chunks were passed over, and the next head is wanted here
pub record IsReached (b : List ℕ) (count p align : ℕ) (left : Option (List ℕ)) : Type 0 where
  pub before : StandBefore b count p align
  pub rest : left ≡ Some (drop p b)

-- none, at first
pub reached_first : (b : List ℕ) (left : Option (List ℕ)) → 12 ≤ length b → left ≡ Some (drop 12 b) →
    IsReached b 0 12 0 left
reached_first b left h e = record {
  before = record { entries = []; counted = refl; stand = (refl, refl); there = h };
  rest = e;
}

-- one more at their end
stand_more : (b : List ℕ) (es : List Entry) (e : Entry) (p a q a' : ℕ) → StandBetween b p a es q a' →
    IsPassedAt b q e → StandBetween b p a (es ++ e ∷ []) (place_following e) (align_with b e a')
stand_more b [] e p a q a' s t =
    let here : IsPassedAt b p e = subst (λ (k : ℕ). IsPassedAt b k e) (sym s.0) t in
    (here, (refl, ap (align_with b e) s.1))
stand_more b (d ∷ ds) e p a q a' s t =
    (s.0, stand_more b ds e (place_following d) (align_with b d a) q a' s.1 t)

-- one more is passed over
pub reached_more : (b : List ℕ) (count p align p' align' : ℕ) (left left' : Option (List ℕ)) →
    IsReached b count p align left → IsOtherAt b p align p' align' left' → IsReached b (count + 1) p' align' left'
reached_more b count p align p' align' left left' r s =
    let es : List Entry = r.before.entries in
    let e : Entry = entry_of_head b p in
    let more : StandBetween b 12 0 (es ++ e ∷ []) (place_following e) (align_with b e align) =
    stand_more b es e 12 0 p align r.before.stand s.passed in
    let long : length (es ++ e ∷ []) ≡ length es + 1 = length-append es (e ∷ []) in
    let c = r.before.counted in
    record {
      before = record {
        entries = es ++ e ∷ [];
        counted = ap (λ (n : ℕ). n + 1) c ∙ sym long;
        stand = subst (λ (k : ℕ). StandBetween b 12 0 (es ++ e ∷ []) k align') (sym s.place)
            (subst (λ (k : ℕ). StandBetween b 12 0 (es ++ e ∷ []) (place_following e) k) (sym s.aligned) more);
        there = s.there;
      };
      rest = s.rest;
    }
