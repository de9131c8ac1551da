-- The lines of a file of receipts, one more at a time.
use Rattle.std.proofs.Common.{◌≡◌, ◌++◌, ◌∷◌, [], ◌+◌, ◌<◌, List, ℕ, Bool, true, false, Option, ap, append_assoc, arith, drop, get_or}
use Rattle.std.proofs.Common.{length, option_to_list, refl, subst, sym, take, ◌∙◌}
use Rattle.std.specs.Prelude.{map}
use Rattle.std.specs.Bool.{MatchBool}
use Rattle.std.specs.Borrow.{Bor}
use Rattle.std.proofs.lemmas.List.{append-nil, length-map, length-take, take-append-drop, take_more}
use Rattle.std.proofs.Math.ListN.{get_or-map}
use Rattle.bw_take_files.specs.ReceiptFiles.{IsFirstBadReceipt, SayReceipts, SaysReceipt}
use Rattle.bw_take_files.specs.declared.receipts.receipt.Receipt.{Receipt}

pub when_false : (b : Bool) (P Q : Type 0) → MatchBool b P Q → b ≡ false → Q
when_false b P Q m is = subst (λ x. MatchBool x P Q) is m

pub when_true : (b : Bool) (P Q : Type 0) → MatchBool b P Q → b ≡ true → P
when_true b P Q m is = subst (λ x. MatchBool x P Q) is m

-- the lines that pieces of a text are
abbrev pub texts : List (Bor (List ℕ)) → List (List ℕ)
texts pieces = map (λ x. x.now) pieces

below_texts : (pieces : List (Bor (List ℕ))) (i : ℕ) → i < length pieces → i < length (texts pieces)
below_texts pieces i below = simp length-map below

texts_more : (pieces : List (Bor (List ℕ))) (i : ℕ) (d : Bor (List ℕ)) → i < length pieces →
    take (i + 1) (texts pieces) ≡ take i (texts pieces) ++ (get_or pieces i d).now ∷ []
texts_more pieces i d below = take_more (texts pieces) i d.now (below_texts pieces i below)
    ∙ ap (λ (x : List ℕ). take i (texts pieces) ++ x ∷ []) (get_or-map (λ (x : Bor (List ℕ)). x.now) pieces i d)

line_more : (lines : List (List ℕ)) (rs : List Receipt) (line : List ℕ) (said : Option Receipt) →
    SayReceipts lines rs → SaysReceipt line said → SayReceipts (lines ++ line ∷ []) (rs ++ option_to_list said)
line_more [] rs line said before new = (
  said,
  [],
  new,
  refl,
  ap (λ x. x ++ option_to_list said) before ∙ sym (append-nil (option_to_list said)),
)
line_more (l ∷ lines) rs line said before new = (
  before.0,
  before.1 ++ option_to_list said,
  before.2,
  line_more lines before.1 line said before.3 new,
  ap (λ x. x ++ option_to_list said) before.4
      ∙ append_assoc (option_to_list before.0) before.1 (option_to_list said),
)

-- what a line adds to the receipts before it
abbrev pub AddsReceipt : List ℕ → List Receipt → List Receipt → Type 0
AddsReceipt line rs more = (said : Option Receipt) × SaysReceipt line said × (more ≡ rs ++ option_to_list said)

pub receipts_more : (pieces : List (Bor (List ℕ))) (i : ℕ) (d : Bor (List ℕ)) (rs more : List Receipt) →
    i < length pieces → SayReceipts (take i (texts pieces)) rs → AddsReceipt (get_or pieces i d).now rs more →
    SayReceipts (take (i + 1) (texts pieces)) more
receipts_more pieces i d rs more below before adds =
    let all : SayReceipts (take i (texts pieces) ++ (get_or pieces i d).now ∷ []) (rs ++ option_to_list adds.0) =
    line_more (take i (texts pieces)) rs (get_or pieces i d).now adds.0 before adds.1 in
    let there : SayReceipts (take (i + 1) (texts pieces)) (rs ++ option_to_list adds.0) =
    subst (λ (lines : List (List ℕ)). SayReceipts lines (rs ++ option_to_list adds.0))
    (sym (texts_more pieces i d below)) all in
    subst (λ (x : List Receipt). SayReceipts (take (i + 1) (texts pieces)) x) (sym adds.2) there

pub first_bad : (all : List (List ℕ)) (pieces : List (Bor (List ℕ))) (i : ℕ) (d : Bor (List ℕ)) (number : ℕ)
    (rs : List Receipt) → texts pieces ≡ all → i < length pieces → SayReceipts (take i (texts pieces)) rs →
    number ≡ i → ((said : Option Receipt) → SaysReceipt (get_or pieces i d).now said → ⊥) →
    IsFirstBadReceipt all (number + 1)
first_bad all pieces i d number rs same below before counted bad = record {
  before = take i (texts pieces);
  line = (get_or pieces i d).now;
  after = drop (i + 1) (texts pieces);
  lines = sym same ∙ (sym (take-append-drop (i + 1) (texts pieces))
      ∙ (ap (λ (x : List (List ℕ)). x ++ drop (i + 1) (texts pieces)) (texts_more pieces i d below)
      ∙ append_assoc (take i (texts pieces)) ((get_or pieces i d).now ∷ []) (drop (i + 1) (texts pieces))));
  counted =
      let short : i < length (texts pieces) = below_texts pieces i below in
      simp length-take (omega arith);
  good = (rs, before);
  bad = bad;
}
