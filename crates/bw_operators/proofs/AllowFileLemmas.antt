-- The words and lines of a file of rules, one more at a time.
use Rattle.std.proofs.Common.{◌≡◌, ◌++◌, ◌∷◌, [], ◌+◌, ◌<◌, ◌≤◌, List, ℕ, zero, suc, Bool, true, false, Option, ap, append_assoc, arith, drop, get_or, length, option_to_list, refl, subst, sym, take, ◌∙◌}
use Rattle.std.specs.Bool.{MatchBool}
use Rattle.std.specs.Borrow.{Bor}
use Rattle.std.proofs.lemmas.List.{append-nil, length-map, length-take, take-append-drop, take_more}
use Rattle.std.proofs.Math.ListN.{get_or-map}
use Rattle.bw_operators.specs.AllowLists.{AllowedNetwork, AllowRule}
use Rattle.bw_operators.specs.AllowFiles.{IsFirstBadLine, SayNetworks, SayRules, SaysLine, SaysNetwork, texts}

pub when_false : (b : Bool) (P Q : Type 0) → MatchBool b P Q → b ≡ false → Q
when_false b P Q m is = subst (λ x. MatchBool x P Q) is m

pub when_true : (b : Bool) (P Q : Type 0) → MatchBool b P Q → b ≡ true → P
when_true b P Q m is = subst (λ x. MatchBool x P Q) is m

below_texts : (pieces : List (Bor (List ℕ))) (i : ℕ) → i < length pieces → i < length (texts pieces)
below_texts pieces i below = simp length-map below

-- a piece is the text at its place
text_at : (pieces : List (Bor (List ℕ))) (i : ℕ) (d : Bor (List ℕ)) → get_or (texts pieces) i d.now ≡ (get_or pieces i d).now
text_at pieces i d = get_or-map (λ (x : Bor (List ℕ)). x.now) pieces i d

texts_more : (pieces : List (Bor (List ℕ))) (i : ℕ) (d : Bor (List ℕ)) → i < length pieces →
    take (i + 1) (texts pieces) ≡ take i (texts pieces) ++ (get_or pieces i d).now ∷ []
texts_more pieces i d below = take_more (texts pieces) i d.now (below_texts pieces i below)
    ∙ ap (λ (x : List ℕ). take i (texts pieces) ++ x ∷ []) (text_at pieces i d)

-- words

say_more : (words : List (List ℕ)) (networks : List AllowedNetwork) (word : List ℕ) (n : AllowedNetwork) →
    SayNetworks words networks → SaysNetwork word n → SayNetworks (words ++ word ∷ []) (networks ++ n ∷ [])
say_more [] [] word n said new = (new, tt)
say_more [] (x ∷ networks) word n said new = absurd said
say_more (w ∷ words) [] word n said new = absurd said
say_more (w ∷ words) (x ∷ networks) word n said new = (said.0, say_more words networks word n said.1 new)

says_each : (words : List (List ℕ)) (networks : List AllowedNetwork) (i : ℕ) (d : List ℕ) →
    SayNetworks words networks → i < length words → (n : AllowedNetwork) × SaysNetwork (get_or words i d) n
says_each [] networks i d said below = absurd (omega (arith, below))
says_each (w ∷ words) [] i d said below = absurd said
says_each (w ∷ words) (n ∷ networks) zero d said below = (n, said.0)
says_each (w ∷ words) (n ∷ networks) (suc i) d said below = says_each words networks i d said.1 (omega arith)

pub networks_more : (pieces : List (Bor (List ℕ))) (i : ℕ) (d : Bor (List ℕ)) (networks : List AllowedNetwork)
    (n : AllowedNetwork) → i < length pieces → SayNetworks (take i (texts pieces)) networks →
    SaysNetwork (get_or pieces i d).now n → SayNetworks (take (i + 1) (texts pieces)) (networks ++ n ∷ [])
networks_more pieces i d networks n below said new =
    subst (λ (words : List (List ℕ)). SayNetworks words (networks ++ n ∷ [])) (sym (texts_more pieces i d below))
    (say_more (take i (texts pieces)) networks (get_or pieces i d).now n said new)

pub no_networks : (pieces : List (Bor (List ℕ))) (i : ℕ) (d : Bor (List ℕ)) → i < length pieces →
    ((n : AllowedNetwork) → SaysNetwork (get_or pieces i d).now n → ⊥) →
    (networks : List AllowedNetwork) → SayNetworks (texts pieces) networks → ⊥
no_networks pieces i d below bad networks said =
    let each = says_each (texts pieces) networks i d.now said (below_texts pieces i below) in
    bad each.0 (subst (λ (word : List ℕ). SaysNetwork word each.0) (text_at pieces i d) each.1)

-- lines

line_more : (lines : List (List ℕ)) (rules : List AllowRule) (line : List ℕ) (said : Option AllowRule) →
    SayRules lines rules → SaysLine line said → SayRules (lines ++ line ∷ []) (rules ++ option_to_list said)
line_more [] rules line said before new = (
  said,
  [],
  new,
  refl,
  ap (λ x. x ++ option_to_list said) before ∙ sym (append-nil (option_to_list said)),
)
line_more (l ∷ lines) rules line said before new = (
  before.0,
  before.1 ++ option_to_list said,
  before.2,
  line_more lines before.1 line said before.3 new,
  ap (λ x. x ++ option_to_list said) before.4
      ∙ append_assoc (option_to_list before.0) before.1 (option_to_list said),
)

-- what a line adds to the rules before it
abbrev pub AddsLine : List ℕ → List AllowRule → List AllowRule → Type 0
AddsLine line rules more = (said : Option AllowRule) × SaysLine line said × (more ≡ rules ++ option_to_list said)

pub rules_more : (pieces : List (Bor (List ℕ))) (i : ℕ) (d : Bor (List ℕ)) (rules more : List AllowRule) →
    i < length pieces → SayRules (take i (texts pieces)) rules → AddsLine (get_or pieces i d).now rules more →
    SayRules (take (i + 1) (texts pieces)) more
rules_more pieces i d rules more below before adds =
    let all : SayRules (take i (texts pieces) ++ (get_or pieces i d).now ∷ []) (rules ++ option_to_list adds.0) =
    line_more (take i (texts pieces)) rules (get_or pieces i d).now adds.0 before adds.1 in
    let there : SayRules (take (i + 1) (texts pieces)) (rules ++ option_to_list adds.0) =
    subst (λ (lines : List (List ℕ)). SayRules lines (rules ++ option_to_list adds.0))
    (sym (texts_more pieces i d below)) all in
    subst (λ (x : List AllowRule). SayRules (take (i + 1) (texts pieces)) x) (sym adds.2) there

pub first_bad : (all : List (List ℕ)) (pieces : List (Bor (List ℕ))) (i : ℕ) (d : Bor (List ℕ)) (number : ℕ)
    (rules : List AllowRule) → texts pieces ≡ all → i < length pieces → SayRules (take i (texts pieces)) rules →
    number ≡ i → ((said : Option AllowRule) → SaysLine (get_or pieces i d).now said → ⊥) →
    IsFirstBadLine all (number + 1)
first_bad all pieces i d number rules same below before counted bad = record {
  before = take i (texts pieces);
  line = (get_or pieces i d).now;
  after = drop (i + 1) (texts pieces);
  lines = sym same ∙ (sym (take-append-drop (i + 1) (texts pieces))
      ∙ (ap (λ (x : List (List ℕ)). x ++ drop (i + 1) (texts pieces)) (texts_more pieces i d below)
      ∙ append_assoc (take i (texts pieces)) ((get_or pieces i d).now ∷ []) (drop (i + 1) (texts pieces))));
  counted =
      let short : i < length (texts pieces) = below_texts pieces i below in
      simp length-take (omega arith);
  good = (rules, before);
  bad = bad;
}
