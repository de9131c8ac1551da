-- What lines say, one by one.
use Rattle.std.proofs.Common.{◌≡◌, ℕ, suc, ◌+◌, List, [], ◌∷◌, ◌++◌, length, refl, sym, ◌∙◌, ap, subst, arith, inl, inr}
use Rattle.std.proofs.Common.{append_assoc, Option, Some, None}
use Rattle.std.proofs.lemmas.List.{append-nil, length-append}
use Rattle.std.specs.Prelude.{MatchOption}
use Rattle.bw_console.specs.Lines.{SayEach, FirstWithout}

module _ {X : Type 0} (Says : List ℕ → X → Type 0) where
  -- the first lines say these values, and the others are left
  pub record SaidSoFar (lines left : List (List ℕ)) (found : List X) (number : ℕ) : Type 0 where
    pub said : List (List ℕ)
    pub all : lines ≡ said ++ left
    pub says : SayEach Says said found
    pub counted : number ≡ 1 + length said

  pub none_said : (lines : List (List ℕ)) → SaidSoFar lines lines [] 1
  none_said lines = record { said = []; all = refl; says = tt; counted = omega arith }

  says_more : (said : List (List ℕ)) (found : List X) (line : List ℕ) (x : X) → SayEach Says said found →
      Says line x → SayEach Says (said ++ line ∷ []) (found ++ x ∷ [])
  says_more [] [] line x h one = (one, tt)
  says_more [] (y ∷ ys) line x h one = absurd h
  says_more (l ∷ ls) [] line x h one = absurd h
  says_more (l ∷ ls) (y ∷ ys) line x h one = (h.0, says_more ls ys line x h.1 one)

  pub one_said : (lines left others : List (List ℕ)) (found : List X) (number : ℕ) (line : List ℕ) (x : X) →
      SaidSoFar lines left found number → left ≡ line ∷ others → Says line x →
      SaidSoFar lines others (found ++ x ∷ []) (number + 1)
  one_said lines left others found number line x s is says = record {
    said = s.said ++ line ∷ [];
    all = s.all ∙ ap (λ (z : List (List ℕ)). s.said ++ z) is ∙ sym (append_assoc s.said (line ∷ []) others);
    says = says_more s.said found line x s.says says;
    counted = let n = length-append s.said (line ∷ []) in omega (arith, n, s.counted);
  }

  pub all_said : (lines left : List (List ℕ)) (found : List X) (number : ℕ) → SaidSoFar lines left found number →
      left ≡ [] → SayEach Says lines found
  all_said lines left found number s none =
      subst (λ (z : List (List ℕ)). SayEach Says z found)
      (sym (s.all ∙ ap (λ (z : List (List ℕ)). s.said ++ z) none ∙ append-nil s.said)) s.says

  first_without : (n : ℕ) (said : List (List ℕ)) (found : List X) (line : List ℕ) (others : List (List ℕ)) →
      SayEach Says said found → ((x : X) → ¬ Says line x) →
      FirstWithout Says n (said ++ line ∷ others) (n + length said)
  first_without n [] found line others h none = inl (omega arith, none)
  first_without n (l ∷ ls) [] line others h none = absurd h
  first_without n (l ∷ ls) (y ∷ ys) line others h none =
      let same : (n + 1) + length ls ≡ n + suc (length ls) = omega arith in
      inr (
        (y, h.0),
        subst (FirstWithout Says (n + 1) (ls ++ line ∷ others)) same
            (first_without (n + 1) ls ys line others h.1 none),
      )

  pub stops_at : (lines left others : List (List ℕ)) (found : List X) (number : ℕ) (line : List ℕ) →
      SaidSoFar lines left found number → left ≡ line ∷ others → ((x : X) → ¬ Says line x) →
      FirstWithout Says 1 lines number
  stops_at lines left others found number line s is none =
      subst (λ (z : List (List ℕ)). FirstWithout Says 1 z number)
      (sym (s.all ∙ ap (λ (z : List (List ℕ)). s.said ++ z) is))
      (subst (FirstWithout Says 1 (s.said ++ line ∷ others)) (sym s.counted)
      (first_without 1 s.said found line others s.says none))

  -- what was read of a line, which means a value that the line says, if any does
  pub read_some : {A : Type 0} (meaning : A → X) (line : List ℕ) (o : Option A) (a : A) → o ≡ Some a →
      MatchOption o ((x : X) → ¬ Says line x) (λ b. Says line (meaning b)) → Says line (meaning a)
  read_some {A} meaning line o a is m = subst (λ (z : Option A).
      MatchOption z ((x : X) → ¬ Says line x) (λ b. Says line (meaning b))) is m

  pub read_none : {A : Type 0} (meaning : A → X) (line : List ℕ) (o : Option A) → o ≡ None →
      MatchOption o ((x : X) → ¬ Says line x) (λ b. Says line (meaning b)) → (x : X) → ¬ Says line x
  read_none {A} meaning line o is m = subst (λ (z : Option A).
      MatchOption z ((x : X) → ¬ Says line x) (λ b. Says line (meaning b))) is m
