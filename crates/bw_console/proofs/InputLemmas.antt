-- Reading an input piece by piece.
use Rattle.std.proofs.Common.{◌≡◌, ◌∙◌, ◌+◌, ◌≤◌, ◌<◌, ℕ, List, ◌++◌, length, take, drop, Option, Some, refl, ap, sym}
use Rattle.std.proofs.Common.{arith, length-append, length-take-le, append-nil}
use Rattle.std.proofs.lemmas.List.{take-append-drop, length-drop, drop-drop}
use Rattle.std.proofs.Math.Seq.{take-add}
use Rattle.bw_stream.specs.Moves.{IsRead}
use Rattle.bw_console.specs.Input.{longest_input}
use Rattle.bw_console.specs.Input.{IsReadAhead}

-- these bytes are the prefix of the input, and the rest of it is left
pub record HasPrefix (xs bytes : List ℕ) (left : Option (List ℕ)) : Type 0 where
  pub is : take (length bytes) xs ≡ bytes
  pub inside : length bytes ≤ length xs
  pub rest : left ≡ Some (drop (length bytes) xs)

-- what is left of an input, once one more piece is read
pub read-ahead : (xs bytes buf : List ℕ) (most n : ℕ) (left later : Option (List ℕ)) → HasPrefix xs bytes left
    → IsRead (drop (length bytes) xs) most n buf later → length bytes + n ≤ longest_input + 1 → IsReadAhead xs later
read-ahead xs bytes buf most n left later prefix read small =
    let within = read.within in
    let inside = prefix.inside in
    let size = length-drop (length bytes) xs in
    record {
      reached = length bytes + n;
      within = small;
      inside = omega arith;
      rest = read.rest ∙ ap Some (drop-drop n (length bytes) xs);
    }

-- if no byte comes any more, the prefix is all
pub prefix-is-all : (xs bytes buf : List ℕ) (most n : ℕ) (left later : Option (List ℕ)) → HasPrefix xs bytes left
    → IsRead (drop (length bytes) xs) most n buf later → n ≡ 0 → 0 < most → bytes ≡ xs
prefix-is-all xs bytes buf most n left later prefix read none some =
    let e = read.end none some in
    sym (append-nil bytes) ∙ (ap (λ (z : List ℕ). bytes ++ z) (sym e)
    ∙ (ap (λ (z : List ℕ). z ++ drop (length bytes) xs) (sym prefix.is) ∙ take-append-drop (length bytes) xs))

-- the prefix with one more piece
pub more-prefix : (xs bytes buf got : List ℕ) (most n : ℕ) (left later : Option (List ℕ)) → HasPrefix xs bytes left
    → IsRead (drop (length bytes) xs) most n buf later → got ≡ take n buf → HasPrefix xs (bytes ++ got) later
more-prefix xs bytes buf got most n left later prefix read e =
    let within = read.within in
    let inside = prefix.inside in
    let size = length-drop (length bytes) xs in
    let given : got ≡ take n (drop (length bytes) xs) = e ∙ read.given in
    let long : length (bytes ++ got) ≡ length bytes + n =
    length-append bytes got
    ∙ ap (λ k. length bytes + k) (ap length given ∙ length-take-le n (drop (length bytes) xs) within) in
    record {
      is = rw (long, take-add (length bytes) n xs, prefix.is, given) refl;
      inside = rw long (omega arith);
      rest = read.rest ∙ ap Some (drop-drop n (length bytes) xs ∙ ap (λ k. drop k xs) (sym long));
    }
