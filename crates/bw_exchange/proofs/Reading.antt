-- What a reader that reports its bytes has given, and what a writer that reports them has taken.
use Rattle.std.proofs.Common.{◌≡◌, ℕ, ◌<◌, List, [], ◌++◌, take, drop, Option, Some, None, refl, sym, ap, ◌∙◌}
use Rattle.std.proofs.Common.{append_assoc}
use Rattle.std.proofs.lemmas.List.{append-nil, take-append-drop}
use Rattle.bw_stream.specs.Moves.{Keeps, Reads, Writes, Begins}
use Rattle.bw_exchange.specs.WholeExchanges.{HasGiven, HasNoneLeft}

-- a reader that keeps its bytes gave none
pub has_given-none : (left left' : Option (List ℕ)) → Keeps left left' → HasGiven left [] left'
has_given-none left left' k xs e = (xs, k xs e, refl)

-- a read gave the prefix of the buffer
pub has_given-piece : (left left' : Option (List ℕ)) (most n : ℕ) (buf : List ℕ) → Reads left most n buf left' →
    HasGiven left (take n buf) left'
has_given-piece left left' most n buf r xs e =
    let x = r xs e in
    (drop n xs, x.rest, ap (λ (y : List ℕ). y ++ drop n xs) x.given ∙ take-append-drop n xs)

-- a read of no bytes, into a buffer that has room, found none left
pub has_none_left : (left left' : Option (List ℕ)) (most n : ℕ) (buf : List ℕ) → n ≡ 0 → 0 < most →
    Reads left most n buf left' → HasNoneLeft left left'
has_none_left left left' most n buf zero some r xs e =
    let x = r xs e in
    let none = x.end zero some in
    x.rest ∙ ap (λ (y : List ℕ). Some (drop n y)) none ∙ ap (λ (k : ℕ). Some (drop {A = ℕ} k [])) zero

-- a read of no bytes gave none
pub has_given-nothing : (left left' : Option (List ℕ)) (most n : ℕ) (buf : List ℕ) → n ≡ 0 →
    Reads left most n buf left' → HasGiven left [] left'
has_given-nothing left left' most n buf zero r xs e =
    (drop n xs, (r xs e).rest, ap (λ (k : ℕ). drop k xs) zero)

-- a reader gave some bytes, and then others
pub has_given-on : (a b c : Option (List ℕ)) (p q : List ℕ) → HasGiven a p b → HasGiven b q c → HasGiven a (p ++ q) c
has_given-on a b c p q f g xs e =
    let x = f xs e in
    let y = g x.0 x.1 in
    (y.0, y.1, append_assoc p q y.0 ∙ ap (λ (z : List ℕ). p ++ z) y.2 ∙ x.2)

-- a writer has some bytes more, and then others
pub writes-on : (a b c : Option (List ℕ)) (p q : List ℕ) → Writes a p b → Writes b q c → Writes a (p ++ q) c
writes-on a b c p q f g ys e = g (ys ++ p) (f ys e) ∙ ap Some (append_assoc ys p q)

-- a writer has no bytes more
pub writes-none : (a : Option (List ℕ)) → Writes a [] a
writes-none a ys e = e ∙ ap Some (sym (append-nil ys))

-- the prefix that was written
pub record WritesPart (a b : Option (List ℕ)) (bytes : List ℕ) : Type 0 where
  pub part : List ℕ
  pub rest : List ℕ
  pub whole : part ++ rest ≡ bytes
  pub taken : Writes a part b

-- of a writer that doesn't report its bytes, none as well as any
pub writes-part : (a b : Option (List ℕ)) (bytes : List ℕ) → Begins a bytes b → WritesPart a b bytes
writes-part None b bytes f = record { part = []; rest = bytes; whole = refl; taken = λ ys e. absurd cc }
writes-part (Some xs) b bytes f =
    let x = f xs refl in
    record {
      part = x.part;
      rest = x.rest;
      whole = x.whole;
      taken = λ ys e. let same : xs ≡ ys = cc in x.stands ∙ ap (λ (y : List ℕ). Some (y ++ x.part)) same;
    }
