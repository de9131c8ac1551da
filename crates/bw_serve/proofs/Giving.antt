-- What is given through a filter, piece by piece.
use Rattle.std.proofs.Common.{◌≡◌, ◌≤◌, ℕ, zero, suc, Bool, List, [], ◌∷◌, ◌++◌, length, take, drop, Option}
use Rattle.std.proofs.Common.{Some, None, refl, sym, ap, ◌∙◌, arith}
use Rattle.std.proofs.lemmas.List.{take_at, length-take-le}
use Rattle.bw_stream.specs.Moves.{Reads}
use Rattle.bw_serve.specs.Filters.{Filter, starting, after_byte, passed, filtered, after_bytes}
use Rattle.bw_serve.specs.FilteredBytes.{GivesFiltered, left_through}
use Rattle.bw_serve.proofs.Passing.{filtered-append, after_bytes-append, filtered-length}

-- the first bytes of a buffer after they were filtered in their place
taken_filtered : (f : Filter) (buffer buffer' : List ℕ) (n : ℕ) → n ≤ length buffer →
    buffer' ≡ filtered f (take n buffer) ++ drop n buffer → take n buffer' ≡ filtered f (take n buffer)
taken_filtered f buffer buffer' n there given =
    ap (take n) given
    ∙ take_at (filtered f (take n buffer)) (drop n buffer) n
    (filtered-length f (take n buffer) ∙ length-take-le n buffer there)

pub gives_more : (given given' : List ℕ → Type 0) (one_name : Bool) (f f' : Filter) (buffer buffer' : List ℕ) (n : ℕ)
    → n ≤ length buffer → ((xs : List ℕ) → given xs → given' (xs ++ take n buffer)) → f' ≡ after_bytes f (take n buffer)
    → buffer' ≡ filtered f (take n buffer) ++ drop n buffer
    → (ys : List ℕ) → GivesFiltered given one_name f ys → GivesFiltered given' one_name f' (ys ++ take n buffer')
gives_more given given' one_name f f' buffer buffer' n there more after_is out ys g =
    let piece = take n buffer in
    let start = starting one_name in
    record {
      came = g.came ++ piece;
      by_link = more g.came g.by_link;
      now = after_is ∙ ap (λ (h : Filter). after_bytes h piece) g.now ∙ sym (after_bytes-append start g.came piece);
      through = ap (λ (xs : List ℕ). ys ++ xs) (taken_filtered f buffer buffer' n there out)
          ∙ ap (λ (xs : List ℕ). xs ++ filtered f piece) g.through
          ∙ ap (λ (h : Filter). filtered start g.came ++ filtered h piece) g.now
          ∙ sym (filtered-append start g.came piece);
    }

filtered-take : (f : Filter) (xs : List ℕ) (n : ℕ) → take n (filtered f xs) ≡ filtered f (take n xs)
filtered-take f xs zero = refl
filtered-take f [] (suc n) = refl
filtered-take f (x ∷ xs) (suc n) = ap (λ (ys : List ℕ). passed f x ∷ ys) (filtered-take (after_byte f x) xs n)

filtered-drop : (f : Filter) (xs : List ℕ) (n : ℕ) →
    drop n (filtered f xs) ≡ filtered (after_bytes f (take n xs)) (drop n xs)
filtered-drop f xs zero = refl
filtered-drop f [] (suc n) = refl
filtered-drop f (x ∷ xs) (suc n) = filtered-drop (after_byte f x) xs n

pub reads_through : (f f' : Filter) (old new : Option (List ℕ)) (most n : ℕ) (buf buf' : List ℕ) → n ≤ length buf →
    Reads old most n buf new → f' ≡ after_bytes f (take n buf)
    → buf' ≡ filtered f (take n buf) ++ drop n buf
    → Reads (left_through f old) most n buf' (left_through f' new)
reads_through f f' None new most n buf buf' there reads after_is out ys e = absurd cc
reads_through f f' (Some xs) new most n buf buf' there reads after_is out ys e =
    let r = reads xs refl in
    let ys-is : filtered f xs ≡ ys = cc in
    let rest : left_through f' new ≡ Some (filtered (after_bytes f (take n xs)) (drop n xs)) =
    ap (left_through f') r.rest
    ∙ ap (λ (g : Filter). Some (filtered g (drop n xs))) (after_is ∙ ap (after_bytes f) r.given) in
    record {
      within = omega (arith, r.within, filtered-length f xs, ap length ys-is);
      given = taken_filtered f buf buf' n there out ∙ ap (filtered f) r.given ∙ sym (filtered-take f xs n)
          ∙ ap (take n) ys-is;
      rest = rest ∙ ap (λ (zs : List ℕ). Some zs) (sym (filtered-drop f xs n) ∙ ap (drop n) ys-is);
      «end» = λ none some. sym ys-is ∙ ap (filtered f) (r.«end» none some);
    }
