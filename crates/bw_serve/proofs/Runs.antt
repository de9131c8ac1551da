-- A piece that is filtered in its place, as far as it has come.
use Rattle.std.proofs.Common.{◌≡◌, ◌<◌, ◌≤◌, ℕ, ◌+◌, ◌-◌, List, [], ◌∷◌, ◌++◌, length, take, drop, set, get_or}
use Rattle.std.proofs.Common.{refl, sym, ap, ◌∙◌, arith, append_assoc, take-add, le_of_lt, le_refl}
use Rattle.std.proofs.lemmas.List.{length-drop, length-take-le, take-append-drop, drop_more, take_more}
use Rattle.std.proofs.lemmas.List.{get_or-append_right, set-append_right, drop-drop}
use Rattle.bw_serve.specs.Filters.{Filter, after_byte, passed, filtered, after_bytes}
use Rattle.bw_serve.proofs.Passing.{filtered-append, after_bytes-append, filtered-length}

-- the first bytes of a piece are given, and the others are as they came
pub record IsPassed (f : Filter) (bytes : List ℕ) (count : ℕ) (f' : Filter) (bytes' : List ℕ) : Type 0 where
  pub after : f' ≡ after_bytes f (take count bytes)
  pub given : bytes' ≡ filtered f (take count bytes) ++ drop count bytes

pub none_passed : (f : Filter) (bytes : List ℕ) → IsPassed f bytes 0 f bytes
none_passed f bytes = record { after = refl; given = refl }

-- bytes more that are given as they come
pub more_passed : (f : Filter) (bytes : List ℕ) (count more : ℕ) (f' : Filter) (bytes' : List ℕ) (f'' : Filter) →
    count + more ≤ length bytes → IsPassed f bytes count f' bytes'
    → ((xs : List ℕ) → length xs ≡ more → (filtered f' xs ≡ xs) × (f'' ≡ after_bytes f' xs))
    → IsPassed f bytes (count + more) f'' bytes'
more_passed f bytes count more f' bytes' f'' there p same =
    let xs = take more (drop count bytes) in
    let size : length xs ≡ more = length-take-le more (drop count bytes) (omega (arith, length-drop count bytes)) in
    let run = same xs size in
    let taken : take (count + more) bytes ≡ take count bytes ++ xs = take-add count more bytes in
    let first = filtered f (take count bytes) in
    let rest : drop count bytes ≡ xs ++ drop (count + more) bytes =
    sym (take-append-drop more (drop count bytes))
    ∙ ap (λ (ys : List ℕ). xs ++ ys) (drop-drop more count bytes) in
    let given_xs : filtered (after_bytes f (take count bytes)) xs ≡ xs =
    ap (λ (g : Filter). filtered g xs) (sym p.after) ∙ run.0 in
    let given_all : filtered f (take (count + more) bytes) ≡ first ++ xs =
    ap (filtered f) taken ∙ filtered-append f (take count bytes) xs ∙ ap (λ (ys : List ℕ). first ++ ys) given_xs in
    record {
      after = run.1 ∙ ap (λ (g : Filter). after_bytes g xs) p.after ∙ sym (after_bytes-append f (take count bytes) xs)
          ∙ ap (after_bytes f) (sym taken);
      given = p.given ∙ ap (λ (ys : List ℕ). first ++ ys) rest
          ∙ sym (append_assoc first xs (drop (count + more) bytes))
          ∙ ap (λ (ys : List ℕ). ys ++ drop (count + more) bytes) (sym given_all);
    }

-- a byte more
pub byte_passed : (f : Filter) (bytes : List ℕ) (count : ℕ) (f' : Filter) (bytes' : List ℕ) → count < length bytes →
    IsPassed f bytes count f' bytes'
    → IsPassed f bytes (count + 1) (after_byte f' (get_or bytes' count 0)) (set bytes' count (passed f' (get_or bytes' count 0)))
byte_passed f bytes count f' bytes' there p =
    let x = get_or bytes count 0 in
    let first = filtered f (take count bytes) in
    let size : length first ≡ count =
    filtered-length f (take count bytes) ∙ length-take-le count bytes (le_of_lt there) in
    let split : drop count bytes ≡ x ∷ drop (count + 1) bytes = drop_more bytes count 0 there in
    let whole : bytes' ≡ first ++ x ∷ drop (count + 1) bytes = p.given ∙ ap (λ (ys : List ℕ). first ++ ys) split in
    let none : count - count ≡ 0 = omega arith in
    let read : get_or bytes' count 0 ≡ x =
    ap (λ (ys : List ℕ). get_or ys count 0) whole
    ∙ get_or-append_right first (x ∷ drop (count + 1) bytes) count count 0 size (le_refl count)
    ∙ ap (λ (n : ℕ). get_or (x ∷ drop (count + 1) bytes) n 0) none in
    let taken : take (count + 1) bytes ≡ take count bytes ++ x ∷ [] = take_more bytes count 0 there in
    let put : set bytes' count (passed f' x) ≡ first ++ passed f' x ∷ drop (count + 1) bytes =
    ap (λ (ys : List ℕ). set ys count (passed f' x)) whole
    ∙ set-append_right first (x ∷ drop (count + 1) bytes) count count (passed f' x) size (le_refl count)
    ∙ ap (λ (n : ℕ). first ++ set (x ∷ drop (count + 1) bytes) n (passed f' x)) none in
    let given_all : filtered f (take (count + 1) bytes) ≡ first ++ passed f' x ∷ [] =
    ap (filtered f) taken ∙ filtered-append f (take count bytes) (x ∷ [])
    ∙ ap (λ (g : Filter). first ++ passed g x ∷ []) (sym p.after) in
    record {
      after = ap (after_byte f') read ∙ ap (λ (g : Filter). after_byte g x) p.after
          ∙ sym (after_bytes-append f (take count bytes) (x ∷ [])) ∙ ap (after_bytes f) (sym taken);
      given = ap (λ (y : ℕ). set bytes' count (passed f' y)) read ∙ put
          ∙ sym (append_assoc first (passed f' x ∷ []) (drop (count + 1) bytes))
          ∙ ap (λ (ys : List ℕ). ys ++ drop (count + 1) bytes) (sym given_all);
    }
