-- Calls one after another.
use Rattle.std.proofs.Common.{◌≡◌, ◌⊎◌, inl, inr, ℕ, ◌+◌, ◌<◌, ◌≤◌, true, List, [], ◌∷◌, ◌++◌, length, Option, refl}
use Rattle.std.proofs.Common.{sym, ◌∙◌, ap, arith, append_assoc, length-append, subst}
use Rattle.std.proofs.Math.Seq.{take-append-add}
use Rattle.std.proofs.lemmas.Bool.{cases_order}
use Rattle.std.proofs.lemmas.List.{append-nil, take_all, take-append-le, length-take}
use Rattle.bw_store.specs.Stores.{Counts, last_count, raised}
use Rattle.bw_store.specs.Calls.{StoreCall, Asks, Gets, GetsFirst}

-- a count that rises by one
raised_by_one : (before after : ℕ) → Counts before after true → after ≡ raised before 1
raised_by_one before after c = go (cases_order before last_count)
  where
    go : (before ≡ last_count) ⊎ ((before < last_count) ⊎ (last_count < before)) → after ≡ raised before 1
    go (inl full) = let e = c.stays (omega arith) in omega arith
    go (inr (inl less)) = let e = c.rises refl less in omega arith
    go (inr (inr more)) = let e = c.stays (omega arith) in omega arith

-- no call
pub gets_none : (count : ℕ) (same : Option (List StoreCall)) → Gets [] count count same same
gets_none count same = record {
  counted = omega arith;
  noted = λ all e. record { noted = all; were = e; are = sym (append-nil all) };
}

-- one call
pub gets_one : {call : StoreCall} {a b : ℕ} {x y : Option (List StoreCall)} → Counts a b true → Asks (call ∷ []) x y →
    Gets (call ∷ []) a b x y
gets_one {a = a} {b = b} counts asks = record { counted = raised_by_one a b counts; noted = asks }

-- these calls, and then those
pub gets_then : {p q : List StoreCall} {a b c : ℕ} {x y z : Option (List StoreCall)} → Gets p a b x y →
    Gets q b c y z → Gets (p ++ q) a c x z
gets_then {p = p} {q = q} {a = a} {b = b} {c = c} first second =
    let one = first.counted in
    let two = second.counted in
    record {
      counted = omega (arith, length-append p q);
      noted = λ all e.
          let s = second.noted all e in
          let f = first.noted s.noted s.were in
          record {
            noted = f.noted;
            were = f.were;
            are = s.are ∙ ap (λ (l : List StoreCall). l ++ q) f.are ∙ append_assoc f.noted p q;
          };
    }

-- these calls, and then the first of those
pub gets_then_first : {p q : List StoreCall} {a b c : ℕ} {x y z : Option (List StoreCall)} → Gets p a b x y →
    GetsFirst q b c y z → GetsFirst (p ++ q) a c x z
gets_then_first {p = p} {q = q} {a = a} {c = c} {x = x} {z = z} first second =
    let within = second.within in
    record {
      count = length p + second.count;
      within = omega (arith, length-append p q);
      gets = subst (λ (l : List StoreCall). Gets l a c x z) (sym (take-append-add p q second.count))
          (gets_then first second.gets);
    }

-- all of them are the first of them
pub gets_all : {p : List StoreCall} {a b : ℕ} {x y : Option (List StoreCall)} → Gets p a b x y → GetsFirst p a b x y
gets_all {p = p} {a = a} {b = b} {x = x} {y = y} first = record {
  count = length p;
  within = omega arith;
  gets = subst (λ (l : List StoreCall). Gets l a b x y) (sym (take_all (length p) p (omega arith))) first;
}

-- the first of some are the first of more
pub gets_before : {p : List StoreCall} {a b : ℕ} {x y : Option (List StoreCall)} (q : List StoreCall) →
    GetsFirst p a b x y → GetsFirst (p ++ q) a b x y
gets_before {p = p} {a = a} {b = b} {x = x} {y = y} q first =
    let within = first.within in
    record {
      count = first.count;
      within = omega (arith, length-append p q);
      gets = subst (λ (l : List StoreCall). Gets l a b x y)
          (sym (take-append-le first.count p q first.within)) first.gets;
    }

-- the same calls, written otherwise
pub gets_as : {p q : List StoreCall} {a b : ℕ} {x y : Option (List StoreCall)} → p ≡ q → Gets q a b x y → Gets p a b x y
gets_as {a = a} {b = b} {x = x} {y = y} e h = subst (λ (l : List StoreCall). Gets l a b x y) (sym e) h

pub first_as : {p q : List StoreCall} {a b : ℕ} {x y : Option (List StoreCall)} → p ≡ q → GetsFirst q a b x y →
    GetsFirst p a b x y
first_as {a = a} {b = b} {x = x} {y = y} e h = subst (λ (l : List StoreCall). GetsFirst l a b x y) (sym e) h

-- how far the count rises
pub gets_at_most : {p : List StoreCall} {a b : ℕ} {x y : Option (List StoreCall)} (n : ℕ) → length p ≤ n →
    Gets p a b x y → b ≤ a + n
gets_at_most {p = p} {a = a} {b = b} n few gets = let e = gets.counted in omega arith

pub first_at_most : {p : List StoreCall} {a b : ℕ} {x y : Option (List StoreCall)} (n : ℕ) → length p ≤ n →
    GetsFirst p a b x y → b ≤ a + n
first_at_most {p = p} n few first =
    let within = first.within in
    gets_at_most n (omega (arith, length-take first.count p)) first.gets
