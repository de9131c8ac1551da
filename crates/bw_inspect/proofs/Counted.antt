-- Contents that begin with a count of rows.
use Rattle.std.proofs.Common.{◌≡◌, ℕ, ◌+◌, ◌*◌, ◌<◌, ◌≤◌, Bool, true, false, List, length, Option, Some, None, refl}
use Rattle.std.proofs.Common.{sym, ◌∙◌, ap, subst, arith, add_assoc}
use Rattle.std.specs.Prelude.{nat_lt}
use Rattle.std.proofs.lemmas.Bool.{lt-ltb, le-ltb}
use Rattle.bw_model.specs.Bytes.{first_that_holds}
use Rattle.bw_model.specs.Reading as reading
use Rattle.bw_inspect.specs.declared.fault.InspectFault.{InspectFault}
use Rattle.bw_inspect.specs.declared.fault.InspectKind.TheVariants.{TooMany, Memory}
use Rattle.bw_inspect.specs.Faults.{bytes_fault, is_of_bytes, is_failed_read}
use Rattle.bw_inspect.specs.Chunks.{counted_faults}
use Rattle.bw_inspect.specs.Places.{HasGrown, Nowhere}
use Rattle.bw_inspect.specs.Contents.{ReadTo, IsCutShort, IsStopped, WantsRows}
use Rattle.bw_inspect.proofs.Faults.{of_bytes, halts_by_bytes, halts_further, not_both}

-- the first fault, by the tests' values

first_of : (len : ℕ) (e : reading.Entry) (prefix most width : ℕ) (bad : reading.FaultKind) (n : ℕ) →
    nat_lt len (e.place + 8 + prefix) ≡ true →
    first_that_holds (counted_faults len e prefix most width bad n)
    ≡ Some (record { kind = reading.Truncated; offset = e.place })
first_of len e prefix most width bad n a = rw a refl

second_of : (len : ℕ) (e : reading.Entry) (prefix most width : ℕ) (bad : reading.FaultKind) (n : ℕ) →
    nat_lt len (e.place + 8 + prefix) ≡ false → nat_lt most n ≡ true →
    first_that_holds (counted_faults len e prefix most width bad n)
    ≡ Some (record { kind = reading.TooMany; offset = e.place })
second_of len e prefix most width bad n a b = rw (a, b) refl

third_of : (len : ℕ) (e : reading.Entry) (prefix most width : ℕ) (bad : reading.FaultKind) (n : ℕ) →
    nat_lt len (e.place + 8 + prefix) ≡ false → nat_lt most n ≡ false → nat_lt e.size (prefix + width * n) ≡ true →
    first_that_holds (counted_faults len e prefix most width bad n) ≡ Some (record { kind = bad; offset = e.place })
third_of len e prefix most width bad n a b c = rw (a, b, c) refl

fourth_of : (len : ℕ) (e : reading.Entry) (prefix most width : ℕ) (bad : reading.FaultKind) (n : ℕ) →
    nat_lt len (e.place + 8 + prefix) ≡ false → nat_lt most n ≡ false → nat_lt e.size (prefix + width * n) ≡ false →
    nat_lt len (e.place + 8 + e.size) ≡ true →
    first_that_holds (counted_faults len e prefix most width bad n)
    ≡ Some (record { kind = reading.Truncated; offset = e.place })
fourth_of len e prefix most width bad n a b c d = rw (a, b, c, d) refl

none_of : (len : ℕ) (e : reading.Entry) (prefix most width : ℕ) (bad : reading.FaultKind) (n : ℕ) →
    nat_lt len (e.place + 8 + prefix) ≡ false → nat_lt most n ≡ false → nat_lt e.size (prefix + width * n) ≡ false →
    nat_lt len (e.place + 8 + e.size) ≡ false →
    first_that_holds (counted_faults len e prefix most width bad n) ≡ None
none_of len e prefix most width bad n a b c d = rw (a, b, c, d) refl

-- there are too many rows
pub too_many_rows : (b : List ℕ) (e : reading.Entry) (prefix most width : ℕ) (bad : reading.FaultKind) (n : ℕ)
    (f : InspectFault) (left : Option (List ℕ)) → prefix ≤ e.size → ReadTo b e prefix left → most < n →
    f ≡ record { kind = TooMany; offset = e.place } →
    IsStopped b (e.place + 8 + e.size) e.place Nowhere (counted_faults (length b) e prefix most width bad n) f left
too_many_rows b e prefix most width bad n f left s r m q = record {
  halts = halts_by_bytes b (e.place + 8 + e.size) e.place (e.place + 8 + prefix) Nowhere f left
      (omega arith) r.there r.rest (ap (λ (x : InspectFault). is_of_bytes x.kind) q);
  fault = λ g h.
      second_of (length b) e prefix most width bad n (le-ltb (length b) (e.place + 8 + prefix) r.there) (lt-ltb most n m)
      ∙ (sym (ap bytes_fault q) ∙ h);
}

-- there is no memory for the rows
pub no_room : (b : List ℕ) (e : reading.Entry) (prefix most width : ℕ) (bad : reading.FaultKind) (n : ℕ)
    (f : InspectFault) (left : Option (List ℕ)) → prefix ≤ e.size → ReadTo b e prefix left → n ≤ most →
    e.size < prefix + width * n →
    bytes_fault f ≡ Some (record { kind = bad; offset = e.place }) →
    IsStopped b (e.place + 8 + e.size) e.place Nowhere (counted_faults (length b) e prefix most width bad n) f left
no_room b e prefix most width bad n f left s r m l q = record {
  halts = halts_by_bytes b (e.place + 8 + e.size) e.place (e.place + 8 + prefix) Nowhere f left
      (omega arith) r.there r.rest (of_bytes f (record { kind = bad; offset = e.place }) q);
  fault = λ g h.
      third_of (length b) e prefix most width bad n (le-ltb (length b) (e.place + 8 + prefix) r.there) (le-ltb most n m)
      (lt-ltb e.size (prefix + width * n) l) ∙ (sym q ∙ h);
}

-- a call that stopped for the same faults in other words
pub stopped_as : (b : List ℕ) (most place : ℕ) (wants other : ℕ → Type 0) (xs ys : List (Bool × reading.Fault))
    (f : InspectFault) (left : Option (List ℕ)) → ((n : ℕ) → wants n → other n) →
    first_that_holds xs ≡ first_that_holds ys → IsStopped b most place wants xs f left →
    IsStopped b most place other ys f left
unfolding halts_further
stopped_as b most place wants other xs ys f left k e s = record {
  halts = halts_further b most most place wants other f left (omega arith) k s.halts;
  fault = λ g h. sym e ∙ s.fault g h;
}

-- bytes were cut short, and a list may grow too
pub cut_any : (b : List ℕ) (e e' : reading.Entry) (wants : ℕ → Type 0) (f : InspectFault) (left : Option (List ℕ)) →
    e ≡ e' → IsCutShort b e e.size Nowhere f left → IsCutShort b e' e'.size wants f left
unfolding halts_further
cut_any b e e' wants f left same s =
    subst (λ (x : reading.Entry). IsCutShort b x x.size wants f left) same
    (record {
      halts = halts_further b (e.place + 8 + e.size) (e.place + 8 + e.size) e.place Nowhere wants f left
          (omega arith) (λ n h. absurd h) s.halts;
      cut = s.cut;
    })

-- a row was read, and isn't listed
pub row_refused : (b : List ℕ) (e : reading.Entry) (prefix width done most : ℕ) (f : InspectFault)
    (left : Option (List ℕ)) → ReadTo b e (prefix + width * (done + 1)) left → done < most →
    prefix + width * (done + 1) ≤ e.size →
    f ≡ record { kind = Memory; offset = e.place } →
    IsCutShort b e e.size (HasGrown b (e.place + 8 + prefix) width most) f left
row_refused b e prefix width done most f left r few fits q =
    let there = r.there in
    record {
      halts = record {
        reached = e.place + 8 + (prefix + width * (done + 1));
        within = omega arith;
        there = r.there;
        rest = r.rest;
        fails = λ t. absurd (not_both (is_failed_read f.kind) (ap (λ (x : InspectFault). is_failed_read x.kind) q) t);
        memory = λ t. (
          ap (λ (x : InspectFault). x.offset) q,
          record {
            rows = done + 1;
            some = omega arith;
            few = omega arith;
            following = sym (add_assoc (e.place + 8) prefix (width * (done + 1)));
            there = r.there;
          },
        );
      };
      cut = λ t. absurd (not_both (is_of_bytes f.kind) (ap (λ (x : InspectFault). is_of_bytes x.kind) q) t);
    }

-- the rows that are there are read, or one of them isn't listed
pub stopped_in_rows : (b : List ℕ) (e : reading.Entry) (prefix most width : ℕ) (bad : reading.FaultKind) (n reported : ℕ)
    (f : InspectFault) (left : Option (List ℕ)) → n ≡ reported → prefix ≤ e.size → e.place + 8 + prefix ≤ length b →
    n ≤ most → prefix + width * n ≤ e.size →
    IsCutShort b e e.size (HasGrown b (e.place + 8 + prefix) width n) f left →
    IsStopped b (e.place + 8 + e.size) e.place (WantsRows b e prefix most width bad reported)
    (counted_faults (length b) e prefix most width bad reported) f left
unfolding halts_further
stopped_in_rows b e prefix most width bad n reported f left q l there few room s =
    let free : first_that_holds (counted_faults (e.place + 8 + e.size) e prefix most width bad n) ≡ None =
    none_of (e.place + 8 + e.size) e prefix most width bad n
    (le-ltb (e.place + 8 + e.size) (e.place + 8 + prefix) (omega arith)) (le-ltb most n few)
    (le-ltb e.size (prefix + width * n) room) (le-ltb (e.place + 8 + e.size) (e.place + 8 + e.size) (omega arith)) in
    let stopped : IsStopped b (e.place + 8 + e.size) e.place (WantsRows b e prefix most width bad n)
    (counted_faults (length b) e prefix most width bad n) f left = record {
      halts = halts_further b (e.place + 8 + e.size) (e.place + 8 + e.size) e.place
          (HasGrown b (e.place + 8 + prefix) width n) (WantsRows b e prefix most width bad n) f left (omega arith)
          (λ m h. record { free = free; grown = h }) s.halts;
      fault = λ g h.
          let c = s.cut (of_bytes f g h) in
          fourth_of (length b) e prefix most width bad n (le-ltb (length b) (e.place + 8 + prefix) there)
          (le-ltb most n few) (le-ltb e.size (prefix + width * n) room) (lt-ltb (length b) (e.place + 8 + e.size) c.1)
          ∙ (sym (ap bytes_fault c.0) ∙ h);
    } in
    subst (λ (k : ℕ). IsStopped b (e.place + 8 + e.size) e.place (WantsRows b e prefix most width bad k)
    (counted_faults (length b) e prefix most width bad k) f left) q stopped

-- all the rows are there, and the content with them
pub rows_free : (b : List ℕ) (e : reading.Entry) (prefix most width : ℕ) (bad : reading.FaultKind) (n reported : ℕ) →
    n ≡ reported → prefix ≤ e.size → e.place + 8 + e.size ≤ length b → n ≤ most → prefix + width * n ≤ e.size →
    first_that_holds (counted_faults (length b) e prefix most width bad reported) ≡ None
rows_free b e prefix most width bad n reported q l there few room =
    subst (λ (k : ℕ). first_that_holds (counted_faults (length b) e prefix most width bad k) ≡ None) q
    (none_of (length b) e prefix most width bad n (le-ltb (length b) (e.place + 8 + prefix) (omega arith))
    (le-ltb most n few) (le-ltb e.size (prefix + width * n) room) (le-ltb (length b) (e.place + 8 + e.size) there))

-- the number of rows that the code found is the one in the content
pub stopped_reported : (b : List ℕ) (e : reading.Entry) (prefix most width : ℕ) (bad : reading.FaultKind) (n reported : ℕ)
    (f : InspectFault) (left : Option (List ℕ)) → n ≡ reported →
    IsStopped b (e.place + 8 + e.size) e.place Nowhere (counted_faults (length b) e prefix most width bad n) f left →
    IsStopped b (e.place + 8 + e.size) e.place Nowhere (counted_faults (length b) e prefix most width bad reported) f left
stopped_reported b e prefix most width bad n reported f left q s =
    subst (λ (k : ℕ). IsStopped b (e.place + 8 + e.size) e.place Nowhere
    (counted_faults (length b) e prefix most width bad k) f left) q s
