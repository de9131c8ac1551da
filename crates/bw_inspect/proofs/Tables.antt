-- The `ds64` chunk.
use Rattle.std.proofs.Common.{◌≡◌, ℕ, ◌+◌, ◌≤◌, ◌<◌, Bool, true, false, ◌||◌, List, length, drop, Option, Some, None}
use Rattle.std.proofs.Common.{refl, sym, ◌∙◌, ap, subst, arith, lit≤, ◌*◌}
use Rattle.std.specs.Prelude.{codes, not, nat_lt, ◌==◌}
use Rattle.std.proofs.lemmas.Bool.{lt-ltb, le-ltb, ne_eqb}
use Rattle.bw_model.specs.Bytes.{first_that_holds, u32_at, u64_at, unsaid}
use Rattle.bw_model.specs.Limits.{most_entries}
use Rattle.bw_model.specs.Report.{content_of}
use Rattle.bw_model.specs.Reading as reading
use Rattle.bw_layout.specs.Tables.{Fixed, fixed_at}
use Rattle.bw_layout.specs.declared.chunk.ChunkHead.{ChunkHead}
use Rattle.std.specs.Prelude.{slice_range}
use Rattle.bw_inspect.specs.declared.fault.InspectFault.{InspectFault}
use Rattle.bw_inspect.specs.declared.fault.InspectKind.TheVariants.{NoDs64, BadDs64}
use Rattle.bw_inspect.specs.Faults.{bytes_fault, is_of_bytes}
use Rattle.bw_inspect.specs.Places.{IsMissed, Nowhere}
use Rattle.bw_inspect.specs.Contents.{IsStopped}
use Rattle.bw_inspect.specs.Tables.{IsDs64Head, ds64_head_faults}
use Rattle.bw_inspect.specs.Walks.{IsHead}
use Rattle.bw_inspect.proofs.Contents.{u32_prefix, u64_prefix, at_start}
use Rattle.bw_inspect.proofs.Faults.{bytes_no_read, of_bytes, halts_by_bytes, halts_missed}

-- no `ds64` has this size
abbrev pub bad_size : ℕ → Bool
bad_size n = nat_lt n 28 || (n == unsaid)

pub small_size : (n : ℕ) → n < 28 → bad_size n ≡ true
small_size n l = ap (λ (v : Bool). v || (n == unsaid)) (lt-ltb n 28 l)

pub unsaid_size : (n : ℕ) → n ≡ unsaid → bad_size n ≡ true
unsaid_size n e = rw e refl

pub good_size : (n : ℕ) → 28 ≤ n → (n ≡ unsaid → ⊥) → bad_size n ≡ false
good_size n l e = ap (λ (v : Bool). v || (n == unsaid)) (le-ltb n 28 l) ∙ ne_eqb n unsaid e

no_head : (b : List ℕ) → nat_lt (length b) 20 ≡ true →
    first_that_holds (ds64_head_faults b) ≡ Some (record { kind = reading.NoDs64; offset = 12 })
no_head b a = rw a refl

other_head : (b : List ℕ) → nat_lt (length b) 20 ≡ false → reading.is_id (reading.id_at b 12) (codes "ds64") ≡ false →
    first_that_holds (ds64_head_faults b) ≡ Some (record { kind = reading.NoDs64; offset = 12 })
other_head b a i = rw (a, i) refl

bad_head : (b : List ℕ) → nat_lt (length b) 20 ≡ false → reading.is_id (reading.id_at b 12) (codes "ds64") ≡ true →
    bad_size (u32_at b 16) ≡ true →
    first_that_holds (ds64_head_faults b) ≡ Some (record { kind = reading.BadDs64; offset = 12 })
bad_head b a i s = rw (a, i, s) refl

good_head : (b : List ℕ) → nat_lt (length b) 20 ≡ false → reading.is_id (reading.id_at b 12) (codes "ds64") ≡ true →
    bad_size (u32_at b 16) ≡ false → first_that_holds (ds64_head_faults b) ≡ None
good_head b a i s = rw (a, i, s) refl

-- b ends before the head's end
pub head_missed : (b : List ℕ) (cut f : InspectFault) (left : Option (List ℕ)) →
    cut ≡ record { kind = NoDs64; offset = 12 } → IsMissed b 12 8 cut f left → 12 ≤ length b →
    IsStopped b 20 12 Nowhere (ds64_head_faults b) f left
head_missed b cut f left q m l = record {
  halts = halts_missed b 12 8 20 12 Nowhere cut f left m (ap (λ (z : InspectFault). is_of_bytes z.kind) q) (lit≤ tt) l;
  fault = λ g h. let x = m.cuts (ap not (bytes_no_read f.kind (of_bytes f g h))) in
      no_head b (lt-ltb (length b) 20 x.1) ∙ (sym (ap bytes_fault (x.0 ∙ q)) ∙ h);
}

-- another chunk is there
pub other_chunk : (b : List ℕ) (head : ChunkHead) (f : InspectFault) (left : Option (List ℕ)) → IsHead b 12 head left →
    reading.is_id head.id (codes "ds64") ≡ false → f ≡ record { kind = NoDs64; offset = 12 } →
    IsStopped b 20 12 Nowhere (ds64_head_faults b) f left
other_chunk b head f left h i q = record {
  halts = halts_by_bytes b 20 12 20 Nowhere f left (lit≤ tt) h.within h.rest
      (ap (λ (z : InspectFault). is_of_bytes z.kind) q);
  fault = λ g t.
      other_head b (le-ltb (length b) 20 h.within)
      (ap (λ (z : List ℕ). reading.is_id z (codes "ds64")) (sym h.spells) ∙ i) ∙ (sym (ap bytes_fault q) ∙ t);
}

-- its size can't be
pub size_refused : (b : List ℕ) (head : ChunkHead) (f : InspectFault) (left : Option (List ℕ)) →
    IsHead b 12 head left → reading.is_id head.id (codes "ds64") ≡ true → bad_size head.size32 ≡ true →
    f ≡ record { kind = BadDs64; offset = 12 } →
    IsStopped b 20 12 Nowhere (ds64_head_faults b) f left
size_refused b head f left h i s q = record {
  halts = halts_by_bytes b 20 12 20 Nowhere f left (lit≤ tt) h.within h.rest
      (ap (λ (z : InspectFault). is_of_bytes z.kind) q);
  fault = λ g t.
      bad_head b (le-ltb (length b) 20 h.within)
      (ap (λ (z : List ℕ). reading.is_id z (codes "ds64")) (sym h.spells) ∙ i) (ap bad_size (sym h.reports) ∙ s)
      ∙ (sym (ap bytes_fault q) ∙ t);
}

-- the head has no fault
pub head_taken : (b : List ℕ) (head : ChunkHead) (e : reading.Entry) (left : Option (List ℕ)) → IsHead b 12 head left →
    reading.is_id head.id (codes "ds64") ≡ true → bad_size head.size32 ≡ false →
    e ≡ record { id = head.id; place = 12; size = head.size32 } →
    IsDs64Head b e left
head_taken b head e left h i s q =
    let id = h.spells in
    let size = h.reports in
    let place : e.place ≡ 12 = ap (λ (z : reading.Entry). z.place) q in
    record {
      free = good_head b (le-ltb (length b) 20 h.within)
          (ap (λ (z : List ℕ). reading.is_id z (codes "ds64")) (sym h.spells) ∙ i) (ap bad_size (sym h.reports) ∙ s);
      entry = q ∙ (ap (λ (z : List ℕ). record { id = z; place = 12; size = head.size32 }) id
          ∙ ap (λ (n : ℕ). record { id = reading.id_at b 12; place = 12; size = n }) size);
      to = at_start b e left (let w = h.within in omega arith)
          (h.rest ∙ ap (λ (k : ℕ). Some (drop k b)) (let z : 12 + 8 ≡ e.place + 8 = omega arith in z));
    }

-- what comes before the table is in its first 28 bytes
pub fixed_prefix : (c : List ℕ) → fixed_at (slice_range c 0 28) ≡ fixed_at c
fixed_prefix c =
    let f = u64_prefix c 28 0 (lit≤ tt) in
    let d = u64_prefix c 28 8 (lit≤ tt) in
    let n = u32_prefix c 28 24 (lit≤ tt) in
    cc

-- what the code has of the bytes before the table is what the bytes say
pub record IsFixedPart (b : List ℕ) (e : reading.Entry) (x : Fixed) : Type 0 where
  pub form : x.form ≡ u64_at (content_of b (Some e)) 0
  pub size : x.data_size ≡ u64_at (content_of b (Some e)) 8
  pub reported : x.table_len ≡ u32_at (content_of b (Some e)) 24
  pub few : x.table_len ≤ most_entries
  pub fits : 28 + 12 * x.table_len ≤ e.size

pub fixed_part : (b : List ℕ) (e : reading.Entry) (x y : Fixed) → x ≡ y → y ≡ fixed_at (content_of b (Some e)) →
    y.table_len ≤ most_entries → 28 + 12 * y.table_len ≤ e.size → IsFixedPart b e x
fixed_part b e x y q reported few fits = record {
  form = ap (λ (z : Fixed). z.form) (q ∙ reported);
  size = ap (λ (z : Fixed). z.data_size) (q ∙ reported);
  reported = ap (λ (z : Fixed). z.table_len) (q ∙ reported);
  few = subst (λ (z : Fixed). z.table_len ≤ most_entries) (sym q) few;
  fits = subst (λ (z : Fixed). 28 + 12 * z.table_len ≤ e.size) (sym q) fits;
}
