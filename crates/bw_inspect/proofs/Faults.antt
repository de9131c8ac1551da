-- Which faults are faults of the bytes.
use Rattle.std.proofs.Common.{◌≡◌, ℕ, ◌+◌, ◌≤◌, arith, Bool, true, false, List, length, drop, Option, Some, None, refl}
use Rattle.std.proofs.Common.{sym, ◌∙◌, ap}
use Rattle.std.specs.Prelude.{option_map, is_some, not}
use Rattle.bw_model.specs.Reading as reading
use Rattle.bw_inspect.specs.declared.fault.InspectFault.{InspectFault}
use Rattle.bw_inspect.specs.declared.fault.InspectKind.{InspectKind}
use Rattle.bw_inspect.specs.declared.fault.InspectKind.TheVariants.{Read, Memory}
use Rattle.bw_inspect.specs.Faults.{is_failed_read, is_memory, is_of_bytes, kind_of, bytes_fault}
use Rattle.bw_inspect.specs.Places.{Halts, IsMissed}

-- a fault of the bytes is no failed read
pub bytes_no_read : (k : InspectKind) → is_of_bytes k ≡ true → is_failed_read k ≡ false
bytes_no_read Read e = cc
bytes_no_read _ e = refl

-- nor lack of memory
pub bytes_no_memory : (k : InspectKind) → is_of_bytes k ≡ true → is_memory k ≡ false
bytes_no_memory Memory e = cc
bytes_no_memory _ e = refl

-- lack of memory is no failed read
pub memory_no_read : (k : InspectKind) → is_memory k ≡ true → is_failed_read k ≡ false
memory_no_read Read e = cc
memory_no_read _ e = refl

pub not_both : (v : Bool) → v ≡ false → v ≡ true → ⊥
not_both v f t = let x : false ≡ true = sym f ∙ t in cc

named : (o : Option reading.FaultKind) (n : ℕ) (g : reading.Fault) →
    option_map (λ (k : reading.FaultKind). record { kind = k; offset = n }) o ≡ Some g → is_some o ≡ true
named None n g e = cc
named (Some k) n g e = refl

-- a fault that the definitions name is one of the bytes
pub of_bytes : (f : InspectFault) (g : reading.Fault) → bytes_fault f ≡ Some g → is_of_bytes f.kind ≡ true
of_bytes f g e = named (kind_of f.kind) f.offset g e

kind_reported : (o : Option reading.FaultKind) (n : ℕ) → is_some o ≡ true →
    (g : reading.Fault) × (option_map {U = reading.Fault} (λ (k : reading.FaultKind). record { kind = k; offset = n }) o
    ≡ Some g)
kind_reported None n e = cc
kind_reported (Some k) n e = (record { kind = k; offset = n }, refl)

-- and such a fault is named
pub reported_fault : (f : InspectFault) → is_of_bytes f.kind ≡ true → (g : reading.Fault) × (bytes_fault f ≡ Some g)
reported_fault f e = kind_reported (kind_of f.kind) f.offset e

-- a call stops where it is, for a fault of the bytes
pub halts_by_bytes : (b : List ℕ) (most place reached : ℕ) (wants : ℕ → Type 0) (f : InspectFault)
    (left : Option (List ℕ)) → reached ≤ most → reached ≤ length b → left ≡ Some (drop reached b) →
    is_of_bytes f.kind ≡ true →
    Halts b most place wants f left
halts_by_bytes b most place reached wants f left w l r k = record {
  reached = reached;
  within = w;
  there = l;
  rest = r;
  fails = λ t. absurd (not_both (is_failed_read f.kind) (bytes_no_read f.kind k) t);
  memory = λ t. absurd (not_both (is_memory f.kind) (bytes_no_memory f.kind k) t);
}

-- it may have read further
unfoldable pub halts_further : (b : List ℕ) (most more place : ℕ) (wants further : ℕ → Type 0) (f : InspectFault)
    (left : Option (List ℕ)) → most ≤ more → ((n : ℕ) → wants n → further n) → Halts b most place wants f left →
    Halts b more place further f left
halts_further b most more place wants further f left w k h = record {
  reached = h.reached;
  within = let x = h.within in omega arith;
  there = h.there;
  rest = h.rest;
  fails = h.fails;
  memory = λ t. let m = h.memory t in (m.0, k h.reached m.1);
}

-- bytes that were missed are no lack of memory
pub missed_no_memory : (b : List ℕ) (place n : ℕ) (cut f : InspectFault) (left : Option (List ℕ)) →
    IsMissed b place n cut f left → is_of_bytes cut.kind ≡ true → is_memory f.kind ≡ true → ⊥
missed_no_memory b place n cut f left m k t =
    let x = m.cuts (ap not (memory_no_read f.kind t)) in
    not_both (is_memory f.kind) (ap (λ (z : InspectFault). is_memory z.kind) x.0 ∙ bytes_no_memory cut.kind k) t

-- they stop a call
pub halts_missed : (b : List ℕ) (place n most p : ℕ) (wants : ℕ → Type 0) (cut f : InspectFault)
    (left : Option (List ℕ)) → IsMissed b place n cut f left → is_of_bytes cut.kind ≡ true → place + n ≤ most →
    place ≤ length b →
    Halts b most p wants f left
halts_missed b place n most p wants cut f left m k w l = record {
  reached = place + m.taken;
  within = let x = m.small in omega arith;
  there = let x = m.there in grind arith;
  rest = m.rest;
  fails = m.fails;
  memory = λ t. absurd (missed_no_memory b place n cut f left m k t);
}

-- a fault of the bytes is no lack of memory
pub no_memory : (f : InspectFault) → is_of_bytes f.kind ≡ true → is_memory f.kind ≡ true → ⊥
no_memory f k t = not_both (is_memory f.kind) (bytes_no_memory f.kind k) t
