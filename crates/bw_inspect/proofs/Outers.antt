-- The outer header, in the parts in which it is read.
use Rattle.std.proofs.Common.{◌≡◌, ℕ, ◌+◌, ◌^◌, ◌≤◌, Bool, true, false, cond, ◌&&◌, List, [], ◌∷◌, ◌++◌, length, drop}
use Rattle.std.proofs.Common.{Option, Some, None, Ok, Err, refl, sym, ◌∙◌, ap, lit≤, arith}
use Rattle.std.specs.Prelude.{codes, not, nat_lt, slice_range}
use Rattle.std.proofs.lemmas.Bool.{lt-ltb, le-ltb, ltb-false}
use Rattle.bw_model.specs.Bytes.{first_that_holds, u32_at}
use Rattle.bw_model.specs.Reading as reading
use Rattle.bw_layout.specs.declared.chunk.ChunkHead.{ChunkHead}
use Rattle.bw_inspect.specs.declared.fault.InspectFault.{InspectFault}
use Rattle.bw_inspect.specs.declared.fault.InspectKind.TheVariants.{NotWave}
use Rattle.bw_inspect.specs.Faults.{bytes_fault, is_failed_read, is_of_bytes}
use Rattle.bw_inspect.specs.OtherFormats.{other_format_of, format_named}
use Rattle.bw_inspect.specs.declared.other.OtherFormat.{OtherFormat}
use Rattle.bw_inspect.specs.Places.{IsGiven, IsMissed, Nowhere}
use Rattle.bw_inspect.specs.Contents.{IsStopped}
use Rattle.bw_inspect.specs.Outers.{IsOpened, IsOutside, WantsDs64, form_faults, names_form, opening_faults}
use Rattle.bw_model.proofs.ChunkSteps.{none_holds}
use Rattle.bw_inspect.proofs.Contents.{range_prefix, u32_prefix}
use Rattle.bw_inspect.proofs.Faults.{bytes_no_read, of_bytes, halts_by_bytes, halts_further, halts_missed}

-- the last fault of the outer header: `ds64` reaches past the form
abbrev pub last_fault : List ℕ → List (Bool × reading.Fault)
last_fault b = reading.line
    (reading.is_wide b && nat_lt (8 + reading.form_size_at b) (20 + u32_at b 16)) reading.Truncated 12 ∷ []

-- the faults after the opening
abbrev pub later_faults : List ℕ → List (Bool × reading.Fault)
later_faults b = form_faults (reading.form_size_at b) ++ last_fault b

parts_by : (b : List ℕ) (v : Bool) → reading.is_riff b ≡ v →
    reading.outer_faults b ≡ opening_faults b
    ++ (cond v (reading.riff_faults b) (reading.ds64_faults b) ++ later_faults b)
parts_by b v e = ap (λ (u : Bool). opening_faults b
    ++ (cond u (reading.riff_faults b) (reading.ds64_faults b) ++ later_faults b)) e

-- the faults of a RIFF form, in parts
pub riff_parts : (b : List ℕ) → reading.is_riff b ≡ true →
    reading.outer_faults b ≡ opening_faults b ++ (reading.riff_faults b ++ later_faults b)
riff_parts b e = parts_by b true e

-- the faults of another form, in parts
pub wide_parts : (b : List ℕ) → reading.is_riff b ≡ false →
    reading.outer_faults b ≡ opening_faults b ++ (reading.ds64_faults b ++ later_faults b)
wide_parts b e = parts_by b false e

pub outer_err : (b : List ℕ) (g : reading.Fault) → first_that_holds (reading.outer_faults b) ≡ Some g →
    reading.outer b ≡ Err g
unfolding reading.outer
outer_err b g e = rw (reading.outer, e) refl

pub outer_ok : (b : List ℕ) → first_that_holds (reading.outer_faults b) ≡ None →
    reading.outer b ≡ Ok (reading.form_at b)
unfolding reading.outer
outer_ok b e = rw (reading.outer, e) refl

-- `Nowhere` never holds, so anything follows from it
pub none_wanted : (b : List ℕ) (n : ℕ) → Nowhere n → WantsDs64 b n
none_wanted b n h = absurd h

-- an opening without fault is there
pub opening_there : (b : List ℕ) → first_that_holds (opening_faults b) ≡ None → 12 ≤ length b
opening_there b free = ltb-false (length b) 12 (none_holds (opening_faults b) free).0

-- a part's first fault is that of the outer header
pub outside_by : (b : List ℕ) (most : ℕ) (wants : ℕ → Type 0) (faults : List (Bool × reading.Fault)) (f : InspectFault)
    (left : Option (List ℕ)) → most ≤ 2 ^ 62 + 8 → ((n : ℕ) → wants n → WantsDs64 b n) →
    IsStopped b most 12 wants faults f left →
    ((g : reading.Fault) → first_that_holds faults ≡ Some g → first_that_holds (reading.outer_faults b) ≡ Some g) →
    IsOutside b f left
unfolding halts_further
outside_by b most wants faults f left w l s k = record {
  halts = halts_further b most (2 ^ 62 + 8) 12 wants (WantsDs64 b) f left w l s.halts;
  fault = λ g h. outer_err b g (k g (s.fault g h));
}

-- the first 12 bytes

short : (b : List ℕ) → nat_lt (length b) 12 ≡ true →
    first_that_holds (opening_faults b) ≡ Some (record { kind = reading.NotWave; offset = 0 })
short b a = rw a refl

no_form : (b : List ℕ) → nat_lt (length b) 12 ≡ false → names_form (reading.id_at b 0) ≡ false →
    first_that_holds (opening_faults b) ≡ Some (record { kind = reading.NotWave; offset = 0 })
no_form b a n = rw (a, n) refl

no_wave : (b : List ℕ) → nat_lt (length b) 12 ≡ false → names_form (reading.id_at b 0) ≡ true →
    reading.is_id (reading.id_at b 8) (codes "WAVE") ≡ false →
    first_that_holds (opening_faults b) ≡ Some (record { kind = reading.NotWave; offset = 8 })
no_wave b a n w = rw (a, n, w) refl

all_well : (b : List ℕ) → nat_lt (length b) 12 ≡ false → names_form (reading.id_at b 0) ≡ true →
    reading.is_id (reading.id_at b 8) (codes "WAVE") ≡ true → first_that_holds (opening_faults b) ≡ None
all_well b a n w = rw (a, n, w) refl

-- b ends before
pub opening_missed : (b : List ℕ) (cut f : InspectFault) (left : Option (List ℕ)) →
    cut ≡ record { kind = NotWave; offset = 0 } → IsMissed b 0 12 cut f left →
    IsStopped b 12 12 Nowhere (opening_faults b) f left
opening_missed b cut f left q m = record {
  halts = halts_missed b 0 12 12 12 Nowhere cut f left m (ap (λ (z : InspectFault). is_of_bytes z.kind) q) (lit≤ tt)
      (omega arith);
  fault = λ g h. let x = m.cuts (ap not (bytes_no_read f.kind (of_bytes f g h))) in
      short b (lt-ltb (length b) 12 x.1) ∙ (sym (ap bytes_fault (x.0 ∙ q)) ∙ h);
}

-- bytes that end before it name no format
pub short_format : (b : List ℕ) (cut f : InspectFault) (left : Option (List ℕ)) → IsMissed b 0 12 cut f left →
    is_failed_read f.kind ≡ false → None ≡ other_format_of b
short_format b cut f left m kept =
    let short : nat_lt (length b) 12 ≡ true = lt-ltb (length b) 12 (m.cuts (ap not kept)).1 in
    let none : Option OtherFormat = None in
    sym (ap (λ (v : Bool). cond v none (format_named (slice_range b 0 12))) short)

-- the parts of the opening
pub opened_id : (b buf : List ℕ) → buf ≡ slice_range b 0 12 → slice_range buf 0 4 ≡ reading.id_at b 0
opened_id b buf e = ap (λ (z : List ℕ). slice_range z 0 4) e ∙ range_prefix b 12 0 4 (lit≤ tt) (lit≤ tt)

pub opened_type : (b buf : List ℕ) → buf ≡ slice_range b 0 12 → slice_range buf 8 12 ≡ reading.id_at b 8
opened_type b buf e = ap (λ (z : List ℕ). slice_range z 8 12) e ∙ range_prefix b 12 8 12 (lit≤ tt) (lit≤ tt)

pub opened_size : (b buf : List ℕ) → buf ≡ slice_range b 0 12 → u32_at buf 4 ≡ u32_at b 4
opened_size b buf e = ap (λ (z : List ℕ). u32_at z 4) e ∙ u32_prefix b 12 4 (lit≤ tt)

-- the opening was read
pub record IsTaken (b buf : List ℕ) (left : Option (List ℕ)) : Type 0 where
  pub there : nat_lt (length b) 12 ≡ false
  pub long : 12 ≤ length b
  pub bytes : buf ≡ slice_range b 0 12
  pub rest : left ≡ Some (drop 12 b)

pub taken : (b buf : List ℕ) (left : Option (List ℕ)) → IsGiven b 0 12 buf left → IsTaken b buf left
taken b buf left g = record {
  there = le-ltb (length b) 12 (g.within (lit≤ tt));
  long = g.within (lit≤ tt);
  bytes = g.bytes;
  rest = g.rest;
}

-- another form
pub other_form : (b buf : List ℕ) (f : InspectFault) (left : Option (List ℕ)) → IsTaken b buf left →
    names_form (slice_range buf 0 4) ≡ false → f ≡ record { kind = NotWave; offset = 0 } →
    IsStopped b 12 12 Nowhere (opening_faults b) f left
other_form b buf f left t n q = record {
  halts = halts_by_bytes b 12 12 12 Nowhere f left (lit≤ tt) t.long t.rest
      (ap (λ (z : InspectFault). is_of_bytes z.kind) q);
  fault = λ g h. no_form b t.there (ap names_form (sym (opened_id b buf t.bytes)) ∙ n) ∙ (sym (ap bytes_fault q) ∙ h);
}

-- another type
pub other_type : (b buf : List ℕ) (f : InspectFault) (left : Option (List ℕ)) → IsTaken b buf left →
    names_form (slice_range buf 0 4) ≡ true → reading.is_id (slice_range buf 8 12) (codes "WAVE") ≡ false →
    f ≡ record { kind = NotWave; offset = 8 } → IsStopped b 12 12 Nowhere (opening_faults b) f left
other_type b buf f left t n w q = record {
  halts = halts_by_bytes b 12 12 12 Nowhere f left (lit≤ tt) t.long t.rest
      (ap (λ (z : InspectFault). is_of_bytes z.kind) q);
  fault = λ g h.
      no_wave b t.there (ap names_form (sym (opened_id b buf t.bytes)) ∙ n)
      (ap (λ (z : List ℕ). reading.is_id z (codes "WAVE")) (sym (opened_type b buf t.bytes)) ∙ w)
      ∙ (sym (ap bytes_fault q) ∙ h);
}

-- no fault
pub opened : (b buf : List ℕ) (h : ChunkHead) (left : Option (List ℕ)) → IsTaken b buf left →
    names_form (slice_range buf 0 4) ≡ true → reading.is_id (slice_range buf 8 12) (codes "WAVE") ≡ true →
    h.id ≡ slice_range buf 0 4 →
    h.size32 ≡ u32_at buf 4 → IsOpened b h left
opened b buf h left t n w i s = record {
  free = all_well b t.there (ap names_form (sym (opened_id b buf t.bytes)) ∙ n)
      (ap (λ (z : List ℕ). reading.is_id z (codes "WAVE")) (sym (opened_type b buf t.bytes)) ∙ w);
  spells = i ∙ opened_id b buf t.bytes;
  reports = s ∙ opened_size b buf t.bytes;
  rest = t.rest;
}
