-- The outer header of RIFF.
use Rattle.std.proofs.Common.{◌≡◌, ℕ, ◌+◌, ◌^◌, ◌≤◌, Bool, true, false, cond, ◌&&◌, ◌||◌, List, ◌++◌, Option, Some}
use Rattle.std.proofs.Common.{None, Ok, sym, ◌∙◌, ap, arith, lit≤}
use Rattle.std.specs.Prelude.{codes, nat_lt, ◌==◌, if◌then◌else◌}
use Rattle.std.proofs.lemmas.Bool.{ltb-false}
use Rattle.std.proofs.lemmas.Slice.Eq.{bytes_eq-Decides}
use Rattle.bw_model.specs.Bytes.{first_that_holds, u32_at, u64_at, unsaid}
use Rattle.bw_model.specs.Reading as reading
use Rattle.bw_model.proofs.ChunkSteps.{none_holds}
use Rattle.bw_layout.specs.declared.chunk.ChunkHead.{ChunkHead}
use Rattle.bw_layout.specs.declared.sizes.Ds64.{Ds64}
use Rattle.bw_inspect.specs.declared.fault.InspectFault.{InspectFault}
use Rattle.bw_inspect.specs.declared.fault.InspectKind.TheVariants.{NoSize}
use Rattle.bw_inspect.specs.declared.walk.Walk.{Walk}
use Rattle.bw_inspect.specs.declared.walk.Form.{Form}
use Rattle.bw_inspect.specs.Faults.{bytes_fault, is_of_bytes}
use Rattle.bw_inspect.specs.Chunks.{sizes_of}
use Rattle.bw_inspect.specs.Places.{Nowhere}
use Rattle.bw_inspect.specs.Contents.{IsStopped}
use Rattle.bw_inspect.specs.Outers.{BeginsForm, IsOpened, IsOutside, WantsDs64, form_faults, opening_faults}
use Rattle.bw_inspect.specs.Walks.{form_by}
use Rattle.bw_inspect.proofs.Faults.{halts_by_bytes}
use Rattle.bw_inspect.proofs.ChunkFaults.{first_none, first_some}
use Rattle.bw_inspect.proofs.Outers.{last_fault, later_faults, none_wanted, opening_there, outer_err, outer_ok}
use Rattle.bw_inspect.proofs.Outers.{outside_by, riff_parts}
use Rattle.bw_inspect.proofs.WideBegins.{IsFresh, fresh_stands}

-- a fault of the first 12 bytes
pub opening_refused : (b : List ℕ) (f : InspectFault) (left : Option (List ℕ)) →
    IsStopped b 12 12 Nowhere (opening_faults b) f left → IsOutside b f left
opening_refused b f left s =
    outside_by b 12 Nowhere (opening_faults b) f left (lit≤ tt) (none_wanted b) s
    (λ g k. first_some (opening_faults b)
    ((if reading.is_riff b then reading.riff_faults b else reading.ds64_faults b) ++ later_faults b) g k)

-- RIFF is none of the others
not_wide : (b : List ℕ) → reading.is_riff b ≡ true → reading.is_wide b ≡ false
not_wide b r = ap (λ (z : List ℕ). reading.is_id z (codes "BW64") || reading.is_id z (codes "RF64"))
    ((bytes_eq-Decides (reading.id_at b 0) (codes "RIFF")).0 r)

after_opening : (b : List ℕ) (h : ChunkHead) (left : Option (List ℕ)) → IsOpened b h left → reading.is_riff b ≡ true →
    first_that_holds (reading.outer_faults b) ≡ first_that_holds (reading.riff_faults b ++ later_faults b)
after_opening b h left o r =
    ap first_that_holds (riff_parts b r)
    ∙ first_none (opening_faults b) (reading.riff_faults b ++ later_faults b) o.free

unsaid_by : (b : List ℕ) (v : Bool) → (u32_at b 4 == unsaid) ≡ v →
    first_that_holds (reading.riff_faults b) ≡ cond v (Some (record { kind = reading.NoSize; offset = 4 })) None
unsaid_by b v e = ap (λ (u : Bool). cond u (Some (record { kind = reading.NoSize; offset = 4 })) None) e

-- the size isn't given
pub unsaid_refused : (b : List ℕ) (h : ChunkHead) (f : InspectFault) (left : Option (List ℕ)) → IsOpened b h left →
    reading.is_riff b ≡ true → (h.size32 == unsaid) ≡ true →
    f ≡ record { kind = NoSize; offset = 4 } → IsOutside b f left
unsaid_refused b h f left o r u q = record {
  halts = halts_by_bytes b (2 ^ 62 + 8) 12 12 (WantsDs64 b) f left (lit≤ tt) (opening_there b o.free) o.rest
      (ap (λ (z : InspectFault). is_of_bytes z.kind) q);
  fault = λ g k.
      outer_err b g (after_opening b h left o r ∙ first_some (reading.riff_faults b) (later_faults b) g
      (unsaid_by b true (ap (λ (n : ℕ). n == unsaid) (sym o.reports) ∙ u) ∙ (sym (ap bytes_fault q) ∙ k)));
}

-- the size is given
pub record IsSaid (b : List ℕ) (h : ChunkHead) : Type 0 where
  pub size_is : reading.form_size_at b ≡ h.size32
  pub wide : reading.is_wide b ≡ false
  pub later : first_that_holds (reading.outer_faults b) ≡ first_that_holds (later_faults b)

pub said : (b : List ℕ) (h : ChunkHead) (left : Option (List ℕ)) → IsOpened b h left → reading.is_riff b ≡ true →
    (h.size32 == unsaid) ≡ false → IsSaid b h
said b h left o r u =
    let wide = not_wide b r in
    record {
      size_is = ap (λ (v : Bool). if v && (u32_at b 4 == unsaid) then u64_at b 20 else u32_at b 4) wide ∙ sym o.reports;
      wide = wide;
      later = after_opening b h left o r
          ∙ first_none (reading.riff_faults b) (later_faults b)
          (unsaid_by b false (ap (λ (n : ℕ). n == unsaid) (sym o.reports) ∙ u));
    }

-- the size can't be
pub size_refused : (b : List ℕ) (h : ChunkHead) (f : InspectFault) (left : Option (List ℕ)) → IsOpened b h left →
    IsSaid b h → is_of_bytes f.kind ≡ true →
    bytes_fault f ≡ first_that_holds (form_faults h.size32) → IsOutside b f left
size_refused b h f left o s k q = record {
  halts = halts_by_bytes b (2 ^ 62 + 8) 12 12 (WantsDs64 b) f left (lit≤ tt) (opening_there b o.free) o.rest k;
  fault = λ g t.
      outer_err b g (s.later ∙ first_some (form_faults (reading.form_size_at b)) (last_fault b) g
      (ap (λ (n : ℕ). first_that_holds (form_faults n)) s.size_is ∙ (sym q ∙ t)));
}

-- the walk begins
pub riff_begins : (b : List ℕ) (h : ChunkHead) (form : Form) (w : Walk) (left : Option (List ℕ)) → IsOpened b h left →
    IsSaid b h → form.id ≡ h.id → form.size ≡ h.size32 → form.sizes ≡ None →
    first_that_holds (form_faults h.size32) ≡ None → IsFresh w →
    BeginsForm b form w left
riff_begins b h form w left o s i n z free f =
    let four : 4 ≤ h.size32 = ltb-false h.size32 4 (none_holds (form_faults h.size32) free).1.0 in
    let none : first_that_holds (reading.outer_faults b) ≡ None =
    s.later
    ∙ (first_none (form_faults (reading.form_size_at b)) (last_fault b)
    (ap (λ (k : ℕ). first_that_holds (form_faults k)) s.size_is ∙ free)
    ∙ ap (λ (u : Bool). cond (u && nat_lt (8 + reading.form_size_at b) (20 + u32_at b 16))
    (Some (record { kind = reading.Truncated; offset = 12 })) None) s.wide) in
    record {
      header =
          outer_ok b none
          ∙ (ap (λ (v : Bool). Ok
          (record {
            id = reading.id_at b 0;
            size = reading.form_size_at b;
            sizes = cond v (Some (reading.sizes_at b)) None;
          })) s.wide
          ∙ (ap (λ (y : List ℕ). Ok (record { id = y; size = reading.form_size_at b; sizes = None }))
          (sym o.spells ∙ sym i)
          ∙ (ap (λ (k : ℕ). Ok (record { id = form.id; size = k; sizes = None })) (s.size_is ∙ sym n)
          ∙ ap (λ (y : Option Ds64). Ok (record { id = form.id; size = form.size; sizes = sizes_of y })) (sym z))));
      stands = fresh_stands b (form_by form) w left f (omega arith) (opening_there b o.free) o.rest;
    }
