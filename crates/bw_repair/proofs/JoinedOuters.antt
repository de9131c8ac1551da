-- The outer header of a take under another size of its form.
use Rattle.std.proofs.Common.{◌≡◌, ◌∙◌, ℕ, zero, suc, ◌+◌, ◌*◌, ◌≤◌, Bool, true, false, List, ◌∷◌, ◌++◌}
use Rattle.std.proofs.Common.{length, Option, Some, None, Result, Ok, Err, refl, sym, ap, subst, arith, inl, inr}
use Rattle.std.specs.Prelude.{codes, not, nat_lt, ◌&&◌, ◌||◌, ◌==◌, if◌then◌else◌, option_map}
use Rattle.std.specs.Int.{w32, w64, from_le_bytes}
use Rattle.std.proofs.lemmas.Bool.{le-ltb, ltb-false, ne_eqb, eq-eqb, eqb-false, not-false, or_parts}
use Rattle.std.proofs.lemmas.Slice.Eq.{bytes_eq-Decides}
use Rattle.bw_model.specs.Limits.{most_entries}
use Rattle.bw_model.specs.Bytes.{first_that_holds, u32_at, u64_at, unsaid}
use Rattle.bw_model.specs.Reading.{Fault, Form, Sizes, ds64_faults, form_at, form_size_at, id_at, is_id}
use Rattle.bw_model.specs.Reading.{is_riff, is_wide}
use Rattle.bw_model.specs.Reading.{largest, outer, outer_faults, riff_faults, sizes_at, table_at}
use Rattle.bw_model.proofs.ChunkSteps.{NoneHolds, first-none, none_holds}
use Rattle.bw_inspect.specs.Outers.{opening_faults}
use Rattle.bw_inspect.proofs.Outers.{later_faults, outer_ok, riff_parts, wide_parts}
use Rattle.bw_repair.specs.JoinLaws.{resized_form, resized_sizes}
use Rattle.bw_repair.proofs.JoinedHeads.{IsResized}

-- bytes with an outer header have none of its faults
record IsOuter (b : List ℕ) (form : Form) : Type 0 where
  free : NoneHolds (outer_faults b)
  form_is : form_at b ≡ form

outer_to : (b : List ℕ) (form : Form) → outer b ≡ Ok form → IsOuter b form
unfolding outer
outer_to b form e = go (first_that_holds (outer_faults b)) refl e
  where
    go : (x : Option Fault) → first_that_holds (outer_faults b) ≡ x →
        ◌≡◌ {A = Result Form Fault} (elim x [ None ↦ Ok (form_at b) | Some f ↦ Err f ]) (Ok form) → IsOuter b form
    go None q e = record { free = none_holds (outer_faults b) q; form_is = (cc) }
    go (Some f) q e = absurd (cc)

outer_from : (b : List ℕ) (form : Form) → NoneHolds (outer_faults b) → form_at b ≡ form → outer b ≡ Ok form
outer_from b form free is = outer_ok b (first-none (outer_faults b) free) ∙ ap (λ (f : Form). Ok f) is

-- what the outer header of a take says
pub record HasOuter (b : List ℕ) (form : Form) : Type 0 where
  pub form_is : form_at b ≡ form
  pub there : 12 ≤ length b
  pub known : not (is_riff b || is_wide b) ≡ false
  pub typed : not (is_id (id_at b 8) (codes "WAVE")) ≡ false

-- .. and its `ds64`
pub record HasDs64 (b : List ℕ) : Type 0 where
  pub wide : is_wide b ≡ true
  pub spelled : not (is_id (id_at b 12) (codes "ds64")) ≡ false
  pub sized : nat_lt (u32_at b 16) 28 || (u32_at b 16 == unsaid) ≡ false
  pub few : nat_lt most_entries (u32_at b 44) ≡ false
  pub room : nat_lt (u32_at b 16) (28 + 12 * u32_at b 44) ≡ false
  pub there : 20 + u32_at b 16 ≤ length b
  pub long : 28 ≤ u32_at b 16
  pub said : u32_at b 16 ≡ unsaid → ⊥

other_holds : (u v : Bool) → u || v ≡ true → u ≡ false → v ≡ true
other_holds true v e f = absurd (cc)
other_holds false v e f = e

pub outer_has : (b : List ℕ) (form : Form) → outer b ≡ Ok form → HasOuter b form
outer_has b form e =
    let o = outer_to b form e in
    record {
      form_is = o.form_is;
      there = ltb-false (length b) 12 o.free.0;
      known = o.free.1.0;
      typed = o.free.1.1.0;
    }

pub outer_ds64 : (b : List ℕ) (form : Form) → outer b ≡ Ok form → is_riff b ≡ false → HasDs64 b
outer_ds64 b form e kind =
    let o = outer_to b form e in
    let f = subst NoneHolds (wide_parts b kind) o.free in
    let ds64 = f.1.1.1 in
    let sized = or_parts (nat_lt (u32_at b 16) 28) (u32_at b 16 == unsaid) ds64.1.1.0 in
    record {
      wide = other_holds (is_riff b) (is_wide b) (not-false (is_riff b || is_wide b) f.1.0) kind;
      spelled = ds64.1.0;
      sized = ds64.1.1.0;
      few = ds64.1.1.1.1.0;
      room = ds64.1.1.1.1.1.0;
      there = ltb-false (length b) (20 + u32_at b 16) ds64.1.1.1.1.1.1.0;
      long = ltb-false (u32_at b 16) 28 sized.0;
      said = eqb-false (u32_at b 16) unsaid sized.1;
    }

-- RIFF is none of the others
not_wide : (id : List ℕ) → is_id id (codes "RIFF") ≡ true → is_id id (codes "BW64") || is_id id (codes "RF64") ≡ false
not_wide id e =
    ap (λ (z : List ℕ). is_id z (codes "BW64") || is_id z (codes "RF64")) ((bytes_eq-Decides id (codes "RIFF")).0 e)

narrow_size : (b : List ℕ) → is_wide b ≡ false → form_size_at b ≡ u32_at b 4
narrow_size b e = ap (λ (v : Bool). if v && (u32_at b 4 == unsaid) then u64_at b 20 else u32_at b 4) e

wide_size : (b : List ℕ) → is_wide b ≡ true → u32_at b 4 ≡ unsaid → form_size_at b ≡ u64_at b 20
wide_size b e u =
    ap (λ (v : Bool). if v && (u32_at b 4 == unsaid) then u64_at b 20 else u32_at b 4) e
    ∙ ap (λ (v : Bool). if v then u64_at b 20 else u32_at b 4) (eq-eqb (u32_at b 4) unsaid u)

-- the form of bytes by its parts
form_made : (text : List ℕ) (form : Form) (size : ℕ) → id_at text 0 ≡ form.id → form_size_at text ≡ size →
    (if is_wide text then Some (sizes_at text) else None) ≡ option_map (resized_sizes size) form.sizes →
    form_at text ≡ resized_form size form
form_made text form size id sized sizes =
    ap (λ (i : List ℕ). with_parts i (form_size_at text) (if is_wide text then Some (sizes_at text) else None)) id
    ∙ ap (λ (n : ℕ). with_parts form.id n (if is_wide text then Some (sizes_at text) else None)) sized
    ∙ ap (λ (s : Option Sizes). with_parts form.id size s) sizes
  where
    with_parts : List ℕ → ℕ → Option Sizes → Form
    with_parts id size sizes = record { id = id; size = size; sizes = sizes }

-- RIFF has no other sizes
sizes_none : (t text : List ℕ) (form : Form) (size : ℕ) → form_at t ≡ form → is_wide t ≡ false → is_wide text ≡ false →
    (if is_wide text then Some (sizes_at text) else None) ≡ option_map (resized_sizes size) form.sizes
sizes_none t text form size is none none' =
    ap (λ (v : Bool). if v then Some (sizes_at text) else None) none'
    ∙ sym (ap (λ (v : Bool). option_map (resized_sizes size) (if v then Some (sizes_at t) else None)) none)
    ∙ ap (λ (f : Form). option_map (resized_sizes size) f.sizes) is

-- the sizes of `ds64`
sizes_some : (t text : List ℕ) (form : Form) (size : ℕ) → form_at t ≡ form → is_wide t ≡ true → is_wide text ≡ true →
    u64_at text 20 ≡ size → u64_at text 28 ≡ u64_at t 28 →
    table_at text 48 (u32_at text 44) ≡ table_at t 48 (u32_at t 44) →
    (if is_wide text then Some (sizes_at text) else None) ≡ option_map (resized_sizes size) form.sizes
sizes_some t text form size is wide wide' first second third =
    ap (λ (v : Bool). if v then Some (sizes_at text) else None) wide'
    ∙ ap (λ (n : ℕ). with_sizes n (u64_at text 28) (table_at text 48 (u32_at text 44))) first
    ∙ ap (λ (n : ℕ). with_sizes size n (table_at text 48 (u32_at text 44))) second
    ∙ ap (λ (rows : List (List ℕ × ℕ)). with_sizes size (u64_at t 28) rows) third
    ∙ sym (ap (λ (v : Bool). option_map (resized_sizes size) (if v then Some (sizes_at t) else None)) wide)
    ∙ ap (λ (f : Form). option_map (resized_sizes size) f.sizes) is
  where
    with_sizes : ℕ → ℕ → List (List ℕ × ℕ) → Option Sizes
    with_sizes form samples table = Some (record { form = form; «data» = samples; table = table })

module _ (t text : List ℕ) (form : Form) (size end : ℕ) where
  narrow_outer : outer t ≡ Ok form → IsResized t text form.id true size end → is_id form.id (codes "RIFF") ≡ true →
      12 ≤ end → end ≤ length text → end ≤ 8 + size → size ≤ 4294967294 → outer text ≡ Ok (resized_form size form)
  narrow_outer o r kind some there fits small =
      let h = outer_has t form o in
      let id : id_at text 0 ≡ id_at t 0 = r.named ∙ sym (ap (λ (f : Form). f.id) h.form_is) in
      let riff : is_riff text ≡ true = ap (λ (z : List ℕ). is_id z (codes "RIFF")) r.named ∙ kind in
      let wide : is_wide text ≡ false = not_wide (id_at text 0) riff in
      let wide' : is_wide t ≡ false =
      not_wide (id_at t 0) (ap (λ (z : List ℕ). is_id z (codes "RIFF")) (sym id) ∙ riff) in
      let said : u32_at text 4 ≡ size = r.narrow refl in
      let sized : form_size_at text ≡ size = narrow_size text wide ∙ said in
      let type : id_at text 8 ≡ id_at t 8 = r.ranges 8 12 (omega arith) (omega arith) some h.there (inl refl) in
      let free : NoneHolds (opening_faults text ++ (riff_faults text ++ later_faults text)) = (
        le-ltb (length text) 12 (omega (arith, some, there)),
        (
          ap (λ (z : List ℕ). not (is_id z (codes "RIFF") || (is_id z (codes "BW64") || is_id z (codes "RF64")))) id
              ∙ h.known,
          (
            ap (λ (z : List ℕ). not (is_id z (codes "WAVE"))) type ∙ h.typed,
            (
              ne_eqb (u32_at text 4) unsaid (λ e. omega (arith, e, said, small)),
              (
                le-ltb largest (form_size_at text) (omega (arith, sized, small)),
                (
                  le-ltb (form_size_at text) 4 (omega (arith, sized, some, fits)),
                  (ap (λ (v : Bool). v && nat_lt (8 + form_size_at text) (20 + u32_at text 16)) wide, tt),
                ),
              ),
            ),
          ),
        ),
      ) in
      outer_from text (resized_form size form) (subst NoneHolds (sym (riff_parts text riff)) free)
      (form_made text form size r.named sized (sizes_none t text form size h.form_is wide' wide))

  -- the rows of the table are those of t
  rows_same : (r : IsResized t text form.id false size end) (p n : ℕ) → 28 ≤ p → p + 12 * n ≤ end →
      p + 12 * n ≤ length t → table_at text p n ≡ table_at t p n
  rows_same r p zero low far there = refl
  rows_same r p (suc n) low far there =
      let step : p + 12 + 12 * n ≡ p + 12 * suc n = omega arith in
      let id : id_at text p ≡ id_at t p =
      r.ranges p (p + 4) (omega (arith, low)) (omega arith) (omega (arith, far, step)) (omega (arith, there, step))
      (inr (inr low)) in
      let number : u64_at text (p + 4) ≡ u64_at t (p + 4) =
      ap (from_le_bytes w64) (r.ranges (p + 4) (p + 4 + 8) (omega (arith, low)) (omega arith) (omega (arith, far, step))
      (omega (arith, there, step)) (inr (inr (omega (arith, low))))) in
      ap (λ (i : List ℕ). (i, u64_at text (p + 4)) ∷ table_at text (p + 12) n) id
      ∙ ap (λ (m : ℕ). (id_at t p, m) ∷ table_at text (p + 12) n) number
      ∙ ap (λ (rows : List (List ℕ × ℕ)). (id_at t p, u64_at t (p + 4)) ∷ rows)
      (rows_same r (p + 12) n (omega (arith, low)) (omega (arith, far, step)) (omega (arith, there, step)))

  wide_outer : outer t ≡ Ok form → IsResized t text form.id false size end → is_id form.id (codes "RIFF") ≡ false →
      20 + u32_at t 16 ≤ end → end ≤ length text → end ≤ 8 + size → size ≤ largest →
      outer text ≡ Ok (resized_form size form)
  wide_outer o r kind some there fits small =
      let h = outer_has t form o in
      let same : id_at t 0 ≡ form.id = ap (λ (f : Form). f.id) h.form_is in
      let id : id_at text 0 ≡ id_at t 0 = r.named ∙ sym same in
      let riff : is_riff text ≡ false = ap (λ (z : List ℕ). is_id z (codes "RIFF")) r.named ∙ kind in
      let d = outer_ds64 t form o (ap (λ (z : List ℕ). is_id z (codes "RIFF")) same ∙ kind) in
      let long = d.long in
      let whole = d.there in
      let wide : is_wide text ≡ true =
      ap (λ (z : List ℕ). is_id z (codes "BW64") || is_id z (codes "RF64")) id ∙ d.wide in
      let said : (u32_at text 4 ≡ unsaid) × (u64_at text 20 ≡ size) = r.wide refl in
      let sized : form_size_at text ≡ size = wide_size text wide said.0 ∙ said.1 in
      let type : id_at text 8 ≡ id_at t 8 =
      r.ranges 8 12 (omega arith) (omega arith) (omega (arith, some)) h.there (inr (inl (omega arith))) in
      let first : id_at text 12 ≡ id_at t 12 =
      r.ranges 12 16 (omega arith) (omega arith) (omega (arith, some)) (omega (arith, whole))
      (inr (inl (omega arith))) in
      let length_is : u32_at text 16 ≡ u32_at t 16 = ap (from_le_bytes w32)
      (r.ranges 16 20 (omega arith) (omega arith) (omega (arith, some)) (omega (arith, whole))
      (inr (inl (omega arith)))) in
      let samples : u64_at text 28 ≡ u64_at t 28 = ap (from_le_bytes w64)
      (r.ranges 28 36 (omega arith) (omega arith) (omega (arith, some, long)) (omega (arith, whole, long))
      (inr (inr (omega arith)))) in
      let count : u32_at text 44 ≡ u32_at t 44 = ap (from_le_bytes w32)
      (r.ranges 44 48 (omega arith) (omega arith) (omega (arith, some, long)) (omega (arith, whole, long))
      (inr (inr (omega arith)))) in
      let room : 28 + 12 * u32_at t 44 ≤ u32_at t 16 = ltb-false (u32_at t 16) (28 + 12 * u32_at t 44) d.room in
      let table : table_at text 48 (u32_at text 44) ≡ table_at t 48 (u32_at t 44) =
      ap (table_at text 48) count
      ∙ rows_same r 48 (u32_at t 44) (omega arith) (omega (arith, some, room)) (omega (arith, whole, room)) in
      let free : NoneHolds (opening_faults text ++ (ds64_faults text ++ later_faults text)) = (
        le-ltb (length text) 12 (omega (arith, some, there)),
        (
          ap (λ (z : List ℕ). not (is_id z (codes "RIFF") || (is_id z (codes "BW64") || is_id z (codes "RF64")))) id
              ∙ h.known,
          (
            ap (λ (z : List ℕ). not (is_id z (codes "WAVE"))) type ∙ h.typed,
            (
              le-ltb (length text) 20 (omega (arith, some, there)),
              (
                ap (λ (z : List ℕ). not (is_id z (codes "ds64"))) first ∙ d.spelled,
                (
                  ap (λ (n : ℕ). nat_lt n 28 || (n == unsaid)) length_is ∙ d.sized,
                  (
                    le-ltb (length text) 48 (omega (arith, some, there, long)),
                    (
                      ap (nat_lt most_entries) count ∙ d.few,
                      (
                        ap (λ (n : ℕ). nat_lt n (28 + 12 * u32_at text 44)) length_is
                            ∙ ap (λ (n : ℕ). nat_lt (u32_at t 16) (28 + 12 * n)) count ∙ d.room,
                        (
                          le-ltb (length text) (20 + u32_at text 16) (omega (arith, some, there, length_is)),
                          (
                            le-ltb largest (form_size_at text) (omega (arith, sized, small)),
                            (
                              le-ltb (form_size_at text) 4 (omega (arith, sized, some, fits)),
                              (
                                ap (λ (v : Bool). v && nat_lt (8 + form_size_at text) (20 + u32_at text 16)) wide
                                    ∙ le-ltb (8 + form_size_at text) (20 + u32_at text 16)
                                    (omega (arith, sized, some, fits, length_is)),
                                tt,
                              ),
                            ),
                          ),
                        ),
                      ),
                    ),
                  ),
                ),
              ),
            ),
          ),
        ),
      ) in
      outer_from text (resized_form size form) (subst NoneHolds (sym (wide_parts text riff)) free)
      (form_made text form size r.named sized
      (sizes_some t text form size h.form_is d.wide wide said.1 samples table))

  -- it is read, with the other size
  pub outer_resized : (riff : Bool) → outer t ≡ Ok form → IsResized t text form.id riff size end →
      is_id form.id (codes "RIFF") ≡ riff → 12 ≤ end → end ≤ length text → end ≤ 8 + size →
      size ≤ (if riff then 4294967294 else largest) → (riff ≡ false → 20 + u32_at t 16 ≤ end) →
      outer text ≡ Ok (resized_form size form)
  outer_resized true o r kind some there fits small wide = narrow_outer o r kind some there fits small
  outer_resized false o r kind some there fits small wide = wide_outer o r kind (wide refl) there fits small
