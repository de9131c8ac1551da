-- A BW64 or RF64 file after its `ds64`.
use Rattle.std.proofs.Common.{◌≡◌, ℕ, ◌+◌, ◌*◌, ◌^◌, ◌≤◌, ◌<◌, Bool, true, false, cond, ◌&&◌, List, Option, Some, None}
use Rattle.std.proofs.Common.{Ok, sym, ◌∙◌, ap, subst, arith, [], inl}
use Rattle.std.specs.Prelude.{nat_lt, ◌==◌, if◌then◌else◌}
use Rattle.std.proofs.lemmas.Bool.{lt-ltb, le-ltb, ltb-false}
use Rattle.bw_model.specs.Bytes.{first_that_holds, u32_at, u64_at, unsaid}
use Rattle.bw_model.specs.Reading as reading
use Rattle.bw_model.specs.Report.{content_of}
use Rattle.bw_layout.specs.declared.chunk.ChunkHead.{ChunkHead}
use Rattle.bw_layout.specs.declared.sizes.Ds64.{Ds64}
use Rattle.bw_inspect.specs.declared.fault.InspectFault.{InspectFault}
use Rattle.bw_inspect.specs.declared.fault.InspectKind.TheVariants.{Truncated}
use Rattle.bw_inspect.specs.Faults.{bytes_fault, is_of_bytes}
use Rattle.bw_inspect.specs.Chunks.{sizes_by}
use Rattle.bw_inspect.specs.Contents.{ReadTo, IsEndOf, IsStoppedIn}
use Rattle.bw_inspect.specs.Tables.{IsDs64Head, IsDs64Read, ds64_entry, sizes_in, table_faults}
use Rattle.bw_inspect.specs.Outers.{IsOpened, IsOutside, WantsDs64, form_faults}
use Rattle.bw_model.proofs.ChunkSteps.{none_holds}
use Rattle.bw_inspect.proofs.Faults.{halts_by_bytes}
use Rattle.bw_inspect.proofs.ChunkFaults.{first_none, first_some}
use Rattle.bw_inspect.proofs.Outers.{last_fault, later_faults, outer_err, outer_ok}
use Rattle.bw_inspect.proofs.WideForms.{IsHeadFree, after_head, head_free, row_faults, rows_are, sizes_there, wide_by}

-- `ds64` was read, and what it says is known
pub record IsWideRead (b : List ℕ) (h : ChunkHead) (e : reading.Entry) (x : Ds64) (size : ℕ) : Type 0 where
  pub head : IsHeadFree b
  pub entry : e ≡ ds64_entry b
  pub reported : sizes_by x ≡ reading.sizes_at b
  pub wide : reading.is_wide b ≡ true
  pub size_is : reading.form_size_at b ≡ size
  pub later : first_that_holds (reading.outer_faults b) ≡ first_that_holds (later_faults b)

size_by : (v w : Bool) (a c : ℕ) → v ≡ true → (if v && w then a else c) ≡ (if w then a else c)
size_by v w a c e = ap (λ (u : Bool). if u && w then a else c) e

pub wide_read : (b : List ℕ) (h : ChunkHead) (e : reading.Entry) (x : Ds64) (size : ℕ)
    (left mid left' : Option (List ℕ)) → IsOpened b h left → reading.is_riff b ≡ false → IsDs64Head b e mid →
    IsDs64Read b e x left' →
    size ≡ (if h.size32 == unsaid then x.form else h.size32) → IsWideRead b h e x size
wide_read b h e x size left mid left' o r d k s =
    let head = head_free b d.free in
    let rows : first_that_holds (row_faults b) ≡ None =
    ap first_that_holds (sym (rows_are b head.long))
    ∙ subst (λ (z : reading.Entry). first_that_holds (table_faults b z) ≡ None) d.entry k.free in
    let room : 28 + 12 * u32_at b 44 ≤ u32_at b 16 =
    ltb-false (u32_at b 16) (28 + 12 * u32_at b 44) (none_holds (row_faults b) rows).1.1.0 in
    let reported : sizes_by x ≡ reading.sizes_at b =
    subst (λ (z : reading.Entry). sizes_by x ≡ sizes_in (content_of b (Some z))) d.entry k.reported
    ∙ sizes_there b head.long room in
    let wide = wide_by b o.free r in
    let form : x.form ≡ u64_at b 20 = ap (λ (z : reading.Sizes). z.form) reported in
    record {
      head = head;
      entry = d.entry;
      reported = reported;
      wide = wide;
      size_is =
          size_by (reading.is_wide b) (u32_at b 4 == unsaid) (u64_at b 20) (u32_at b 4) wide
          ∙ (ap (λ (n : ℕ). if n == unsaid then u64_at b 20 else n) (sym o.reports)
          ∙ (ap (λ (n : ℕ). if h.size32 == unsaid then n else h.size32) (sym form) ∙ sym s));
      later = after_head b h left o r d.free ∙ first_none (row_faults b) (later_faults b) rows;
    }

-- the form's size can't be
pub form_refused : (b : List ℕ) (h : ChunkHead) (e : reading.Entry) (x : Ds64) (size : ℕ) (f : InspectFault)
    (left : Option (List ℕ)) → IsWideRead b h e x size → ReadTo b e e.size left → e.size < 2 ^ 32 →
    is_of_bytes f.kind ≡ true →
    bytes_fault f ≡ first_that_holds (form_faults size) → IsOutside b f left
form_refused b h e x size f left w r small k q =
    let place : e.place ≡ 12 = ap (λ (z : reading.Entry). z.place) w.entry in
    record {
      halts = halts_by_bytes b (2 ^ 62 + 8) 12 (e.place + 8 + e.size) (WantsDs64 b) f left
          (omega arith) r.there r.rest k;
      fault = λ g t.
          outer_err b g (w.later ∙ first_some (form_faults (reading.form_size_at b)) (last_fault b) g
          (ap (λ (n : ℕ). first_that_holds (form_faults n)) w.size_is ∙ (sym q ∙ t)));
    }

pub last_by : (b : List ℕ) (h : ChunkHead) (e : reading.Entry) (x : Ds64) (size : ℕ) (v : Bool) →
    IsWideRead b h e x size → first_that_holds (form_faults size) ≡ None → nat_lt (8 + size) (20 + u32_at b 16) ≡ v →
    first_that_holds (reading.outer_faults b) ≡ cond v (Some (record { kind = reading.Truncated; offset = 12 })) None
last_by b h e x size v w free t =
    let wide = w.wide in
    let is = w.size_is in
    w.later
    ∙ (first_none (form_faults (reading.form_size_at b)) (last_fault b)
    (ap (λ (n : ℕ). first_that_holds (form_faults n)) w.size_is ∙ free)
    ∙ (ap (λ (u : Bool). cond (u && nat_lt (8 + reading.form_size_at b) (20 + u32_at b 16))
    (Some (record { kind = reading.Truncated; offset = 12 })) None) wide
    ∙ (ap (λ (n : ℕ). cond (nat_lt (8 + n) (20 + u32_at b 16))
    (Some (record { kind = reading.Truncated; offset = 12 })) None) is
    ∙ ap (λ (u : Bool). cond u (Some (record { kind = reading.Truncated; offset = 12 })) None) t)))

-- `ds64` reaches past the form
pub past_form : (b : List ℕ) (h : ChunkHead) (e : reading.Entry) (x : Ds64) (size : ℕ) (f : InspectFault)
    (left : Option (List ℕ)) → IsWideRead b h e x size → first_that_holds (form_faults size) ≡ None →
    ReadTo b e e.size left → e.size < 2 ^ 32 →
    8 + size < e.place + 8 + e.size → f ≡ record { kind = Truncated; offset = e.place } → IsOutside b f left
past_form b h e x size f left w free r small past q =
    let place : e.place ≡ 12 = ap (λ (z : reading.Entry). z.place) w.entry in
    let bytes : e.size ≡ u32_at b 16 = ap (λ (z : reading.Entry). z.size) w.entry in
    let test : nat_lt (8 + size) (20 + u32_at b 16) ≡ true = lt-ltb (8 + size) (20 + u32_at b 16) (omega arith) in
    let f' : f ≡ record { kind = Truncated; offset = 12 } =
    q ∙ ap (λ (n : ℕ). record { kind = Truncated; offset = n }) place in
    record {
      halts = halts_by_bytes b (2 ^ 62 + 8) 12 (e.place + 8 + e.size) (WantsDs64 b) f left (omega arith) r.there r.rest
          (ap (λ (z : InspectFault). is_of_bytes z.kind) q);
      fault = λ g t. outer_err b g (last_by b h e x size true w free test ∙ (sym (ap bytes_fault f') ∙ t));
    }

-- it couldn't be listed
pub listed_refused : (b : List ℕ) (h : ChunkHead) (e : reading.Entry) (x : Ds64) (size : ℕ) (f : InspectFault)
    (left : Option (List ℕ)) → IsWideRead b h e x size → first_that_holds (form_faults size) ≡ None → e.size < 2 ^ 32 →
    e.place + 8 + e.size ≤ 8 + size → IsStoppedIn b (IsEndOf e) [] e f left → IsOutside b f left
listed_refused b h e x size f left w free small inside s =
    let place : e.place ≡ 12 = ap (λ (z : reading.Entry). z.place) w.entry in
    let bytes : e.size ≡ u32_at b 16 = ap (λ (z : reading.Entry). z.size) w.entry in
    let most = s.halts.within in
    let last : nat_lt (8 + size) (20 + u32_at b 16) ≡ false = le-ltb (8 + size) (20 + u32_at b 16) (omega arith) in
    let header : reading.outer b ≡ Ok (reading.form_at b) = outer_ok b (last_by b h e x size false w free last) in
    record {
      halts = record {
        reached = s.halts.reached;
        within = omega arith;
        there = s.halts.there;
        rest = s.halts.rest;
        fails = s.halts.fails;
        memory = λ t.
            let m = s.halts.memory t in
            let end : s.halts.reached ≡ 20 + u32_at b 16 = (let z = m.1 in omega arith) in
            (m.0 ∙ place, inl (record { wide = w.wide; form = reading.form_at b; header = header; ends = end }));
      };
      fault = λ g t. absurd (let y : None ≡ Some g = s.fault g t in cc);
    }
