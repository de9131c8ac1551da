-- The outer header of BW64 and RF64, after its opening.
use Rattle.std.proofs.Common.{◌≡◌, ℕ, zero, suc, ◌+◌, ◌*◌, ◌^◌, ◌≤◌, ◌<◌, Bool, true, false, ◌||◌, List, [], ◌∷◌, ◌++◌}
use Rattle.std.proofs.Common.{length, Option, Some, None, refl, sym, ◌∙◌, ap, subst, arith, lit≤, add_assoc, inr}
use Rattle.std.specs.Prelude.{codes, not, nat_lt, ◌==◌, slice_range}
use Rattle.std.specs.Int.{w32, w64, from_le_bytes}
use Rattle.std.proofs.lemmas.Bool.{ltb-false}
use Rattle.bw_model.specs.Bytes.{first_that_holds, u32_at, u64_at, unsaid}
use Rattle.bw_model.specs.Reading as reading
use Rattle.bw_model.specs.Report.{content_of}
use Rattle.bw_layout.specs.declared.chunk.ChunkHead.{ChunkHead}
use Rattle.bw_inspect.specs.declared.fault.InspectFault.{InspectFault}
use Rattle.bw_inspect.specs.Chunks.{counted_faults}
use Rattle.bw_inspect.specs.Places.{HasGrown, Nowhere}
use Rattle.bw_inspect.specs.Contents.{IsStopped}
use Rattle.bw_inspect.specs.Tables.{IsDs64Head, WantsEntry, ds64_entry, ds64_head_faults, sizes_in, table_faults}
use Rattle.bw_inspect.specs.Outers.{IsOpened, IsOutside, WantsDs64, opening_faults}
use Rattle.bw_model.proofs.ChunkSteps.{none_holds}
use Rattle.bw_inspect.proofs.Contents.{in_content}
use Rattle.bw_inspect.proofs.ChunkFaults.{first_none, first_some}
use Rattle.bw_inspect.proofs.Outers.{later_faults, none_wanted, wide_parts, outside_by}

-- a number of a content, in all the bytes

u32_there : (b : List ℕ) (e : reading.Entry) (p : ℕ) → p + 4 ≤ e.size →
    u32_at (content_of b (Some e)) p ≡ u32_at b (e.place + 8 + p)
u32_there b e p h = ap (from_le_bytes w32)
    (in_content b e p (p + 4) (omega arith) h
    ∙ ap (λ (k : ℕ). slice_range b (e.place + 8 + p) k) (sym (add_assoc (e.place + 8) p 4)))

u64_there : (b : List ℕ) (e : reading.Entry) (p : ℕ) → p + 8 ≤ e.size →
    u64_at (content_of b (Some e)) p ≡ u64_at b (e.place + 8 + p)
u64_there b e p h = ap (from_le_bytes w64)
    (in_content b e p (p + 8) (omega arith) h
    ∙ ap (λ (k : ℕ). slice_range b (e.place + 8 + p) k) (sym (add_assoc (e.place + 8) p 8)))

-- the rows of a table, in all the bytes
table_there : (b : List ℕ) (e : reading.Entry) (p n : ℕ) → p + 12 * n ≤ e.size →
    reading.table_at (content_of b (Some e)) p n ≡ reading.table_at b (e.place + 8 + p) n
table_there b e p zero h = refl
table_there b e p (suc n) h =
    let content = content_of b (Some e) in
    let at = e.place + 8 + p in
    let id : reading.id_at content p ≡ reading.id_at b at =
    in_content b e p (p + 4) (omega arith) (omega arith)
    ∙ ap (λ (k : ℕ). slice_range b at k) (sym (add_assoc (e.place + 8) p 4)) in
    let size : u64_at content (p + 4) ≡ u64_at b (at + 4) =
    u64_there b e (p + 4) (omega arith) ∙ ap (u64_at b) (sym (add_assoc (e.place + 8) p 4)) in
    let rest : reading.table_at content (p + 12) n ≡ reading.table_at b (at + 12) n =
    table_there b e (p + 12) n (omega arith)
    ∙ ap (λ (k : ℕ). reading.table_at b k n) (sym (add_assoc (e.place + 8) p 12)) in
    ap (λ (i : List ℕ). (i, u64_at content (p + 4)) ∷ reading.table_at content (p + 12) n) id
    ∙ (ap (λ (k : ℕ). (reading.id_at b at, k) ∷ reading.table_at content (p + 12) n) size
    ∙ ap (λ (t : List (List ℕ × ℕ)). (reading.id_at b at, u64_at b (at + 4)) ∷ t) rest)

-- what the content says is what the bytes say
pub sizes_there : (b : List ℕ) → 28 ≤ u32_at b 16 → 28 + 12 * u32_at b 44 ≤ u32_at b 16 →
    sizes_in (content_of b (Some (ds64_entry b))) ≡ reading.sizes_at b
sizes_there b long room =
    let e = ds64_entry b in
    let content = content_of b (Some e) in
    let n : u32_at content 24 ≡ u32_at b 44 = u32_there b e 24 long in
    let f : u64_at content 0 ≡ u64_at b 20 = u64_there b e 0 (omega arith) in
    let d : u64_at content 8 ≡ u64_at b 28 = u64_there b e 8 (omega arith) in
    let t : reading.table_at content 28 (u32_at content 24) ≡ reading.table_at b 48 (u32_at b 44) =
    ap (reading.table_at content 28) n ∙ table_there b e 28 (u32_at b 44) room in
    ap (λ (x : ℕ). record {
      form = x;
      «data» = u64_at content 8;
      table = reading.table_at content 28 (u32_at content 24);
    }) f
    ∙ (ap (λ (x : ℕ). record {
      form = u64_at b 20;
      «data» = x;
      table = reading.table_at content 28 (u32_at content 24);
    }) d
    ∙ ap (λ (x : List (List ℕ × ℕ)). record { form = u64_at b 20; «data» = u64_at b 28; table = x }) t)

-- the number of rows, too
pub rows_there : (b : List ℕ) → 28 ≤ u32_at b 16 → u32_at (content_of b (Some (ds64_entry b))) 24 ≡ u32_at b 44
rows_there b long = u32_there b (ds64_entry b) 24 long

-- the faults of the content of `ds64`, at their places
abbrev pub row_faults : List ℕ → List (Bool × reading.Fault)
row_faults b =
    reading.line (nat_lt (length b) 48) reading.Truncated 12
    ∷ reading.line (nat_lt 4096 (u32_at b 44)) reading.TooMany 12
    ∷ reading.line (nat_lt (u32_at b 16) (28 + 12 * u32_at b 44)) reading.BadDs64 12
    ∷ reading.line (nat_lt (length b) (20 + u32_at b 16)) reading.Truncated 12
    ∷ []

pub rows_are : (b : List ℕ) → 28 ≤ u32_at b 16 → table_faults b (ds64_entry b) ≡ row_faults b
rows_are b long = ap (counted_faults (length b) (ds64_entry b) 28 4096 12 reading.BadDs64) (rows_there b long)

all_parts : (b : List ℕ) → reading.is_riff b ≡ false →
    reading.outer_faults b ≡ opening_faults b ++ (ds64_head_faults b ++ (row_faults b ++ later_faults b))
all_parts b r = wide_parts b r

after_opening : (b : List ℕ) (h : ChunkHead) (left : Option (List ℕ)) → IsOpened b h left → reading.is_riff b ≡ false →
    first_that_holds (reading.outer_faults b)
    ≡ first_that_holds (ds64_head_faults b ++ (row_faults b ++ later_faults b))
after_opening b h left o r =
    ap first_that_holds (all_parts b r)
    ∙ first_none (opening_faults b) (ds64_head_faults b ++ (row_faults b ++ later_faults b)) o.free

-- a fault of the head of `ds64`
pub head_refused : (b : List ℕ) (h : ChunkHead) (f : InspectFault) (left left' : Option (List ℕ)) → IsOpened b h left →
    reading.is_riff b ≡ false → IsStopped b 20 12 Nowhere (ds64_head_faults b) f left' → IsOutside b f left'
head_refused b h f left left' o r s =
    outside_by b 20 Nowhere (ds64_head_faults b) f left' (lit≤ tt) (none_wanted b) s
    (λ g k. after_opening b h left o r ∙ first_some (ds64_head_faults b) (row_faults b ++ later_faults b) g k)

pub not_false : (v : Bool) → not v ≡ false → v ≡ true
not_false true e = refl
not_false false e = cc

or_false : (u v : Bool) → u || v ≡ false → (u ≡ false) × (v ≡ false)
or_false true v e = cc
or_false false v e = (refl, e)

-- what a head of `ds64` without fault says
pub record IsHeadFree (b : List ℕ) : Type 0 where
  pub there : 20 ≤ length b
  pub spelled : reading.is_id (reading.id_at b 12) (codes "ds64") ≡ true
  pub long : 28 ≤ u32_at b 16
  pub said : (u32_at b 16 == unsaid) ≡ false

pub head_free : (b : List ℕ) → first_that_holds (ds64_head_faults b) ≡ None → IsHeadFree b
head_free b e =
    let h = none_holds (ds64_head_faults b) e in
    let s = or_false (nat_lt (u32_at b 16) 28) (u32_at b 16 == unsaid) h.1.1.0 in
    record {
      there = ltb-false (length b) 20 h.0;
      spelled = not_false (reading.is_id (reading.id_at b 12) (codes "ds64")) h.1.0;
      long = ltb-false (u32_at b 16) 28 s.0;
      said = s.1;
    }

pub after_head : (b : List ℕ) (h : ChunkHead) (left : Option (List ℕ)) → IsOpened b h left →
    reading.is_riff b ≡ false → first_that_holds (ds64_head_faults b) ≡ None →
    first_that_holds (reading.outer_faults b) ≡ first_that_holds (row_faults b ++ later_faults b)
after_head b h left o r e =
    after_opening b h left o r ∙ first_none (ds64_head_faults b) (row_faults b ++ later_faults b) e

pub wide_by : (b : List ℕ) → first_that_holds (opening_faults b) ≡ None → reading.is_riff b ≡ false →
    reading.is_wide b ≡ true
wide_by b free r =
    let n = none_holds (opening_faults b) free in
    ap (λ (v : Bool). v || reading.is_wide b) (sym r) ∙ not_false (reading.is_riff b || reading.is_wide b) n.1.0

-- an entry that is to be listed
entry_wanted : (b : List ℕ) (n : ℕ) → first_that_holds (opening_faults b) ≡ None → reading.is_wide b ≡ true →
    first_that_holds (ds64_head_faults b) ≡ None → WantsEntry b (ds64_entry b) n → WantsDs64 b n
entry_wanted b n opening wide head w =
    let rows = rows_there b (head_free b head).long in
    inr (record {
      wide = wide;
      opening = opening;
      head = head;
      free = ap (λ (k : ℕ). first_that_holds
          (counted_faults (20 + u32_at b 16) (ds64_entry b) 28 4096 12 reading.BadDs64 k)) (sym rows) ∙ w.free;
      grown = subst (λ (k : ℕ). HasGrown b 48 12 k n) rows w.grown;
    })

-- a fault of its content
pub rows_refused : (b : List ℕ) (h : ChunkHead) (e : reading.Entry) (f : InspectFault)
    (left mid left' : Option (List ℕ)) → IsOpened b h left → reading.is_riff b ≡ false → IsDs64Head b e mid →
    e.size < 2 ^ 32 →
    IsStopped b (e.place + 8 + e.size) e.place (WantsEntry b e) (table_faults b e) f left' → IsOutside b f left'
rows_refused b h e f left mid left' o r d small s =
    let s' : IsStopped b (20 + u32_at b 16) 12 (WantsEntry b (ds64_entry b)) (table_faults b (ds64_entry b)) f left' =
    subst (λ (x : reading.Entry). IsStopped b (x.place + 8 + x.size) x.place (WantsEntry b x)
    (table_faults b x) f left') d.entry s in
    let size : e.size ≡ u32_at b 16 = ap (λ (x : reading.Entry). x.size) d.entry in
    let most : 20 + u32_at b 16 ≤ 2 ^ 62 + 8 = omega arith in
    outside_by b (20 + u32_at b 16) (WantsEntry b (ds64_entry b)) (table_faults b (ds64_entry b)) f left' most
    (λ n k. entry_wanted b n o.free (wide_by b o.free r) d.free k) s'
    (λ g k. after_head b h left o r d.free
    ∙ first_some (row_faults b) (later_faults b) g
    (sym (ap first_that_holds (rows_are b (head_free b d.free).long)) ∙ k))
