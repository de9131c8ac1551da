-- The walk after `ds64`, which is the first chunk that is listed.
use Rattle.std.proofs.Common.{◌≡◌, ℕ, ◌+◌, ◌^◌, ◌≤◌, ◌<◌, Bool, false, cond, List, [], ◌∷◌, ◌++◌, length, drop, Option}
use Rattle.std.proofs.Common.{Some, None, Ok, refl, sym, ◌∙◌, ap, subst, arith, lit<}
use Rattle.std.specs.Prelude.{codes, nat_lt, ◌==◌}
use Rattle.std.proofs.lemmas.Bool.{le-ltb, ltb-false}
use Rattle.std.proofs.lemmas.Slice.Eq.{bytes_eq-Decides}
use Rattle.bw_model.specs.Bytes.{first_that_holds, u32_at, unsaid}
use Rattle.bw_model.specs.Reading as reading
use Rattle.bw_model.proofs.ChunkSteps.{none_holds}
use Rattle.bw_layout.specs.declared.chunk.ChunkHead.{ChunkHead}
use Rattle.bw_layout.specs.declared.sizes.Ds64.{Ds64}
use Rattle.bw_inspect.specs.declared.walk.Walk.{Walk}
use Rattle.bw_inspect.specs.declared.walk.Form.{Form}
use Rattle.bw_inspect.specs.declared.chunk.ChunkKind.TheVariants.{Other}
use Rattle.bw_inspect.specs.declared.chunk.ChunkKind.{ChunkKind}
use Rattle.bw_inspect.specs.Chunks.{kind_by, size_faults, sizes_by, sizes_of}
use Rattle.bw_inspect.specs.Known.{facts_of, facts_in, has_kind, nothing}
use Rattle.bw_inspect.specs.Contents.{IsLearned, ReadTo}
use Rattle.bw_inspect.specs.Outers.{BeginsForm, IsOpened, form_faults}
use Rattle.bw_inspect.specs.Walks.{IsPassedOver, StandsInForm, place_after, form_by, seen_by}
use Rattle.bw_inspect.proofs.Contents.{plain_whole}
use Rattle.bw_inspect.proofs.Outers.{outer_ok}
use Rattle.bw_inspect.proofs.Steps.{Headed, Sized, goes_on, learned_as}
use Rattle.bw_inspect.proofs.WideReads.{IsWideRead, last_by}

-- a walk that was just begun
pub record IsFresh (w : Walk) : Type 0 where
  pub place : w.place ≡ 12
  pub chunks : seen_by w ≡ []
  pub known : facts_of w.known ≡ nothing

-- it is after the outer header
pub fresh_stands : (b : List ℕ) (form : reading.Form) (w : Walk) (left : Option (List ℕ)) → IsFresh w → 4 ≤ form.size →
    12 ≤ length b → left ≡ Some (drop 12 b) → StandsInForm b form w left
fresh_stands b form w left f s l r = record {
  chunks = subst (λ (es : List reading.Entry). reading.FollowEachOther (reading.next b form) [] es) (sym f.chunks) tt;
  facts = f.known ∙ ap (facts_in b) (sym f.chunks);
  place = f.place ∙ ap reading.next_place (sym f.chunks);
  near = let p = f.place in omega arith;
  reached = 12;
  within = omega arith;
  there = λ t. absurd (omega arith);
  rest = r;
  next = λ l. r ∙ ap (λ (p : ℕ). Some (drop p b)) (sym f.place);
}

-- a size has no fault if the kind of chunk allows any
other_free : (end p c : ℕ) (seen : Bool) → c ≤ reading.largest → p + 8 + c ≤ end →
    first_that_holds (size_faults end p Other seen (Some c) c) ≡ None
other_free end p c seen l w = rw (le-ltb reading.largest c l, le-ltb end (p + 8 + c) w) refl

-- a size that the head gives
said_size : (b : List ℕ) (form : reading.Form) (p : ℕ) → (u32_at b (p + 4) == unsaid) ≡ false →
    Some (u32_at b (p + 4)) ≡ reading.size_at b form p
said_size b form p e = sym
    (ap (λ (v : Bool). cond v (reading.reported_size form.sizes (reading.id_at b p)) (Some (u32_at b (p + 4)))) e)

-- the form that the header gives
form_is : (b : List ℕ) (h : ChunkHead) (e : reading.Entry) (x : Ds64) (size : ℕ) (left : Option (List ℕ)) →
    IsOpened b h left → IsWideRead b h e x size →
    reading.form_at b ≡ record { id = h.id; size = size; sizes = Some (sizes_by x) }
form_is b h e x size left o w =
    ap (λ (v : Bool). record {
      id = reading.id_at b 0;
      size = reading.form_size_at b;
      sizes = cond v (Some (reading.sizes_at b)) None;
    }) w.wide
    ∙ (ap (λ (i : List ℕ). record { id = i; size = reading.form_size_at b; sizes = Some (reading.sizes_at b) })
    (sym o.spells)
    ∙ (ap (λ (n : ℕ). record { id = h.id; size = n; sizes = Some (reading.sizes_at b) }) w.size_is
    ∙ ap (λ (z : reading.Sizes). record { id = h.id; size = size; sizes = Some z }) (sym w.reported)))

-- `ds64` is listed
pub wide_begins : (b : List ℕ) (h : ChunkHead) (e : reading.Entry) (x : Ds64) (form : Form) (w v : Walk)
    (left mid left' : Option (List ℕ)) → IsOpened b h left → IsWideRead b h e x form.size → form.id ≡ h.id →
    form.sizes ≡ Some x →
    first_that_holds (form_faults form.size) ≡ None → ReadTo b e e.size mid → e.size < 2 ^ 32 →
    e.place + 8 + e.size ≤ 8 + form.size → IsFresh w →
    v.known ≡ w.known → v.place ≡ place_after e → seen_by v ≡ seen_by w ++ e ∷ [] →
    IsPassedOver b (8 + form.size) e left' →
    BeginsForm b form v left'
wide_begins b h e x form w v left mid left' o r i z free to small inside f k place seen over =
    let reported = form_by form in
    let four : 4 ≤ form.size = ltb-false form.size 4 (none_holds (form_faults form.size) free).1.0 in
    let at : e.place ≡ 12 = ap (λ (y : reading.Entry). y.place) r.entry in
    let here : w.place ≡ 12 = f.place in
    let bytes : e.size ≡ u32_at b 16 = ap (λ (y : reading.Entry). y.size) r.entry in
    let id : e.id ≡ reading.id_at b 12 = ap (λ (y : reading.Entry). y.id) r.entry in
    let other : kind_by e.id ≡ Other =
    ap kind_by (id ∙ (bytes_eq-Decides (reading.id_at b 12) (codes "ds64")).0 r.head.spelled) in
    let there = r.head.there in
    let last : nat_lt (8 + form.size) (20 + u32_at b 16) ≡ false =
    le-ltb (8 + form.size) (20 + u32_at b 16) (omega arith) in
    let headed : Headed b reported w e.id (Some e.size) = record {
      wanted = omega arith;
      few = subst (λ (es : List reading.Entry). length es < 4096) (sym f.chunks) (lit< tt);
      there = omega arith;
      spells = id ∙ ap (reading.id_at b) (sym f.place);
      reported = ap (λ (n : ℕ). Some n) bytes
          ∙ (said_size b reported 12 r.head.said ∙ ap (reading.size_at b reported) (sym f.place));
    } in
    let sized : Sized (reading.form_end reported) w e.id (Some e.size) e.size = record {
      is = refl;
      free =
          ap (λ (y : ChunkKind). first_that_holds
          (size_faults (reading.form_end reported) w.place y (has_kind y (facts_of w.known)) (Some e.size) e.size)) other
          ∙ other_free (reading.form_end reported) w.place e.size false (omega arith) (omega arith);
      inside = omega arith;
    } in
    let learned : IsLearned b (kind_by e.id) e (facts_of w.known) (facts_of v.known) mid =
    learned_as b Other (kind_by e.id) e (facts_of w.known) (facts_of w.known) (facts_of v.known) mid (sym other)
    (ap facts_of k) (record { whole = plain_whole b e Other mid refl to; facts = refl }) in
    record {
      header =
          outer_ok b (last_by b h e x form.size false r free last)
          ∙ (ap (λ (y : reading.Form). Ok y) (form_is b h e x form.size left o r)
          ∙ (ap (λ (y : List ℕ). Ok (record { id = y; size = form.size; sizes = Some (sizes_by x) })) (sym i)
          ∙ ap (λ (y : Option Ds64). Ok (record { id = form.id; size = form.size; sizes = sizes_of y })) (sym z)));
      stands = goes_on b reported w v e (Some e.size) left mid left'
          (fresh_stands b reported w left f four (omega arith) o.rest) headed sized
          (at ∙ sym f.place) learned seen place over;
    }
