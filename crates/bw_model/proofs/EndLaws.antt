-- A reading ends its form, and each list of bytes has a reading or a fault.
use Rattle.std.proofs.Common.{◌≡◌, ℕ, suc, zero, ◌+◌, ◌<◌, ◌≤◌, Bool, true, false, cond, List, [], ◌∷◌, ◌++◌, length}
use Rattle.std.proofs.Common.{Option, Some, None, Result, Ok, Err, inl, inr, refl, sym, ◌∙◌, ap, subst, arith}
use Rattle.std.proofs.Common.{length-append, append_assoc}
use Rattle.std.specs.Prelude.{nat_le, is_none, is_some, codes, unwrap_or}
use Rattle.std.proofs.lemmas.Bool.{false≢true, leb-false, lt-leb}
use Rattle.std.proofs.lemmas.List.{append-nil}
use Rattle.bw_model.specs.Bytes.{first_that_holds, unless}
use Rattle.bw_model.specs.Reading.{Entry, Form, Fault, FollowEachOther, IsPrefix, IsReading, IsFault, BytesReadOrFault}
use Rattle.bw_model.specs.Reading.{outer, next, next_place, head_at, chunk_faults, end_faults, form_end, entry_of, walk}
use Rattle.bw_model.specs.Reading.{read}
use Rattle.bw_model.specs.Prefix.{StandsFirst, EndsForm, count_of, ReadingsEndForms}
use Rattle.bw_model.proofs.ChunkSteps.{none_holds, first-none, steps_to}
use Rattle.bw_model.proofs.PrefixLaws.{none-count, count-none, prefixes}

-- no chunk comes if no head fits, and `fmt ` and `data` were seen
record Ends (form : Form) (seen : List Entry) : Type 0 where
  ends : form_end form < next_place seen + 8
  fmt : is_none (entry_of (codes "fmt ") seen) ≡ false
  samples : is_none (entry_of (codes "data") seen) ≡ false

abbrev ok : Option Entry → Result (Option Entry) Fault
ok x = Ok x

ends_to : (b : List ℕ) (form : Form) (seen : List Entry) → next b form seen ≡ Ok None → Ends form seen
unfolding next
ends_to b form seen n =
    let h = head_at b form p in
    let c = unwrap_or h.size 0 in
    go (nat_le (p + 8) end) refl (first_that_holds (chunk_faults (length b) end seen p h c))
    (record { id = h.id; place = p; size = c }) (first_that_holds (end_faults end seen)) refl n
  where
    p : ℕ
    p = next_place seen

    end : ℕ
    end = form_end form

    go : (v : Bool) → nat_le (p + 8) end ≡ v → (x : Option Fault) (e : Entry) (y : Option Fault) →
        first_that_holds (end_faults end seen) ≡ y →
        cond {A = Result (Option Entry) Fault} v (unless x (Some e)) (unless y None) ≡ Ok None → Ends form seen
    go true q None e y r n = absurd (apart n)
      where
        apart : ok (Some e) ≡ ok None → ⊥
        apart n = cc
    go true q (Some f) e y r n = absurd (apart n)
      where
        apart : Err f ≡ ok None → ⊥
        apart n = cc
    go false q x e (Some f) r n = absurd (apart n)
      where
        apart : Err f ≡ ok None → ⊥
        apart n = cc
    go false q x e None r n =
        let h = none_holds (end_faults end seen) r in
        let past : end < p + 8 = leb-false (p + 8) end q in
        record { ends = past; fmt = h.0; samples = h.1.0 }

ends_from : (b : List ℕ) (form : Form) (seen : List Entry) → Ends form seen → next b form seen ≡ Ok None
unfolding next
ends_from b form seen h =
    let p = next_place seen in
    let end = form_end form in
    let c = unwrap_or (head_at b form p).size 0 in
    ap (λ (v : Bool). cond v
    (unless (first_that_holds (chunk_faults (length b) end seen p (head_at b form p) c))
    (Some (record { id = (head_at b form p).id; place = p; size = c })))
    (unless (first_that_holds (end_faults end seen)) None))
    (lt-leb (p + 8) end h.ends)
    ∙ ap (λ (y : Option Fault). unless {X = Option Entry} y None)
    (first-none (end_faults end seen) (h.fmt, (h.samples, tt)))

-- found and counted
counted : (id : List ℕ) (es : List Entry) → is_none (entry_of id es) ≡ false → count_of id es ≤ 1 → count_of id es ≡ 1
counted id es some few = go (count_of id es) refl
  where
    found : (x : Option Entry) → is_none x ≡ false → is_some x ≡ false → ⊥
    found None h k = false≢true (sym h)
    found (Some e) h k = false≢true (sym k)

    go : (n : ℕ) → count_of id es ≡ n → count_of id es ≡ 1
    go zero q = absurd (found (entry_of id es) some (none-count id es q))
    go (suc n) q = omega arith

found : (id : List ℕ) (es : List Entry) → count_of id es ≡ 1 → is_none (entry_of id es) ≡ false
found id es one = go (entry_of id es) refl
  where
    go : (x : Option Entry) → entry_of id es ≡ x → is_none x ≡ false
    go None q = let none : count_of id es ≡ 0 = count-none id es (ap is_some q) in absurd (omega arith)
    go (Some e) q = refl

pub readings : ReadingsEndForms
readings b form entries = (to, from)
  where
    to : IsReading b form entries → StandsFirst b form entries × EndsForm form entries
    to r =
        let s = (prefixes b form entries).0 r.prefix in
        let e = ends_to b form entries r.ends in (
          s,
          record {
            ends = e.ends;
            fmt = counted (codes "fmt ") entries e.fmt (s.single (codes "fmt ") refl);
            samples = counted (codes "data") entries e.samples (s.single (codes "data") refl);
          },
        )

    from : StandsFirst b form entries × EndsForm form entries → IsReading b form entries
    from h = record {
      prefix = (prefixes b form entries).1 h.0;
      ends = ends_from b form entries
          (record {
            ends = h.1.ends;
            fmt = found (codes "fmt ") entries h.1.fmt;
            samples = found (codes "data") entries h.1.samples;
          });
    }

-- one more chunk after those that follow each other
follow-push : (comes : List Entry → Result (Option Entry) Fault) (before seen : List Entry) (e : Entry) →
    FollowEachOther comes before seen → comes (before ++ seen) ≡ Ok (Some e) →
    FollowEachOther comes before (seen ++ e ∷ [])
follow-push comes before [] e f h = (ap comes (sym (append-nil before)) ∙ h, tt)
follow-push comes before (d ∷ seen) e f h =
    (f.0, follow-push comes (before ++ d ∷ []) seen e f.1 (ap comes (append_assoc before (d ∷ []) seen) ∙ h))

-- what the walk from the chunks seen gives
record Walks (b : List ℕ) (x : Result (Form × List Entry) Fault) : Type 0 where
  reading : (form : Form) (entries : List Entry) → x ≡ Ok (form, entries) → IsReading b form entries
  fault : (fault : Fault) → x ≡ Err fault → IsFault b fault

abbrev whole : Form × List Entry → Result (Form × List Entry) Fault
whole x = Ok x

whole_inj : (x y : Form × List Entry) → whole x ≡ whole y → x ≡ y
whole_inj x y e = cc

read_whole : (b : List ℕ) (form : Form) (seen : List Entry) → IsReading b form seen → Walks b (Ok (form, seen))
read_whole b form seen r = record {
  reading = λ g es e. same g es e;
  fault = λ f e. absurd (apart f e);
}
  where
    apart : (f : Fault) → whole (form, seen) ≡ Err f → ⊥
    apart f e = cc

    same : (g : Form) (es : List Entry) → whole (form, seen) ≡ whole (g, es) → IsReading b g es
    same g es e =
        let pairs : (form, seen) ≡ (g, es) = whole_inj (form, seen) (g, es) e in
        subst (λ (x : Form × List Entry). IsReading b x.0 x.1) pairs r

faults_at : (b : List ℕ) (fault : Fault) → IsFault b fault → Walks b (Err fault)
faults_at b fault h = record {
  reading = λ g es e. absurd (apart g es e);
  fault = λ f e. subst (IsFault b) (same f e) h;
}
  where
    broken : Result (Form × List Entry) Fault
    broken = Err fault

    apart : (g : Form) (es : List Entry) → broken ≡ Ok (g, es) → ⊥
    apart g es e = cc

    same : (f : Fault) → broken ≡ Err f → fault ≡ f
    same f e = cc

walks : (steps : ℕ) (b : List ℕ) (form : Form) (seen : List Entry) → IsPrefix b form seen → length seen + steps ≡ 4097 →
    length seen ≤ 4096 → Walks b (walk steps b form seen)
unfolding walk
walks zero b form seen prefix all few = absurd (omega arith)
walks (suc steps) b form seen prefix all few =
    go (next b form seen) refl (λ e f k l. walks steps b form (seen ++ e ∷ []) f k l)
  where
    go : (x : Result (Option Entry) Fault) → next b form seen ≡ x →
        ((e : Entry) → IsPrefix b form (seen ++ e ∷ []) → length (seen ++ e ∷ []) + steps ≡ 4097 →
        length (seen ++ e ∷ []) ≤ 4096 → Walks b (walk steps b form (seen ++ e ∷ []))) →
        Walks b (elim x [
          | Err fault ↦ Err fault
          | Ok more ↦ elim more [ None ↦ Ok (form, seen) | Some e ↦ walk steps b form (seen ++ e ∷ []) ]
        ])
    go (Err fault) q ih = faults_at b fault (inr (form, (seen, (prefix, q))))
    go (Ok None) q ih = read_whole b form seen (record { prefix = prefix; ends = q })
    go (Ok (Some e)) q ih =
        let step = steps_to b form seen e q in
        let room : length seen < 4096 = step.few in
        let longer = length-append seen (e ∷ []) in
        ih e (record { header = prefix.header; chunks = follow-push (next b form) [] seen e prefix.chunks q })
        (omega (arith, longer)) (omega (arith, longer))

pub reads : BytesReadOrFault
unfolding read
reads b =
    let w = go (outer b) refl in
    record { reading = w.reading; fault = w.fault }
  where
    go : (x : Result Form Fault) → outer b ≡ x →
        Walks b (elim x [ Err fault ↦ Err fault | Ok form ↦ walk 4097 b form [] ])
    go (Err fault) q = faults_at b fault (inl q)
    go (Ok form) q = walks 4097 b form [] (record { header = q; chunks = tt }) refl (omega arith)
