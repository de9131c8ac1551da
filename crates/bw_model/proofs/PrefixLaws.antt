-- A prefix is what comes first, and a reading fills its form.
use Rattle.std.proofs.Common.{◌≡◌, ℕ, ◌+◌, ◌<◌, ◌≤◌, Bool, true, false, cond, ◌&&◌, List, [], ◌∷◌, ◌++◌, length, Some}
use Rattle.std.proofs.Common.{refl, sym, ◌∙◌, ap, subst, arith, append_assoc, length-append}
use Rattle.std.specs.Prelude.{is_some, fold}
use Rattle.std.specs.List.{list_any}
use Rattle.std.proofs.lemmas.Bool.{false≢true}
use Rattle.std.proofs.lemmas.List.{append-nil}
use Rattle.std.proofs.lemmas.List.Sums.{sum_by-cons, sum_by-append}
use Rattle.bw_model.specs.Bytes.{even_up}
use Rattle.bw_model.specs.Reading.{Entry, Form, FollowEachOther, IsPrefix, next, next_place, is_id, single_ids, entry_of}
use Rattle.bw_model.specs.Prefix.{StandFrom, StandsFirst, AreSingle, count_of, PrefixesStandFirst}
use Rattle.bw_model.proofs.BookLemmas.{same_name, name_refl}
use Rattle.bw_model.proofs.ChunkSteps.{Step, steps_to, step_from}

-- Chunks of one id.

pub count-cons : (id : List ℕ) (e : Entry) (es : List Entry) →
    count_of id (e ∷ es) ≡ cond (is_id e.id id) 1 0 + count_of id es
count-cons id e es = sum_by-cons (λ (x : Entry). cond (is_id x.id id) 1 0) e es

count-append : (id : List ℕ) (es ds : List Entry) → count_of id (es ++ ds) ≡ count_of id es + count_of id ds
count-append id es ds = sum_by-append (λ (x : Entry). cond (is_id x.id id) 1 0) es ds

count-own : (e : Entry) (es : List Entry) → count_of e.id (e ∷ es) ≡ 1 + count_of e.id es
count-own e es = count-cons e.id e es ∙ ap (λ (v : Bool). cond v 1 0 + count_of e.id es) (name_refl e.id)

-- none is found if none is counted
pub count-none : (id : List ℕ) (es : List Entry) → is_some (entry_of id es) ≡ false → count_of id es ≡ 0
count-none id [] h = refl
count-none id (e ∷ es) h = count-cons id e es ∙ go (is_id e.id id) h (count-none id es)
  where
    go : (v : Bool) → is_some (cond v (Some e) (entry_of id es)) ≡ false →
        (is_some (entry_of id es) ≡ false → count_of id es ≡ 0) → cond v 1 0 + count_of id es ≡ 0
    go true h ih = absurd (false≢true (sym h))
    go false h ih = let none : count_of id es ≡ 0 = ih h in omega arith

pub none-count : (id : List ℕ) (es : List Entry) → count_of id es ≡ 0 → is_some (entry_of id es) ≡ false
none-count id [] h = refl
none-count id (e ∷ es) h = go (is_id e.id id) (sym (count-cons id e es) ∙ h) (none-count id es)
  where
    go : (v : Bool) → cond v 1 0 + count_of id es ≡ 0 → (count_of id es ≡ 0 → is_some (entry_of id es) ≡ false) →
        is_some (cond v (Some e) (entry_of id es)) ≡ false
    go true h ih = absurd (omega (arith, h))
    go false h ih = ih (let none : count_of id es ≡ 0 = omega (arith, h) in none)

-- where the next chunk is
pub place-push : (q : ℕ) (seen : List Entry) (e : Entry) →
    fold (λ p e. e.place + 8 + even_up e.size) q (seen ++ e ∷ []) ≡ e.place + 8 + even_up e.size
place-push q [] e = refl
place-push q (s ∷ seen) e = place-push (s.place + 8 + even_up s.size) seen e

-- one more that isn't there yet leaves each single chunk single
single-push : (seen : List Entry) (e : Entry) →
    list_any (is_id e.id) single_ids && is_some (entry_of e.id seen) ≡ false →
    AreSingle seen → AreSingle (seen ++ e ∷ [])
single-push seen e new h id single =
    let joined = count-append id seen (e ∷ []) ∙ ap (λ (n : ℕ). count_of id seen + n) (count-cons id e []) in
    subst (λ (n : ℕ). n ≤ 1) (sym joined) (go (is_id e.id id) refl)
  where
    go : (v : Bool) → is_id e.id id ≡ v → count_of id seen + (cond v 1 0 + count_of id []) ≤ 1
    go false q = let few : count_of id seen ≤ 1 = h id single in omega arith
    go true q =
        let own : e.id ≡ id = same_name e.id id q in
        let one : list_any (is_id e.id) single_ids ≡ true =
        ap (λ (i : List ℕ). list_any (is_id i) single_ids) own ∙ single in
        let none : is_some (entry_of e.id seen) ≡ false =
        sym (ap (λ (v : Bool). v && is_some (entry_of e.id seen)) one) ∙ new in
        let zero : count_of id seen ≡ 0 = ap (λ (i : List ℕ). count_of i seen) (sym own) ∙ count-none e.id seen none in
        omega arith

-- the walk from the chunks seen, and where the chunks are
record Stand (b : List ℕ) (form : Form) (seen es : List Entry) : Type 0 where
  chunks : StandFrom b form (next_place seen) es
  single : AreSingle (seen ++ es)
  few : length (seen ++ es) ≤ 4096

stands : (b : List ℕ) (form : Form) (seen es : List Entry) → FollowEachOther (next b form) seen es → AreSingle seen →
    length seen ≤ 4096 → Stand b form seen es
stands b form seen [] f single few = record {
  chunks = tt;
  single = subst AreSingle (sym (append-nil seen)) single;
  few = subst (λ (es : List Entry). length es ≤ 4096) (sym (append-nil seen)) few;
}
stands b form seen (e ∷ es) f single few =
    let step = steps_to b form seen e f.0 in
    let room : length seen < 4096 = step.few in
    let longer : length (seen ++ e ∷ []) ≤ 4096 = omega (arith, length-append seen (e ∷ [])) in
    let rest = stands b form (seen ++ e ∷ []) es f.1 (single-push seen e step.new single) longer in
    record {
      chunks = (step.place, step.chunk, subst (λ (p : ℕ). StandFrom b form p es) (place-push 12 seen e) rest.chunks);
      single = subst AreSingle (append_assoc seen (e ∷ []) es) rest.single;
      few = subst (λ (ds : List Entry). length ds ≤ 4096) (append_assoc seen (e ∷ []) es) rest.few;
    }

follow : (b : List ℕ) (form : Form) (seen es : List Entry) → Stand b form seen es →
    FollowEachOther (next b form) seen es
follow b form seen [] h = tt
follow b form seen (e ∷ es) h =
    let few : length (seen ++ e ∷ es) ≤ 4096 = h.few in
    let step : Step b form seen e = record {
      few = omega (arith, length-append seen (e ∷ es));
      place = h.chunks.0;
      chunk = h.chunks.1;
      new = new (list_any (is_id e.id) single_ids) refl;
    } in (
      step_from b form seen e step,
      follow b form (seen ++ e ∷ []) es (record {
        chunks = subst (λ (p : ℕ). StandFrom b form p es) (sym (place-push 12 seen e)) h.chunks.2;
        single = subst AreSingle (sym (append_assoc seen (e ∷ []) es)) h.single;
        few = subst (λ (ds : List Entry). length ds ≤ 4096) (sym (append_assoc seen (e ∷ []) es)) h.few;
      }),
    )
  where
    new : (v : Bool) → list_any (is_id e.id) single_ids ≡ v → v && is_some (entry_of e.id seen) ≡ false
    new false q = refl
    new true q =
        let few : count_of e.id (seen ++ e ∷ es) ≤ 1 = h.single e.id q in
        none-count e.id seen (omega (arith, count-append e.id seen (e ∷ es), count-own e es))

no_chunks : AreSingle []
no_chunks id single = omega arith

pub prefixes : PrefixesStandFirst
prefixes b form entries = (to, from)
  where
    to : IsPrefix b form entries → StandsFirst b form entries
    to f = let h = stands b form [] entries f.chunks no_chunks (omega arith)
        in record { header = f.header; chunks = h.chunks; single = h.single; few = h.few }

    from : StandsFirst b form entries → IsPrefix b form entries
    from h = record {
      header = h.header;
      chunks = follow b form [] entries (record { chunks = h.chunks; single = h.single; few = h.few });
    }
