-- The calls of a store, by the cases of a call of the growing file.
use Rattle.std.proofs.Common.{◌≡◌, ℕ, ◌+◌, ◌*◌, ◌%◌, ◌<◌, ◌≤◌, Bool, true, false, not, cond, List, [], ◌∷◌, ◌++◌}
use Rattle.std.proofs.Common.{length, refl, ◌∙◌, ap, arith}
use Rattle.std.specs.Prelude.{nat_le}
use Rattle.std.proofs.lemmas.Bool.{eq-eqb, ne_eqb}
use Rattle.bw_model.specs.Take.{Parts}
use Rattle.bw_store.specs.Calls.{WriteAt, Finish}
use Rattle.bw_file.specs.Plans.{samples_plan, cues_plan, sizes_plan, form_plan, grown_plan, closed_plan, append_plan}
use Rattle.bw_file.specs.Plans.{close_plan}
use Rattle.bw_file.specs.GrowingFiles.{Growing}
use Rattle.bw_layout.specs.declared.heading.Heading.{Heading}
use Rattle.bw_layout.specs.Headings.{place_of, fits_riff}

pub padded : (name : List ℕ) (place n : ℕ) → (place + n) % 2 ≡ 1 →
    samples_plan name place n ≡ (WriteAt name place n ∷ []) ++ (WriteAt name (place + n) 1 ∷ [])
padded name place n odd =
    ap (λ (b : Bool). WriteAt name place n ∷ cond b (WriteAt name (place + n) 1 ∷ []) [])
    (eq-eqb ((place + n) % 2) 1 odd)

pub is_within : (n limit : ℕ) → n ≤ limit → nat_le n limit ≡ true
is_within n limit h = grind arith

pub is_above : (n limit : ℕ) → limit < n → nat_le n limit ≡ false
is_above n limit h = grind arith

pub sizes_of : (name : List ℕ) (place : ℕ) (riff is : Bool) → riff ≡ is →
    sizes_plan name place riff ≡ sizes_plan name place is
sizes_of name place riff is e = ap (sizes_plan name place) e

pub form_of : (name : List ℕ) (count : ℕ) (riff is : Bool) → (count ≡ 0 → ⊥) → riff ≡ is →
    form_plan name count riff ≡ cond is (WriteAt name 4 4 ∷ []) (WriteAt name 20 8 ∷ [])
form_of name count riff is some e =
    ap (λ (b : Bool). cond b [] (cond riff (WriteAt name 4 4 ∷ []) (WriteAt name 20 8 ∷ []))) (ne_eqb count 0 some)
    ∙ ap (λ (b : Bool). cond b (WriteAt name 4 4 ∷ []) (WriteAt name 20 8 ∷ [])) e

pub some_cues : (name : List ℕ) (place count : ℕ) → 0 < count →
    cues_plan name place count ≡ WriteAt name place (12 + 24 * count) ∷ []
some_cues name place count some =
    ap (λ (b : Bool). cond b [] (WriteAt name place (12 + 24 * count) ∷ []))
    (ne_eqb count 0 (λ e. omega (arith, e, some)))

-- the same in the words of the calls
module _ (g : Growing) (p : Parts) (h : Heading) (data_at data_len : ℕ) (history : h.history.now ≡ p.history)
    (limit : h.limit ≡ g.limit) (at_place : data_at ≡ place_of h) (so_far : data_len ≡ p.samples_len) where
  pub append_as : (n : ℕ) →
      append_plan g p n ≡ samples_plan g.name (data_at + data_len) n
      ++ grown_plan (not g.dirty) g.name (place_of h) (fits_riff h data_len 0) (fits_riff h (data_len + n) 0)
  append_as n = rw (at_place, history, limit, so_far) refl

  pub close_as : (count : ℕ) → count ≡ length p.markers →
      close_plan g p ≡ cues_plan g.name (data_at + data_len + data_len % 2) count
      ++ (closed_plan (not g.dirty) g.name (place_of h) (fits_riff h data_len 0) (fits_riff h data_len count) count
      ++ Finish g.name ∷ [])
  close_as count marked = rw (at_place, history, limit, so_far, marked) refl
