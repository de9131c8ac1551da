-- One more chunk of a file is passed over.
use Rattle.std.proofs.Common.{◌≡◌, ℕ, zero, suc, ◌+◌, ◌-◌, ◌<◌, ◌≤◌, Bool, true, false, cond, List, length, refl, sym, ◌∙◌, ap, arith}
use Rattle.std.specs.Prelude.{codes, nat_lt}
use Rattle.bw_model.specs.Reading.{id_at, is_id}
use Rattle.bw_live.specs.WaveHeaders.{place_past, search_from}
use Rattle.bw_live.specs.declared.header.DataSearch.{DataSearch}
use Rattle.bw_live.specs.declared.header.DataSearch.TheVariants.{Found, Unwritten, Other}

-- a chunk's head isn't written yet
pub ends_short : (n m : ℕ) (b : List ℕ) (p : ℕ) → n ≡ suc m → nat_lt (length b) (p + 8) ≡ true →
    search_from n b p ≡ Unwritten
unfolding search_from
ends_short n m b p e short =
    ap (λ (k : ℕ). search_from k b p) e
    ∙ ap (λ (t : Bool). cond t Unwritten
    (cond (is_id (id_at b p) (codes "data")) (Found p) (search_from m b (place_past b p)))) short

-- it is that of `data`
pub found_at : (n m : ℕ) (b : List ℕ) (p : ℕ) → n ≡ suc m → nat_lt (length b) (p + 8) ≡ false →
    is_id (id_at b p) (codes "data") ≡ true → search_from n b p ≡ Found p
unfolding search_from
found_at n m b p e there is =
    ap (λ (k : ℕ). search_from k b p) e
    ∙ ap (λ (t : Bool). cond t Unwritten
    (cond (is_id (id_at b p) (codes "data")) (Found p) (search_from m b (place_past b p)))) there
    ∙ ap (λ (t : Bool). cond t (Found p) (search_from m b (place_past b p))) is

-- it is that of another
pub passes_over : (n m : ℕ) (b : List ℕ) (p q : ℕ) → n ≡ suc m → nat_lt (length b) (p + 8) ≡ false →
    is_id (id_at b p) (codes "data") ≡ false → q ≡ place_past b p → search_from n b p ≡ search_from m b q
unfolding search_from
passes_over n m b p q e there other next =
    ap (λ (k : ℕ). search_from k b p) e
    ∙ ap (λ (t : Bool). cond t Unwritten
    (cond (is_id (id_at b p) (codes "data")) (Found p) (search_from m b (place_past b p)))) there
    ∙ ap (λ (t : Bool). cond t (Found p) (search_from m b (place_past b p))) other
    ∙ ap (search_from m b) (sym next)

-- too many chunks were passed over
pub ends_other : (n : ℕ) (b : List ℕ) (p : ℕ) → n ≡ zero → search_from n b p ≡ Other
unfolding search_from
ends_other n b p e = ap (λ (k : ℕ). search_from k b p) e
