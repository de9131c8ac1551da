-- The first chunk with an id.
use Rattle.std.proofs.Common.{◌≡◌, ℕ, ◌+◌, ◌<◌, cond, List, length, drop, get_or, Some, None, refl, arith, add-one, drop-cons}
use Rattle.std.proofs.lemmas.List.{drop_all}
use Rattle.bw_model.specs.Reading.{Entry, entry_of, is_id}

-- the chunk at a place, or the first one after it
pub entry_from : (id : List ℕ) (chunks : List Entry) (i : ℕ) (d : Entry) → i < length chunks →
    entry_of id (drop i chunks)
    ≡ cond (is_id (get_or chunks i d).id id) (Some (get_or chunks i d)) (entry_of id (drop (i + 1) chunks))
entry_from id chunks i d h = rw (drop-cons chunks i d, add-one) refl

-- after the last chunk there is none
pub entry_end : (id : List ℕ) (chunks : List Entry) → entry_of id (drop (length chunks) chunks) ≡ None
entry_end id chunks = rw (drop_all (length chunks) chunks (omega arith)) refl
