-- A table that is reordered, or has one name less.
use Rattle.std.proofs.Common.{◌≡◌, ◌<◌, ◌≤◌, ◌+◌, ℕ, Bool, true, false, cond, List, Some, None, refl, sym, ◌∙◌, subst, arith}
use Rattle.std.specs.Str.{bytes_eq}
use Rattle.std.specs.HashMap.{hash_map_len, spare}
use Rattle.bw_model.specs.Turn.{most_takes}
use Rattle.bw_model.proofs.BookLemmas.{same_name}
use Rattle.bw_session.specs.Tables.{Table, IsTable, session_in}
use Rattle.bw_session.specs.declared.session.Session.{Session}

no_session : {A : Type 0} {s : Session} → None ≡ Some s → A
no_session e = cc

-- the same sessions in another order, with as much room
pub table_kept : {H : Type 0} (old new : Table H) (limit : ℕ) → IsTable old limit →
    hash_map_len new ≡ hash_map_len old → spare old ≤ spare new →
    ((n : List ℕ) → session_in new n ≡ session_in old n) → IsTable new limit
table_kept old new limit t len room same = record {
  few = (let few = t.few in omega (arith, few, len));
  room = (let enough = t.room in omega (arith, enough, len, room));
  names = λ n s e. t.names n s (sym (same n) ∙ e);
  limits = λ n s e. t.limits n s (sym (same n) ∙ e);
}

one_at_most : (b : Bool) → cond b 1 0 ≤ 1
one_at_most true = omega arith
one_at_most false = omega arith

-- one session less, in a table that had room for more
pub table_less : {H : Type 0} (old new : Table H) (limit : ℕ) (name : List ℕ) (b : Bool) → IsTable old limit →
    hash_map_len new + cond b 1 0 ≡ hash_map_len old → most_takes < hash_map_len old + spare old →
    spare old ≤ spare new → session_in new name ≡ None →
    ((n : List ℕ) → bytes_eq name n ≡ false → session_in new n ≡ session_in old n) → IsTable new limit
table_less old new limit name b t len more room gone others = record {
  few = (let few = t.few in omega (arith, few, len));
  room = (let one = one_at_most b in omega (arith, one, len, more, room));
  names = λ n s e. t.names n s (there n s e (bytes_eq name n) refl);
  limits = λ n s e. t.limits n s (there n s e (bytes_eq name n) refl);
}
  where
    there : (n : List ℕ) (s : Session) → session_in new n ≡ Some s → (v : Bool) → bytes_eq name n ≡ v →
        session_in old n ≡ Some s
    there n s e true v =
        no_session (sym (subst (λ (x : List ℕ). session_in new x ≡ None) (same_name name n v) gone) ∙ e)
    there n s e false v = sym (others n v) ∙ e
