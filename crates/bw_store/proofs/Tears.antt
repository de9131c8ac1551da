-- What a name has after writes that may have failed.
use Rattle.std.proofs.Common.{◌≡◌, ◌∙◌, sym, ap, ℕ, ◌+◌, ◌≤◌, List, length, Option, Some, None, Result, Ok, Err, arith}
use Rattle.std.specs.Prelude.{OnOk, OnErr}
use Rattle.bw_store.specs.Stores.{Written, MayTear, overwritten}
use Rattle.bw_store.proofs.Torn.{overwritten_torn, torn_wider, torn_torn}

some_inj : (x y : List ℕ) → Some x ≡ Some y → x ≡ y
some_inj x y e = cc

some_none : (x : List ℕ) (P : Type 0) → Some x ≡ None → P
some_none x P e = cc

-- the content after a write over this one
pub written_is : (before after : Option (List ℕ)) (old : List ℕ) (place : ℕ) (bytes : List ℕ) → before ≡ Some old →
    Written before place bytes after → after ≡ Some (overwritten old place bytes)
written_is before after old place bytes e w =
    w.2 ∙ ap (λ (o : List ℕ). Some (overwritten o place bytes)) (some_inj _ _ (sym w.1 ∙ e))

-- a whole write is a torn one
pub written_tears : (before after : Option (List ℕ)) (place n : ℕ) (bytes : List ℕ) → length bytes ≤ n →
    Written before place bytes after → MayTear before place n after
written_tears before after place n bytes h w = (
  λ none. some_none w.0 (after ≡ None) (sym w.1 ∙ none),
  λ old e. (
    overwritten old place bytes,
    written_is before after old place bytes e w,
    overwritten_torn old bytes place n h,
  ),
)

-- a torn content in a wider range
pub tears_wider : (before after : Option (List ℕ)) (place n first m : ℕ) → first ≤ place → place + n ≤ first + m →
    MayTear before place n after → MayTear before first m after
tears_wider before after place n first m low high w = (
  w.0,
  λ old e. let t = w.1 old e in (t.0, t.1, torn_wider old t.0 place n first m low high t.2),
)

-- a content torn twice
pub tears_twice : (before middle after : Option (List ℕ)) (place n : ℕ) → MayTear before place n middle →
    MayTear middle place n after → MayTear before place n after
tears_twice before middle after place n first second = (
  λ none. second.0 (first.0 none),
  λ old e.
      let s = first.1 old e in
      let t = second.1 s.0 s.1 in
      (t.0, t.1, torn_torn old s.0 t.0 place n s.2 t.2),
)

-- a write of fewer bytes, whether or not it succeeds
pub either_tears : {T E : Type 0} (r : Result T E) (before after : Option (List ℕ)) (place n : ℕ) (bytes : List ℕ) →
    length bytes ≤ n → OnOk r (Written before place bytes after) → OnErr r (MayTear before place (length bytes) after) →
    MayTear before place n after
either_tears (Ok x) before after place n bytes h w t = written_tears before after place n bytes h w
either_tears (Err e) before after place n bytes h w t =
    tears_wider before after place (length bytes) place n (omega arith) (omega arith) t
