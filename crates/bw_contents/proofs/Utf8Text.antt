-- Whether bytes are UTF-8.
use Rattle.std.proofs.Common.{◌≡◌, Bool, true, false, List, ℕ, refl, sym}
use Rattle.std.specs.Str.{IsUtf8, is_utf8}
use Rattle.std.proofs.lemmas.Str.{IsUtf8-from_is_utf8, is_utf8-from_IsUtf8}

pub is_utf8-text : (bytes : List ℕ) → IsUtf8 bytes → true ≡ is_utf8 bytes
is_utf8-text bytes is = sym (is_utf8-from_IsUtf8 bytes is)

pub is_utf8-other : (bytes : List ℕ) → ¬ IsUtf8 bytes → false ≡ is_utf8 bytes
is_utf8-other bytes not = go (is_utf8 bytes) refl
  where
    go : (b : Bool) → is_utf8 bytes ≡ b → false ≡ b
    go true e = absurd (not (IsUtf8-from_is_utf8 bytes e))
    go false e = refl
