-- Whether a text is a string in JSON.
use Rattle.std.proofs.Common.{◌≡◌, Bool, true, false, List, ℕ, refl, sym, if◌then◌else◌}
use Rattle.std.specs.Str.{IsUtf8, is_utf8}
use Rattle.std.proofs.lemmas.Str.{IsUtf8-from_is_utf8, is_utf8-from_IsUtf8}
use Rattle.serde_json.specs.Data.{null, string}
use Rattle.bw_report.specs.Values.{text_data}

pub text_data-utf8 : (bytes : List ℕ) → IsUtf8 bytes → string bytes ≡ text_data bytes
text_data-utf8 bytes is = rw (is_utf8-from_IsUtf8 bytes is) refl

pub text_data-other : (bytes : List ℕ) → ¬ IsUtf8 bytes → null ≡ text_data bytes
text_data-other bytes not = go (is_utf8 bytes) refl
  where
    go : (b : Bool) → is_utf8 bytes ≡ b → null ≡ (if b then string bytes else null)
    go true e = absurd (not (IsUtf8-from_is_utf8 bytes e))
    go false e = refl

-- whether it is one
pub is_utf8-text : (bytes : List ℕ) → IsUtf8 bytes → true ≡ is_utf8 bytes
is_utf8-text bytes is = sym (is_utf8-from_IsUtf8 bytes is)

pub is_utf8-other : (bytes : List ℕ) → ¬ IsUtf8 bytes → false ≡ is_utf8 bytes
is_utf8-other bytes not = go (is_utf8 bytes) refl
  where
    go : (b : Bool) → is_utf8 bytes ≡ b → false ≡ b
    go true e = absurd (not (IsUtf8-from_is_utf8 bytes e))
    go false e = refl
