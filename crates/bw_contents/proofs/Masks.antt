-- The speakers of a mask, one after another.
use Rattle.std.proofs.Common.{◌≡◌, ℕ, ◌+◌, ◌<◌, ◌/◌, ◌%◌, List, [], ◌++◌, length, drop, get_or, ap, sym}
use Rattle.std.proofs.Common.{add-one, append_assoc, ◌∙◌}
use Rattle.std.proofs.Math.Seq.{drop-cons}
use Rattle.bw_contents.specs.Formats.{speaker_text, speakers_in}

-- the names from one on are this one and the later ones
pub speakers_step : (names : List (List ℕ)) (i mask : ℕ) → i < length names → speakers_in (drop i names) mask
    ≡ speaker_text (get_or names i []) (mask % 2) ++ speakers_in (drop (i + 1) names) (mask / 2)
speakers_step names i mask h =
    ap (λ (ns : List (List ℕ)). speakers_in ns mask) (drop-cons names i [] h)
    ∙ ap (λ (j : ℕ). speaker_text (get_or names i []) (mask % 2) ++ speakers_in (drop j names) (mask / 2))
    (sym (add-one i))

-- a text and the names from one on, after this one was appended
pub speaker_put : (names : List (List ℕ)) (i mask : ℕ) (old new before : List ℕ) → i < length names
    → new ≡ old ++ speaker_text (get_or names i []) (mask % 2)
    → old ++ speakers_in (drop i names) mask ≡ before
    → new ++ speakers_in (drop (i + 1) names) (mask / 2) ≡ before
speaker_put names i mask old new before h put is =
    rw (put, append_assoc, ← speakers_step names i mask h) is
