-- Which kind a header is of.
use Rattle.std.proofs.Common.{◌≡◌, ℕ, ◌<◌, ◌≤◌, true, false, cond, List, length, refl, ◌∙◌, arith}
use Rattle.std.specs.Prelude.{nat_le}
use Rattle.std.proofs.lemmas.Bool.{cond-true, cond-false}
use Rattle.bw_model.specs.Take.{Format}
use Rattle.bw_model.specs.File.{form_size, header}
use Rattle.bw_layout.specs.Headers.{middle, ds64, riff_header, bw64_header}

header_cases : (f : Format) (fields : List (List ℕ)) (history : List ℕ) (data_len cues limit form : ℕ) →
    form ≡ form_size (length history) data_len cues →
    header f fields history data_len cues limit
    ≡ cond (nat_le form limit) (riff_header f fields history form data_len)
    (bw64_header f fields history form data_len)
unfolding header riff_header bw64_header middle ds64
header_cases f fields history data_len cues limit form e = rw e refl

-- RIFF up to the limit
pub header_riff : (f : Format) (fields : List (List ℕ)) (history : List ℕ) (data_len cues limit form : ℕ) →
    form ≡ form_size (length history) data_len cues → form ≤ limit →
    header f fields history data_len cues limit ≡ riff_header f fields history form data_len
header_riff f fields history data_len cues limit form e h =
    let fits : nat_le form limit ≡ true = grind arith in
    header_cases f fields history data_len cues limit form e
    ∙ cond-true (nat_le form limit) (riff_header f fields history form data_len)
    (bw64_header f fields history form data_len) fits

-- BW64 above it
pub header_bw64 : (f : Format) (fields : List (List ℕ)) (history : List ℕ) (data_len cues limit form : ℕ) →
    form ≡ form_size (length history) data_len cues → limit < form →
    header f fields history data_len cues limit ≡ bw64_header f fields history form data_len
header_bw64 f fields history data_len cues limit form e h =
    let passes : nat_le form limit ≡ false = grind arith in
    header_cases f fields history data_len cues limit form e
    ∙ cond-false (nat_le form limit) (riff_header f fields history form data_len)
    (bw64_header f fields history form data_len) passes
