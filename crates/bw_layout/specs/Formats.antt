-- Sample formats.
use Rattle.std.specs.Prelude.{ℕ}
use Rattle.bw_model.specs.Take.{Format}

-- this many frames per second, samples per frame and bits per sample
abbrev pub format_of : ℕ → ℕ → ℕ → Format
format_of rate channels bits = record { rate = rate; channels = channels; bits = bits }
