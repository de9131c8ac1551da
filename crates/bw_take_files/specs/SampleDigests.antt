-- The SHA-256 of a take's samples, as its file has them.
use Rattle.std.specs.Prelude.{◌==◌, ℕ, Option, Some, None, List, length, take, drop, if◌then◌else◌}
use Rattle.sha2.specs.Sha256.{sha256}
use Rattle.bw_model.specs.File.{data_place}
use Rattle.bw_model.specs.Take.{Parts}

-- the samples of a take that its file has: the bytes of the data chunk, or as many of them as there are
abbrev pub samples_of_file : Parts → List ℕ → List ℕ
samples_of_file p found = take p.samples_len (drop (data_place (length p.history)) found)

-- the SHA-256 of so many bytes (FIPS 180-4); none where there are fewer
abbrev pub sha256_if_whole : ℕ → List ℕ → Option (List ℕ)
sha256_if_whole len bytes = if length bytes == len then Some (sha256 bytes) else None

-- the SHA-256 of the samples of a take with this file; none where there is no file, or fewer samples
abbrev pub samples_sha256 : Parts → Option (List ℕ) → Option (List ℕ)
samples_sha256 p None = None
samples_sha256 p (Some found) = sha256_if_whole p.samples_len (samples_of_file p found)
