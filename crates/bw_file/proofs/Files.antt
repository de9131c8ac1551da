-- The file of a take that is open, in parts.
use Rattle.std.proofs.Common.{◌≡◌, ℕ, ◌+◌, ◌%◌, false, List, [], ◌++◌, length, ◌∙◌, ap, append_assoc, length-append}
use Rattle.std.specs.Prelude.{flat_map}
use Rattle.std.proofs.lemmas.List.{length-replicate}
use Rattle.bw_model.specs.Take.{Take, Format, Close, AreFields, with_request}
use Rattle.bw_model.specs.Layout.{pad, chunk}
use Rattle.bw_model.specs.File.{file_with, header, cue_chunks, data_place}
use Rattle.bw_model.proofs.HeaderLaws.{header_of_file, length-header}

pub length-pad : (n : ℕ) → length (pad n) ≡ n % 2
length-pad n = length-replicate (n % 2) 0

module _ (f : Format) (t : Take) (limit : ℕ) (fields : AreFields t.fields) where
  abbrev pub head_with : ℕ → ℕ → List ℕ
  head_with data_len cues = header f t.fields t.history data_len cues limit

  abbrev pub body : List ℕ
  body = t.samples ++ pad (length t.samples)

  abbrev pub cue_chunk : List ℕ
  cue_chunk = flat_map chunk (cue_chunks t.markers)

  abbrev pub place : ℕ
  place = data_place (length t.history)

  joined : (header samples pad following : List ℕ) →
      header ++ samples ++ pad ++ following ≡ header ++ ((samples ++ pad) ++ following)
  joined header samples pad following = simp append_assoc

  pub file_open : t.closed ≡ false → file_with f t limit ≡ head_with (length t.samples) 0 ++ (body ++ [])
  file_open is_open = header_of_file f t limit fields
      ∙ rw is_open (joined (head_with (length t.samples) 0) t.samples (pad (length t.samples)) [])

  pub file_closed : (total : ℕ) →
      file_with f (with_request t (Close total)) limit
      ≡ head_with (length t.samples) (length t.markers) ++ (body ++ cue_chunk)
  file_closed total = header_of_file f (with_request t (Close total)) limit fields
      ∙ joined (head_with (length t.samples) (length t.markers)) t.samples (pad (length t.samples)) cue_chunk

  pub length-body : length body ≡ length t.samples + length t.samples % 2
  length-body = length-append t.samples (pad (length t.samples))
      ∙ ap (λ (n : ℕ). length t.samples + n) (length-pad (length t.samples))

  pub length-file : (data_len cues : ℕ) (rest : List ℕ) → length (head_with data_len cues ++ rest) ≡ place + length rest
  length-file data_len cues rest =
      length-append (head_with data_len cues) rest
      ∙ ap (λ (n : ℕ). n + length rest) (length-header f t.fields t.history data_len cues limit fields)
