-- The `cue ` chunk of some points.
use Rattle.std.proofs.Common.{◌≡◌, ℕ, ◌+◌, ◌*◌, ◌%◌, ◌<◌, Bool, List, [], ◌∷◌, ◌++◌, cond, length, ◌∙◌, ap, arith, refl}
use Rattle.std.specs.Prelude.{codes, flat_map}
use Rattle.std.proofs.lemmas.Bool.{ne_eqb}
use Rattle.std.proofs.lemmas.List.{append-nil}
use Rattle.bw_model.specs.Bytes.{even_up, zeros}
use Rattle.bw_model.specs.Layout.{Chunk, head, chunk, pad, cue_content}
use Rattle.bw_model.specs.File.{cue_chunks}
use Rattle.bw_model.proofs.Widths.{length-chunk_sized, length-cue_content}
use Rattle.bw_layout.specs.Cues.{cue_chunk_length}

-- a head and the points: their length is even
pub cue_chunk_is : (cues : List (ℕ × ℕ)) → 0 < length cues →
    flat_map chunk (cue_chunks cues) ≡ head (codes "cue ") (4 + 24 * length cues) ++ cue_content cues
cue_chunk_is [] some = absurd (omega (arith, some))
cue_chunk_is (m ∷ ms) some =
    let content = cue_content (m ∷ ms) in
    let size : ℕ = 4 + 24 * length (m ∷ ms) in
    let c : Chunk = record { id = codes "cue "; content = content } in
    let even : size % 2 ≡ 0 = omega arith in
    append-nil (chunk c)
    ∙ ap (λ (k : ℕ). head (codes "cue ") k ++ (content ++ pad k)) (length-cue_content (m ∷ ms))
    ∙ ap (λ (k : ℕ). head (codes "cue ") size ++ (content ++ zeros k)) even
    ∙ ap (λ (l : List ℕ). head (codes "cue ") size ++ l) (append-nil content)

pub length_of_some : (count : ℕ) → 0 < count → cue_chunk_length count ≡ 12 + 24 * count
length_of_some count some =
    ap (λ (b : Bool). cond b 0 (12 + 24 * count)) (ne_eqb count 0 (λ e. omega (arith, e, some)))

-- a `cue ` chunk has 12 bytes, and 24 for each point
pub length-cue_chunk : (cues : List (ℕ × ℕ)) → 0 < length cues →
    length (flat_map chunk (cue_chunks cues)) ≡ 12 + 24 * length cues
length-cue_chunk [] some = absurd (omega (arith, some))
length-cue_chunk (m ∷ ms) some =
    let c : Chunk = record { id = codes "cue "; content = cue_content (m ∷ ms) } in
    ap length (append-nil (chunk c)) ∙ length-chunk_sized (length c.content) c refl
    ∙ ap (λ (k : ℕ). 8 + even_up k) (length-cue_content (m ∷ ms)) ∙ omega arith
