use Rattle.std.proofs.Common.{◌≡◌, ℕ, List, refl, sym, ap, ◌∙◌, slice_index, slice_index_or, []}
use Rattle.sha2.specs.Sha256.{first_words}
use Rattle.bw_digest.specs.Lanes.{words_from}
use Rattle.bw_digest.proofs.LaneLemmas.{lane_word}
use Rattle.bw_digest.proofs.block.first_window.Goals as goal

pub returns : goal.returns
unfolding first_words
returns c j low =
    let b : List ℕ = slice_index_or c.args.blocks.now j [] in
    let x : List (List ℕ) = c.eight_words-x.result in
    let y : List (List ℕ) = c.eight_words-y.result in
    let low_words : (k : ℕ) → slice_index (slice_index_or x k []) j ≡ slice_index (words_from b 0) k =
    λ k. sym (lane_word x j k) ∙ ap (λ (l : List ℕ). slice_index l k) (c.eight_words-x.ensures j low) in
    let high_words : (k : ℕ) → slice_index (slice_index_or y k []) j ≡ slice_index (words_from b 8) k =
    λ k. sym (lane_word y j k) ∙ ap (λ (l : List ℕ). slice_index l k) (c.eight_words-y.ensures j low) in
    rw (
      low_words 0,
      low_words 1,
      low_words 2,
      low_words 3,
      low_words 4,
      low_words 5,
      low_words 6,
      low_words 7,
      high_words 0,
      high_words 1,
      high_words 2,
      high_words 3,
      high_words 4,
      high_words 5,
      high_words 6,
      high_words 7,
    ) refl
