use Rattle.std.proofs.Common.{ℕ, List, refl, ap, ◌∙◌, length, slice_index, slice_index_or, []}
use Rattle.sha2.specs.Sha256.{add_state, compress}
use Rattle.sha2.proofs.Schedule256.{IsWindow_first, length-first_words, slice_index-first_words}
use Rattle.bw_digest.specs.Lanes.{lane}
use Rattle.bw_digest.proofs.block.compress.Goals as goal

pub returns : goal.returns
unfolding compress
returns c j low =
    let b = slice_index_or c.args.blocks.now j [] in
    let h = lane j c.args.state.now in
    let words = c.first_window-window.ensures j low in
    let window = IsWindow_first b _ (ap length words ∙ length-first_words b 16)
    (λ k lt. ap (λ (x : List ℕ). slice_index x k) words ∙ slice_index-first_words b 16 k lt) in
    let r16 = c.first_rounds-v.ensures j b h low window refl in
    let r32 = c.sixteen_rounds-v.ensures j b h low (window, r16) in
    let r48 = c.sixteen_rounds-v-2.ensures j b h low r32 in
    let r64 = c.sixteen_rounds-v-3.ensures j b h low r48 in
    c.added.ensures j low ∙ ap (add_state h) r64.1
