use Rattle.std.proofs.Common.{◌≡◌, ℕ, List, ◌∙◌, ap, [], ◌∷◌, slice_index_or}
use Rattle.sha2.specs.Sha256.{digest_bytes, sha256}
use Rattle.bw_digest.proofs.LaneLemmas.{below_eight}
use Rattle.bw_digest.proofs.sha256.digests.Goals as goal

pub returns : goal.returns
unfolding sha256
returns c j low =
    let made : List (List ℕ) =
    c.bytes_of.result ∷ c.bytes_of-2.result ∷ c.bytes_of-3.result ∷ c.bytes_of-4.result
    ∷ c.bytes_of-5.result ∷ c.bytes_of-6.result ∷ c.bytes_of-7.result ∷ c.bytes_of-8.result ∷ [] in
    below_eight (λ j. slice_index_or made j [] ≡ digest_bytes (slice_index_or c.hashes_of-hashes.result j []) 8)
    c.bytes_of.ensures c.bytes_of-2.ensures c.bytes_of-3.ensures c.bytes_of-4.ensures
    c.bytes_of-5.ensures c.bytes_of-6.ensures c.bytes_of-7.ensures c.bytes_of-8.ensures j low
    ∙ ap (λ h. digest_bytes h 8) (c.hashes_of-hashes.ensures j low)
