use Rattle.std.proofs.Common.{◌≡◌, ℕ, List, [], ◌∷◌}
use Rattle.std.specs.Borrow.{Bor}
use Rattle.bw_digest.specs.Messages.{lent_at}
use Rattle.bw_digest.proofs.LaneLemmas.{below_eight}
use Rattle.bw_take_files.specs.BlockDigests.{body_in}
use Rattle.bw_take_files.proofs.bodies.bodies_in.Goals as goal

pub returns : goal.returns
returns c =
    let made : List (Bor (List ℕ)) =
    c.body_of_len.result ∷ c.body_of_len-2.result ∷ c.body_of_len-3.result ∷ c.body_of_len-4.result
    ∷ c.body_of_len-5.result ∷ c.body_of_len-6.result ∷ c.body_of_len-7.result ∷ c.body_of_len-8.result ∷ [] in
    below_eight (λ j. lent_at made j ≡ body_in c.args.room.now c.args.lens.now j)
    c.body_of_len.ensures c.body_of_len-2.ensures c.body_of_len-3.ensures c.body_of_len-4.ensures
    c.body_of_len-5.ensures c.body_of_len-6.ensures c.body_of_len-7.ensures c.body_of_len-8.ensures
