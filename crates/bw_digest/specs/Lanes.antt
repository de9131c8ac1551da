-- Eight messages side by side: each word is a vector, with a lane for each message.
use Rattle.std.specs.Prelude.{ℕ, ◌<◌, ◌+◌, ◌*◌, List, [], ◌∷◌, map, slice_index}
use Rattle.sha2.specs.Sha256.{word_at, IsRoundsAt}

-- the words of message j
abbrev pub lane : ℕ → List (List ℕ) → List ℕ
lane j words = map (λ word. slice_index word j) words

-- in each of the eight lanes
abbrev pub InEachLane : (ℕ → Type 0) → Type 0
InEachLane holds = (j : ℕ) → j < 8 → holds j

-- in lane j, after t rounds of block b from the hash value h, the window is w and the working
-- variables are v
abbrev pub AreRoundsIn : ℕ → List ℕ → List ℕ → List (List ℕ) → List (List ℕ) → ℕ →
    Type 0
AreRoundsIn j b h w v t = IsRoundsAt b h (lane j w) (lane j v) t

-- eight words of a block, from the word at a place on
abbrev pub words_from : List ℕ → ℕ → List ℕ
words_from block place =
    word_at block (4 * place) ∷ word_at block (4 * (place + 1))
    ∷ word_at block (4 * (place + 2)) ∷ word_at block (4 * (place + 3))
    ∷ word_at block (4 * (place + 4)) ∷ word_at block (4 * (place + 5))
    ∷ word_at block (4 * (place + 6)) ∷ word_at block (4 * (place + 7)) ∷ []
