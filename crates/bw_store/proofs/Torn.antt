-- Contents that a write may leave torn.
use Rattle.std.proofs.Common.{ℕ, ◌+◌, ◌≤◌, List, length, arith, ◌∙◌}
use Rattle.std.proofs.lemmas.List.{places}
use Rattle.bw_store.specs.Stores.{overwritten, Torn}

-- a whole write, and one of fewer bytes, give torn contents
pub overwritten_torn : (old bytes : List ℕ) (place n : ℕ) → length bytes ≤ n →
    Torn old place n (overwritten old place bytes)
overwritten_torn old bytes place n h =
    record {
      no_shorter = grind (arith, places);
      no_longer = grind (arith, places);
      before = λ k small. grind (arith, places);
      following = λ k large. grind (arith, places);
    }

-- torn in a wider range
pub torn_wider : (old new : List ℕ) (place n first m : ℕ) → first ≤ place → place + n ≤ first + m →
    Torn old place n new → Torn old first m new
torn_wider old new place n first m low high torn =
    let no_shorter = torn.no_shorter in
    let no_longer = torn.no_longer in
    record {
      no_shorter = no_shorter;
      no_longer = omega arith;
      before = λ k small. torn.before k (omega arith);
      following = λ k large. torn.following k (omega arith);
    }

-- torn twice in one range
pub torn_torn : (old middle new : List ℕ) (place n : ℕ) → Torn old place n middle → Torn middle place n new →
    Torn old place n new
torn_torn old middle new place n first second =
    let a = first.no_shorter in
    let b = first.no_longer in
    let c = second.no_shorter in
    let d = second.no_longer in
    record {
      no_shorter = omega arith;
      no_longer = omega arith;
      before = λ k small. second.before k small ∙ first.before k small;
      following = λ k large. second.following k large ∙ first.following k large;
    }
