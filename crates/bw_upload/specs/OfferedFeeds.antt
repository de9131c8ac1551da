-- Which of a feed's requests a sender was offered, and that all of them are stored.
use Rattle.std.specs.Prelude.{◌≡◌, ◌<◌, ℕ, Bool, true, Some, List, [], ◌++◌, length}
use Rattle.bw_model.specs.Bytes.{at}
use Rattle.bw_model.specs.Take.{Request, Stored}
use Rattle.bw_model.specs.World.{Sender}

-- each request that was offered has the verdict Stored
abbrev pub HasEachStored : Sender → Type 0
HasEachStored s = (n : ℕ) → n < length s.offered → at s.verdicts n ≡ Some Stored

-- After what was offered before, the first of the feed's requests were offered, in their order; if
-- the upload is done, all of them, and each request is stored.
pub record OffersFeed (s : Sender) (requests : List Request) (is_done : Bool) (t : Sender) : Type 0
  where
    pub given : List Request
    pub rest : List Request
    pub all : requests ≡ given ++ rest
    pub offered : t.offered ≡ s.offered ++ given
    pub none_left : is_done ≡ true → rest ≡ []
    pub stored : is_done ≡ true → HasEachStored t
