-- What a feed that is known gives.
use Rattle.std.specs.Prelude.{◌≡◌, Result, Ok, Err, List, [], ◌∷◌}
use Rattle.bw_model.specs.Take.{Request}
use Rattle.bw_upload.specs.declared.feed.Given.{Given}
use Rattle.bw_upload.specs.declared.feed.Given.TheVariants as gives

-- of these requests the first is given, or none of them yet, or there are none; after a fault it
-- isn't known which are still to come
abbrev pub FeedsOf : {X : Type 0} → List Request → Result Given X → (List Request → Type 0) → Type 0
FeedsOf requests (Ok (gives.Request r)) left' =
    (rest : List Request) × (requests ≡ r ∷ rest) × left' rest
FeedsOf requests (Ok gives.NotYet) left' = left' requests
FeedsOf requests (Ok gives.End) left' = (requests ≡ []) × left' []
FeedsOf requests (Err fault) left' = Unit {0}

-- whichever may be still to come
abbrev pub GivesRequest : {X : Type 0} → (List Request → Type 0) → Result Given X →
    (List Request → Type 0) → Type 0
GivesRequest left result left' =
    (requests : List Request) → left requests → FeedsOf requests result left'
