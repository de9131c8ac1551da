-- What comes before the first block of a take.
use Rattle.std.specs.Prelude.{◌≡◌, ◌⊎◌, ◌++◌, ◌≤◌, ⊤, ℕ, suc, List, [], ◌∷◌, Ok, Err, length}
use Rattle.std.specs.List.{AllByRecursion}
use Rattle.sha2.specs.Sha256.{sha256}
use Rattle.bw_model.specs.Take.{Request, Block}
use Rattle.bw_model.specs.Wire.{body, framed}
use Rattle.bw_wire.specs.EncodedFrames.{said}
use Rattle.bw_upload.specs.WindowFills.{AsksFeed}
use Rattle.bw_upload.specs.declared.feed.Feed.{Ghosts as FeedGhosts}
use Rattle.bw_upload.specs.declared.feed.Given.TheVariants as gives
use Rattle.bw_send_file.specs.declared.fault.FeedFault.{FeedFault}
use Rattle.bw_send_file.specs.declared.fault.FeedFault.TheVariants.{Unsendable, Memory}
use Rattle.bw_send_file.specs.SkippedRequests.{GivesFirst}
use Rattle.bw_send_file.specs.declared.resumed_opening.Opening.{Opening}

-- the request is another one
abbrev pub IsNoBlock : Request → Type 0
IsNoBlock (Block bytes) = ⊥
IsNoBlock r = ⊤

-- the frames of the requests before the first block, the first of which has this number
abbrev pub frames_before_block : List ℕ → ℕ → List Request → List ℕ
frames_before_block name n [] = []
frames_before_block name n (Block bytes ∷ rs) = []
frames_before_block name n (r ∷ rs) =
    framed (body (said name n r)) ++ frames_before_block name (suc n) rs

-- the length of the first block
abbrev pub first_block_len : List Request → ℕ
first_block_len [] = 0
first_block_len (Block bytes ∷ rs) = length bytes
first_block_len (r ∷ rs) = first_block_len rs

pub record IsOpeningOf (name : List ℕ) (requests : List Request) (opening : Opening) : Type 0 where
  pub digest : opening.digest ≡ sha256 (frames_before_block name 0 requests)
  pub block : opening.block ≡ first_block_len requests

module _ {F : Type 0} (feed : FeedGhosts F FeedFault) where
  -- why a feed gives no opening: it failed, it has nothing yet, it gives more requests than a take
  -- has, or memory was refused
  abbrev pub StopsSkippingAt : ℕ → F → FeedFault → Type 0
  StopsSkippingAt n at fault = ((after : F) × AsksFeed feed at (Err fault) after)
      ⊎ ((after : F) × AsksFeed feed at (Ok gives.NotYet) after × (fault ≡ Unsendable))
      ⊎ ((16777216 ≤ n) × (fault ≡ Unsendable)) ⊎ (fault ≡ Memory)

  -- .. after these requests, none of them a block
  pub record StopsOpening (f : F) (fault : FeedFault) : Type 0 where
    pub given : List Request
    pub at : F
    pub went : GivesFirst feed given f at
    pub blockless : AllByRecursion IsNoBlock given
    pub why : StopsSkippingAt (length given) at fault
