-- The first requests of a feed are passed over.
use Rattle.std.specs.Prelude.{◌≡◌, ◌≢◌, ◌⊎◌, ◌++◌, ◌≤◌, ◌<◌, ℕ, Bool, true, false, List, [], ◌∷◌}
use Rattle.std.specs.Prelude.{Ok, Err, length}
use Rattle.std.specs.List.{list_any}
use Rattle.bw_model.specs.Take.{Request}
use Rattle.bw_model.specs.World.{is_close}
use Rattle.bw_ports.specs.declared.recording_files.FileStamp.{FileStamp}
use Rattle.bw_upload.specs.WindowFills.{AsksFeed}
use Rattle.bw_upload.specs.declared.feed.Feed.{Ghosts as FeedGhosts}
use Rattle.bw_upload.specs.declared.feed.Given.TheVariants as gives

-- the first so many of these requests, none of them a CLOSE, were passed over, and the others are
-- still to come
pub record SkipsFirst (count : ℕ) (requests : List Request) (left' : List Request → Type 0)
    : Type 0 where
  pub given : List Request
  pub rest : List Request
  pub all : requests ≡ given ++ rest
  pub many : length given ≡ count
  pub unclosed : list_any is_close given ≡ false
  pub to_come : left' rest

module _ {F X : Type 0} (feed : FeedGhosts F X) where
  -- the feed gave these requests, one after another
  abbrev pub GivesFirst : List Request → F → F → Type 0
  GivesFirst [] f g = g ≡ f
  GivesFirst (r ∷ rs) f g = (next : F) × AsksFeed feed f (Ok (gives.Request r)) next
      × GivesFirst rs next g

  -- these were the first so many, and none of them is a CLOSE
  pub record PassesFirst (count : ℕ) (given : List Request) (f g : F) : Type 0 where
    pub went : GivesFirst given f g
    pub many : length given ≡ count
    pub unclosed : list_any is_close given ≡ false

  -- there aren't so many before a CLOSE or the end, or they aren't there yet
  pub record LacksFirst (count : ℕ) (f : F) : Type 0 where
    pub given : List Request
    pub at : F
    pub went : GivesFirst given f at
    pub few : length given ≤ count
    pub why : (list_any is_close given ≡ true)
        ⊎ ((length given < count) × (after : F)
        × (AsksFeed feed at (Ok gives.End) after ⊎ AsksFeed feed at (Ok gives.NotYet) after))

  -- the feed failed before it had given so many
  pub record FailsFirst (count : ℕ) (f : F) (fault : X) : Type 0 where
    pub given : List Request
    pub at : F
    pub went : GivesFirst given f at
    pub few : length given < count
    pub after : F
    pub fails : AsksFeed feed at (Err fault) after

  -- whether they were passed over
  abbrev pub SkipsBy : Bool → ℕ → F → F → Type 0
  SkipsBy true count f g = (given : List Request) × PassesFirst count given f g
  SkipsBy false count f g = LacksFirst count f

  -- .. of a file that has this stamp now, and had that one first
  abbrev pub PassesBy : Bool → FileStamp → FileStamp → ℕ → F → F → Type 0
  PassesBy true now first count f g = (now ≡ first) × SkipsBy true count f g
  PassesBy false now first count f g = (now ≢ first) ⊎ SkipsBy false count f g
