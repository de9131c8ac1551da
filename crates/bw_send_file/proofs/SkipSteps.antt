-- A feed gives requests, one after another.
use Rattle.std.proofs.Common.{◌≡◌, ◌<◌, ◌+◌, ◌∙◌, ℕ, Bool, true, false, List, [], ◌∷◌, ◌++◌, Ok, Err, length, ap}
use Rattle.std.proofs.Common.{sym, refl, arith, inl, inr, subst, length-append}
use Rattle.std.specs.Prelude.{◌⊎◌, ◌||◌}
use Rattle.std.specs.List.{list_any, AllByRecursion}
use Rattle.std.proofs.lemmas.List.Folds.{list_any-append}
use Rattle.bw_model.specs.Take.{Request}
use Rattle.bw_model.specs.World.{is_close}
use Rattle.bw_upload.specs.WindowFills.{AsksFeed}
use Rattle.bw_upload.specs.declared.feed.Feed.{Ghosts as FeedGhosts}
use Rattle.bw_upload.specs.declared.feed.Given.{Given}
use Rattle.bw_upload.specs.declared.feed.Given.TheVariants as gives
use Rattle.bw_ports.specs.declared.recording_files.FileStamp.{FileStamp}
use Rattle.bw_send_file.specs.declared.fault.FeedFault.{FeedFault}
use Rattle.bw_send_file.specs.TakeOpenings.{IsNoBlock, StopsSkippingAt, StopsOpening}
use Rattle.bw_send_file.specs.SkippedRequests.{FailsFirst, GivesFirst, LacksFirst, PassesBy, PassesFirst}

module _ {F X : Type 0} (feed : FeedGhosts F X) where
  pub gives_more : (given : List Request) (f g h : F) (r : Request) → GivesFirst feed given f g →
      AsksFeed feed g (Ok (gives.Request r)) h → GivesFirst feed (given ++ r ∷ []) f h
  gives_more [] f g h r e asks =
      (h, subst (λ (x : F). AsksFeed feed x (Ok (gives.Request r)) h) e asks, refl)
  gives_more (x ∷ xs) f g h r went asks = (went.0, went.1, gives_more xs went.0 g h r went.2 asks)

  -- what was given is what it turned out to be
  pub given_as : (f g : F) (given given' : Given) → given ≡ given' → AsksFeed feed f (Ok given) g →
      AsksFeed feed f (Ok given') g
  given_as f g given given' e asks = subst (λ (x : Given). AsksFeed feed f (Ok x) g) e asks

  pub passes_none : (f : F) → PassesFirst feed 0 [] f f
  passes_none f = record { went = refl; many = refl; unclosed = refl }

  pub passes_more : (n : ℕ) (given : List Request) (f g h : F) (r : Request) → PassesFirst feed n given f g →
      AsksFeed feed g (Ok (gives.Request r)) h → is_close r ≡ false →
      PassesFirst feed (n + 1) (given ++ r ∷ []) f h
  passes_more n given f g h r old asks other = record {
    went = gives_more given f g h r old.went asks;
    many = length-append given (r ∷ []) ∙ ap (λ (k : ℕ). k + 1) old.many;
    unclosed = list_any-append is_close given (r ∷ [])
        ∙ ap (λ (b : Bool). b || list_any is_close (r ∷ [])) old.unclosed ∙ ap (λ (b : Bool). b || false) other;
  }

  -- the next one is a CLOSE
  pub lacks_close : (n count : ℕ) (given : List Request) (f g h : F) (r : Request) → n < count →
      PassesFirst feed n given f g → AsksFeed feed g (Ok (gives.Request r)) h → is_close r ≡ true →
      LacksFirst feed count f
  lacks_close n count given f g h r more old asks closes =
      let many = old.many in
      let long : length (given ++ r ∷ []) ≡ n + 1 =
      length-append given (r ∷ []) ∙ ap (λ (k : ℕ). k + 1) many in
      record {
        given = given ++ r ∷ [];
        at = h;
        went = gives_more given f g h r old.went asks;
        few = omega (arith, long, more);
        why = inl (list_any-append is_close given (r ∷ [])
            ∙ ap (λ (b : Bool). b || list_any is_close (r ∷ [])) old.unclosed ∙ ap (λ (b : Bool). b || false) closes);
      }

  few_passed : (n count : ℕ) (given : List Request) (f g : F) → n < count → PassesFirst feed n given f g →
      length given < count
  few_passed n count given f g more old =
      let many = old.many in
      omega (arith, many, more)

  -- it has ended, or has nothing yet
  pub lacks_more : (n count : ℕ) (given : List Request) (f g h : F) → n < count → PassesFirst feed n given f g →
      AsksFeed feed g (Ok gives.End) h ⊎ AsksFeed feed g (Ok gives.NotYet) h → LacksFirst feed count f
  lacks_more n count given f g h more old asks =
      let few = few_passed n count given f g more old in
      record { given = given; at = g; went = old.went; few = omega (arith, few); why = inr (few, h, asks) }

  pub fails_first : (n count : ℕ) (given : List Request) (f g h : F) (fault : X) → n < count →
      PassesFirst feed n given f g → AsksFeed feed g (Err fault) h → FailsFirst feed count f fault
  fails_first n count given f g h fault more old asks =
      let few = few_passed n count given f g more old in
      record { given = given; at = g; went = old.went; few = few; after = h; fails = asks }

  -- they were passed over
  pub passed : (all : Bool) (now first : FileStamp) (count : ℕ) (f g : F) → all ≡ true →
      PassesBy feed all now first count f g → (given : List Request) × PassesFirst feed count given f g
  passed true now first count f g e h = h.1
  passed false now first count f g e h = absurd cc

  -- they weren't, though the file is the same
  pub not_passed : (all : Bool) (now first : FileStamp) (count : ℕ) (f g : F) → all ≡ false → now ≡ first →
      PassesBy feed all now first count f g → LacksFirst feed count f
  not_passed true now first count f g e same h = absurd cc
  not_passed false now first count f g e same (inl other) = absurd (other same)
  not_passed false now first count f g e same (inr lacks) = lacks

-- no block is among requests, and the next is none
pub blockless_more : (P : Request → Type 0) (given : List Request) (r : Request) → AllByRecursion P given → P r →
    AllByRecursion P (given ++ r ∷ [])
blockless_more P [] r all h = (h, tt)
blockless_more P (x ∷ xs) r all h = (all.0, blockless_more P xs r all.1 h)

module _ {F : Type 0} (feed : FeedGhosts F FeedFault) where
  -- so many requests were given, none of them a block
  pub record GivesBlockless (n : ℕ) (f g : F) : Type 0 where
    pub given : List Request
    pub went : GivesFirst feed given f g
    pub blockless : AllByRecursion IsNoBlock given
    pub many : length given ≡ n

  pub blockless_none : (f : F) → GivesBlockless 0 f f
  blockless_none f = record { given = []; went = refl; blockless = tt; many = refl }

  pub blockless_one : (n : ℕ) (f g h : F) (r : Request) → GivesBlockless n f g →
      AsksFeed feed g (Ok (gives.Request r)) h → IsNoBlock r → GivesBlockless (n + 1) f h
  blockless_one n f g h r old asks other = record {
    given = old.given ++ r ∷ [];
    went = gives_more feed old.given f g h r old.went asks;
    blockless = blockless_more IsNoBlock old.given r old.blockless other;
    many = length-append old.given (r ∷ []) ∙ ap (λ (k : ℕ). k + 1) old.many;
  }

  pub stops_opening : (n : ℕ) (f g : F) (fault : FeedFault) → GivesBlockless n f g → StopsSkippingAt feed n g fault →
      StopsOpening feed f fault
  stops_opening n f g fault old why = record {
    given = old.given;
    at = g;
    went = old.went;
    blockless = old.blockless;
    why = subst (λ (k : ℕ). StopsSkippingAt feed k g fault) (sym old.many) why;
  }
