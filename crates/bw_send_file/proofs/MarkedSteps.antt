-- What a feed with markers gives.
use Rattle.std.proofs.Common.{◌≡◌, ℕ, List, [], ◌∷◌, ◌++◌, Some, Result, Ok, Err, refl, sym, ◌∙◌, ap, subst, append_assoc}
use Rattle.bw_model.specs.Take.{Request}
use Rattle.bw_live.specs.declared.marker.Marker.{Ghosts as MarkerGhosts}
use Rattle.bw_upload.specs.Feeds.{FeedsOf}
use Rattle.bw_upload.specs.declared.feed.Feed.{Ghosts as FeedGhosts}
use Rattle.bw_upload.specs.declared.feed.Given.{Given}
use Rattle.bw_upload.specs.declared.feed.Given.TheVariants as gives
use Rattle.bw_send_file.specs.declared.fault.FeedFault.{FeedFault}
use Rattle.bw_send_file.specs.Marked.{GivesFirstOf, MarkedLeft, PassesOn, StateOfMarked, points_known, requests_before, with_marks}

module _ {X M : Type 0} (feed : FeedGhosts X FeedFault) (marker : MarkerGhosts M) where
  -- the first that waits
  pub waited : (f g : StateOfMarked X M) (r : Request) (requests : List Request) →
      f.waiting ≡ r ∷ g.waiting → g.feed ≡ f.feed →
      points_known marker g.marker ≡ points_known marker f.marker →
      MarkedLeft feed marker f requests →
      (rest : List Request) × (requests ≡ r ∷ rest) × MarkedLeft feed marker g rest
  waited f g r requests first same known left = (
    g.waiting ++ with_marks left.2 left.0,
    left.4 ∙ ap (λ (z : List Request). z ++ with_marks left.2 left.0) first,
    (
      left.0,
      subst (λ (z : X). feed.left z left.0) (sym same) left.1,
      left.2,
      known ∙ left.3,
      refl,
    ),
  )

  after_marks : (placed : List (ℕ × ℕ)) (r first : Request) (waiting more requests : List Request) →
      first ∷ waiting ≡ requests_before placed r ++ r ∷ [] →
      requests ≡ requests_before placed r ++ r ∷ more → requests ≡ first ∷ (waiting ++ more)
  after_marks placed r first waiting more requests held are =
      are ∙ sym (append_assoc (requests_before placed r) (r ∷ []) more)
      ∙ ap (λ (z : List Request). z ++ more) (sym held)

  first_of : (f g : StateOfMarked X M) (r : Request) (given : Result Given FeedFault)
      (rest more requests : List Request) (placed : List (ℕ × ℕ)) →
      GivesFirstOf (requests_before placed r) r given g.waiting → feed.left g.feed more →
      points_known marker g.marker ≡ Some placed →
      requests ≡ requests_before placed r ++ r ∷ with_marks placed more →
      FeedsOf requests given (MarkedLeft feed marker g)
  first_of f g r (Ok (gives.Request first)) rest more requests placed held left known are = (
    g.waiting ++ with_marks placed more,
    after_marks placed r first g.waiting (with_marks placed more) requests held are,
    (more, left, placed, known, refl),
  )
  first_of f g r (Ok gives.NotYet) rest more requests placed held left known are = absurd held
  first_of f g r (Ok gives.End) rest more requests placed held left known are = absurd held
  first_of f g r (Err fault) rest more requests placed held left known are = tt

  -- what the feed gave, with the markers before CLOSE
  pub passed_on : (f g : StateOfMarked X M) (asked given : Result Given FeedFault) (requests : List Request) →
      f.waiting ≡ [] → ((rs : List Request) → feed.left f.feed rs → FeedsOf rs asked (feed.left g.feed)) →
      PassesOn feed marker asked f given g.waiting → points_known marker g.marker ≡ points_known marker f.marker →
      MarkedLeft feed marker f requests → FeedsOf requests given (MarkedLeft feed marker g)
  passed_on f g (Ok (gives.Request r)) given requests none asks passed known left =
      let inner = asks left.0 left.1 in
      first_of f g r given left.0 inner.0 requests left.2 (passed left.2 left.3) inner.2 (known ∙ left.3)
      (left.4 ∙ ap (λ (z : List Request). z ++ with_marks left.2 left.0) none
      ∙ ap (λ (z : List Request). with_marks left.2 z) inner.1)
  passed_on f g (Ok gives.NotYet) given requests none asks passed known left =
      subst (λ (x : Result Given FeedFault). FeedsOf requests x (MarkedLeft feed marker g)) (sym passed.0) (
        left.0,
        asks left.0 left.1,
        left.2,
        known ∙ left.3,
        left.4 ∙ ap (λ (z : List Request). z ++ with_marks left.2 left.0) (none ∙ sym passed.1),
      )
  passed_on f g (Ok gives.End) given requests none asks passed known left =
      let inner = asks left.0 left.1 in
      subst (λ (x : Result Given FeedFault). FeedsOf requests x (MarkedLeft feed marker g)) (sym passed.0) (
        left.4 ∙ ap (λ (z : List Request). z ++ with_marks left.2 left.0) none
            ∙ ap (λ (z : List Request). with_marks left.2 z) inner.0,
        ([], inner.1, left.2, known ∙ left.3, sym (ap (λ (z : List Request). z ++ []) passed.1)),
      )
  passed_on f g (Err fault) given requests none asks passed known left =
      subst (λ (x : Result Given FeedFault). FeedsOf requests x (MarkedLeft feed marker g)) (sym passed.0) tt
