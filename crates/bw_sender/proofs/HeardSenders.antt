-- What hearing leaves of a sender, and which verdict says that a request is stored.
use Rattle.std.proofs.Common.{◌≡◌, Bool, true, false, List, [], ◌∷◌, refl, ◌∙◌, cond}
use Rattle.std.proofs.lemmas.Bool.{false≢true}
use Rattle.bw_model.specs.Bytes.{put}
use Rattle.bw_model.specs.Replies.{Reply, Judged, Noticed, Refused}
use Rattle.bw_model.specs.Take.{Verdict, Stored, is_stored, NameTaken, AlreadyOpen, NotOpen, Closed, BadFormat}
use Rattle.bw_model.specs.Take.{BadBlock, BadMarker, DuplicateMarker, TooManyMarkers, BadField, WrongTotal}
use Rattle.bw_model.specs.World.{Sender as Defined, hear, is_counted}
use Rattle.bw_sender.specs.Hears.{hear_all}

-- hearing changes no offer
one_heard : (s : Defined) (r : Reply) → (hear s r).offered ≡ s.offered
one_heard s (Judged name n v) = go (is_counted s name n)
  where
    go : (b : Bool) → (cond b (record s { verdicts = put s.verdicts n v }) s).offered ≡ s.offered
    go true = refl
    go false = refl
one_heard s (Noticed name n code next) = refl
one_heard s (Refused reason place) = refl

pub all_heard : (s : Defined) (rs : List Reply) → (hear_all s rs).offered ≡ s.offered
all_heard s [] = refl
all_heard s (r ∷ rs) = all_heard (hear s r) rs ∙ one_heard s r

pub stored_is : (v : Verdict) → is_stored v ≡ true → v ≡ Stored
stored_is Stored e = refl
stored_is NameTaken e = absurd (false≢true e)
stored_is AlreadyOpen e = absurd (false≢true e)
stored_is NotOpen e = absurd (false≢true e)
stored_is Closed e = absurd (false≢true e)
stored_is BadFormat e = absurd (false≢true e)
stored_is BadBlock e = absurd (false≢true e)
stored_is BadMarker e = absurd (false≢true e)
stored_is DuplicateMarker e = absurd (false≢true e)
stored_is TooManyMarkers e = absurd (false≢true e)
stored_is BadField e = absurd (false≢true e)
stored_is WrongTotal e = absurd (false≢true e)
