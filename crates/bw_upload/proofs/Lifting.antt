-- What fills the window and what is said over a link, as parts of an upload.
use Rattle.std.proofs.Common.{◌≡◌, ℕ, List, [], ◌∷◌, map, Option, Some, refl, sym, ap, ◌∙◌}
use Rattle.bw_stream.specs.declared.sink.Sink.{Ghosts as Writer}
use Rattle.bw_stream.specs.declared.source.Source.{Ghosts as Reader}
use Rattle.bw_ports.specs.declared.dial.Dial.{Ghosts as DialGhosts}
use Rattle.bw_ports.specs.declared.pause.Pause.{Ghosts as PauseGhosts}
use Rattle.bw_upload.specs.Chains.{Chain}
use Rattle.bw_upload.specs.Conversations.{Conversing, Line, TalkEvent, TalkStep}
use Rattle.bw_upload.specs.Courses.{Course, Fills, Talks, CourseStep}
use Rattle.bw_upload.specs.WindowFills.{Filling, FillEvent, FillStep}
use Rattle.bw_upload.specs.declared.feed.Feed.{Ghosts as FeedGhosts}

-- a course with another filling, and with another state of its talk
abbrev pub with_filling : {F P D R W : Type 0} → Course F P D R W → Filling F P → Course F P D R W
with_filling x f = record x { filling = f }

abbrev pub with_talk : {F P D R W : Type 0} → Course F P D R W → Conversing R W → Course F P D R W
with_talk x t = record x { filling = record x.filling { sender = t.sender }; line = Some t.line }

module _ {F P D R W X : Type 0} (feed : FeedGhosts F X) (pause : PauseGhosts P) (dial : DialGhosts D R W)
    (reader : Reader R) (writer : Writer W) (most : Option ℕ) where
  pub lift_fill : (es : List FillEvent) (x : Course F P D R W) (f : Filling F P) →
      Chain (FillStep feed pause) es x.filling f →
      Chain (CourseStep feed pause dial reader writer most) (map Fills es) x (with_filling x f)
  lift_fill [] x f went = ap (with_filling x) went
  lift_fill (e ∷ es) x f went = (
    with_filling x went.0,
    record { step = went.1; is = refl },
    lift_fill es (with_filling x went.0) f went.2,
  )

  pub lift_talk : (es : List TalkEvent) (x : Course F P D R W) (l : Line R W) (t : Conversing R W) → x.line ≡ Some l →
      Chain (TalkStep reader writer) es (record { sender = x.filling.sender; line = l }) t →
      Chain (CourseStep feed pause dial reader writer most) (map Talks es) x (with_talk x t)
  lift_talk [] x l t at went =
      ap (with_talk x) went ∙ ap (λ (o : Option (Line R W)). record x { line = o }) (sym at)
  lift_talk (e ∷ es) x l t at went = (
    with_talk x went.0,
    record { l = l; line = at; t = went.0; step = went.1; is = refl },
    lift_talk es (with_talk x went.0) went.0.line t refl went.2,
  )
