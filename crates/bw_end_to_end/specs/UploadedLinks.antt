-- The links of an upload.
use Rattle.std.specs.Prelude.{◌≡◌, ℕ, Option, Some, None, IsTrue, List, [], ◌∷◌, ◌++◌}
use Rattle.std.specs.List.{list_all}
use Rattle.bw_model.specs.Take.{Request}
use Rattle.bw_model.specs.Wire.{is_name, is_request}
use Rattle.bw_model.specs.World.{Sender as Defined}
use Rattle.bw_stream.specs.declared.sink.Sink.{Ghosts as Writer}
use Rattle.bw_stream.specs.declared.source.Source.{Ghosts as Reader}
use Rattle.bw_sender.specs.Senders.{new_sender}
use Rattle.bw_sender.specs.declared.sender.Sender.{Sender}
use Rattle.bw_ports.specs.declared.dial.Dial.{Ghosts as DialGhosts}
use Rattle.bw_ports.specs.declared.dial.Duplex.{Duplex}
use Rattle.bw_ports.specs.declared.pause.Pause.{Ghosts as PauseGhosts}
use Rattle.bw_upload.specs.Chains.{Chain}
use Rattle.bw_upload.specs.Conversations.{Conversing, Line, LeavesBy}
use Rattle.bw_upload.specs.Courses.{Course, CourseStep, UploadEvent, Fills, Misses, Makes, Talks, Leaves}
use Rattle.bw_upload.specs.Courses.{starts}
use Rattle.bw_upload.specs.WholeUploads.{Uploads}
use Rattle.bw_upload.specs.declared.feed.Feed.{Ghosts as FeedGhosts}
use Rattle.bw_upload.specs.declared.observer.LinkEnd.{LinkEnd}
use Rattle.bw_upload.specs.declared.observer.LinkEnd.TheVariants.{Ended, Broken, Stopped, Refused, Done}
use Rattle.bw_upload.specs.declared.outcome.Outcome.{Outcome}
use Rattle.bw_delivery.specs.Statement.{LinkBytes}
use Rattle.bw_end_to_end.specs.UsedLinks.{UsedLink, AreSenderEnds, SendsOver, SendsOnOver}
use Rattle.bw_end_to_end.specs.UsedLinks.{PendingHaveNumbers}

-- a link as it was made, and its writer after its use
abbrev pub used_link : {R W : Type 0} → Option (Duplex R W) → W → List (UsedLink R W)
used_link None w = []
used_link (Some made) w = record { reader = made.reader; writer = made.writer; writer_after = w } ∷ []

-- the same of a link that is still used
abbrev pub open_link : {R W : Type 0} → Option (Duplex R W) → Option (Line R W) → List (UsedLink R W)
open_link made None = []
open_link made (Some l) = used_link made l.writer

module _ {R W : Type 0} (reader : Reader R) (writer : Writer W) where
  -- the writer of a link that is left: after BYE, if that is said
  abbrev pub writer_left : (end : LinkEnd) (x : Conversing R W) → LeavesBy reader writer end x → W
  writer_left Done x why = why.1
  writer_left Ended x why = x.line.writer
  writer_left (Broken fault) x why = x.line.writer
  writer_left (Stopped stop) x why = x.line.writer
  writer_left Refused x why = x.line.writer

module _ {F P D R W X : Type 0} (feed : FeedGhosts F X) (pause : PauseGhosts P)
    (dial : DialGhosts D R W) (reader : Reader R) (writer : Writer W) (most : Option ℕ) where
  -- the links of a course, one after another; the first is this one, if it began over a link
  abbrev pub links_in_course : Option (Duplex R W) → (events : List UploadEvent)
      (x y : Course F P D R W) → Chain (CourseStep feed pause dial reader writer most) events x y →
      List (UsedLink R W)
  links_in_course made [] x y went = open_link made x.line
  links_in_course made (Fills e ∷ events) x y went =
      links_in_course made events went.0 y went.2
  links_in_course made (Misses ∷ events) x y went = links_in_course made events went.0 y went.2
  links_in_course made (Makes ∷ events) x y went =
      links_in_course (Some went.1.link) events went.0 y went.2
  links_in_course made (Talks e ∷ events) x y went = links_in_course made events went.0 y went.2
  links_in_course made (Leaves end ∷ events) x y went =
      used_link made (writer_left reader writer end
      (record { sender = x.filling.sender; line = went.1.l }) went.1.why)
      ++ links_in_course None events went.0 y went.2

  -- What an upload wrote over its links are the requests of its feed, and its verdicts came over them.
  abbrev pub UploadsSendRequests : Type 0
  UploadsSendRequests = (name : List ℕ) (sender : Sender) (outcome : Outcome X) (f f' : F) (p p' : P)
      (d d' : D) (went : Uploads feed pause dial reader writer most (new_sender name) sender outcome
      f f' p p' d d') (requests rest : List Request) (links : List (ℕ × LinkBytes)) →
      went.last.filling.sender.offered ++ rest ≡ requests → IsTrue (is_name name) →
      IsTrue (list_all is_request requests) →
      AreSenderEnds reader writer
      (links_in_course None went.events (starts (new_sender name) f p d) went.last went.went) links →
      SendsOver name requests went.last.filling.sender.verdicts links

  -- The same of an upload that goes on from a sender with requests and verdicts: its earlier requests
  -- are the first of these, and each verdict that it has then it had before, or it came over a link.
  abbrev pub UploadsSendOn : Type 0
  UploadsSendOn = (s : Defined) (sender : Sender) (outcome : Outcome X) (f f' : F) (p p' : P)
      (d d' : D) (went : Uploads feed pause dial reader writer most s sender outcome f f' p p' d d')
      (requests rest : List Request) (links : List (ℕ × LinkBytes)) →
      went.last.filling.sender.offered ++ rest ≡ requests → PendingHaveNumbers s →
      IsTrue (is_name s.name) → IsTrue (list_all is_request requests) →
      AreSenderEnds reader writer
      (links_in_course None went.events (starts s f p d) went.last went.went) links →
      SendsOnOver requests s went.last.filling.sender links
