-- What the requests of a feed are sent by, and how that ends.
use Rattle.std.specs.Prelude.{◌≡◌, ◌≢◌, ◌⊎◌, ◌++◌, ℕ, Bool, true, false, List, [], Option, Some, Ok}
use Rattle.bw_model.specs.Take.{Request}
use Rattle.bw_model.specs.World.{Sender as Defined}
use Rattle.bw_stream.specs.declared.sink.Sink.{Ghosts as Writer}
use Rattle.bw_stream.specs.declared.source.Source.{Ghosts as Reader}
use Rattle.bw_ports.specs.declared.dial.Dial.{Ghosts as DialGhosts}
use Rattle.bw_ports.specs.declared.pause.Pause.{Ghosts as PauseGhosts}
use Rattle.bw_sender.specs.Senders.{new_sender}
use Rattle.bw_sender.specs.declared.sender.Sender.{Sender}
use Rattle.bw_console.specs.Outcomes.{Outcome as Did, IsOutOfMemory}
use Rattle.bw_console.specs.declared.exit.Exit.TheVariants as exits
use Rattle.bw_upload.specs.OfferedFeeds.{HasEachStored}
use Rattle.bw_upload.specs.WholeUploads.{Uploads}
use Rattle.bw_upload.specs.declared.feed.Feed.{Ghosts as FeedGhosts}
use Rattle.bw_upload.specs.declared.feed.Given.TheVariants as gives
use Rattle.bw_upload.specs.declared.outcome.Outcome.{Outcome}
use Rattle.bw_upload.specs.declared.outcome.Outcome.TheVariants as outcomes
use Rattle.bw_send_file.specs.Endings.{EndsAfter}
use Rattle.bw_send_file.specs.declared.fault.FeedFault.{FeedFault}
use Rattle.bw_send_file.specs.declared.fault.FeedFault.TheVariants.{Unread, Unstamped, Refused, Changed}
use Rattle.bw_send_file.specs.declared.fault.FeedFault.TheVariants.{Unsendable, Memory}
use Rattle.bw_send_file.specs.declared.settling.NoMore.{NoMore}

-- the name of a take, its file's path, and how many links in a row may settle nothing
pub record Errand : Type 0 where
  pub name : List ℕ
  pub path : List ℕ
  pub most : Option ℕ

-- what links are made by, and what is waited by before them
pub record Ways (P D : Type 0) : Type 0 where
  pub pause : P
  pub dial : D

-- each of these requests was offered, in their order, and is stored
pub record StoresAll (requests : List Request) (s : Defined) : Type 0 where
  pub offered : s.offered ≡ requests
  pub stored : HasEachStored s

-- a feed that has ended
abbrev pub no_more : FeedGhosts NoMore FeedFault
no_more = record { left = λ f requests. requests ≡ []; gives = λ f given g. given ≡ Ok gives.End }

-- the outcome is a fault of the feed
abbrev pub is_feed_fault : Outcome FeedFault → Bool
is_feed_fault outcomes.Done = false
is_feed_fault (outcomes.Refused n v) = false
is_feed_fault (outcomes.Conflict n) = false
is_feed_fault (outcomes.TooFar n) = false
is_feed_fault (outcomes.NotOffered error) = false
is_feed_fault outcomes.Fruitless = false
is_feed_fault (outcomes.Feed fault) = true
is_feed_fault outcomes.Memory = false
is_feed_fault outcomes.Limit = false

-- how many links in a row may settle nothing while what was offered before this fault is sent on: no
-- link is made after memory was refused, and one is enough after a failed call of the system
abbrev pub settling_most : FeedFault → Option ℕ → Option ℕ
settling_most (Unread f) most = Some 1
settling_most (Unstamped error) most = Some 1
settling_most (Refused f) most = most
settling_most Changed most = most
settling_most Unsendable most = most
settling_most Memory most = Some 0

-- how an upload ends whose feed failed, where what it had given was sent on, and that ended so: by
-- the fault, once all of it is stored, or too many links settle nothing
abbrev pub outcome_after : FeedFault → Outcome FeedFault → Outcome FeedFault
outcome_after fault outcomes.Done = outcomes.Feed fault
outcome_after fault (outcomes.Refused n v) = outcomes.Refused n v
outcome_after fault (outcomes.Conflict n) = outcomes.Conflict n
outcome_after fault (outcomes.TooFar n) = outcomes.TooFar n
outcome_after fault (outcomes.NotOffered error) = outcomes.NotOffered error
outcome_after fault outcomes.Fruitless = outcomes.Feed fault
outcome_after fault (outcomes.Feed other) = outcomes.Feed other
outcome_after fault outcomes.Memory = outcomes.Memory
outcome_after fault outcomes.Limit = outcomes.Limit

module _ {P D R W : Type 0} (pause : PauseGhosts P) (dial : DialGhosts D R W) (reader : Reader R)
    (writer : Writer W) where
  -- what this sender was offered was sent on after its feed failed so, and nothing else
  pub record SettlesOffered (most : Option ℕ) (fault : FeedFault) (s : Defined) (sender : Sender)
      (outcome : Outcome FeedFault) (p p' : P) (d d' : D) : Type 0 where
    pub ended : NoMore
    pub ended' : NoMore
    pub rest : Outcome FeedFault
    pub went : Uploads no_more pause dial reader writer (settling_most fault most) s sender rest
        ended ended' p p' d d'
    pub told : outcome ≡ outcome_after fault rest

module _ {F P D R W : Type 0} (feed : FeedGhosts F FeedFault) (pause : PauseGhosts P)
    (dial : DialGhosts D R W) (reader : Reader R) (writer : Writer W) where
  -- from this sender on, to which the first requests may have been offered, the upload of what the
  -- feed gives went so, and the feed didn't fail
  pub record SendsFeedAfter (s : Defined) (e : Errand) (f f' : F) (old new : Ways P D) (did : Did)
      : Type 0 where
    pub outcome : Outcome FeedFault
    pub sender : Sender
    pub went : Uploads feed pause dial reader writer e.most s sender outcome f f'
        old.pause new.pause old.dial new.dial
    pub fed : is_feed_fault outcome ≡ false
    pub ends : EndsAfter e.path went.last.filling.sender outcome did
    -- with the status 0 the first ones and all that the feed was to give are stored
    pub done : did.exit ≡ exits.Done → (requests : List Request) → feed.left f requests →
        StoresAll (s.offered ++ requests) went.last.filling.sender

  -- a new sender's went so
  abbrev pub SendsFeed : Errand → F → F → Ways P D → Ways P D → Did → Type 0
  SendsFeed e = SendsFeedAfter (new_sender e.name) e

  -- The feed failed. What it had given before was sent on then, until all of it was stored or that
  -- couldn't go on.
  pub record SendsUpToFault (s : Defined) (e : Errand) (f f' : F) (old new : Ways P D) (did : Did)
      : Type 0 where
    pub fault : FeedFault
    pub between : Ways P D
    pub first : Sender
    pub ended : Outcome FeedFault
    pub went : Uploads feed pause dial reader writer e.most s first ended f f'
        old.pause between.pause old.dial between.dial
    pub failed : ended ≡ outcomes.Feed fault
    pub outcome : Outcome FeedFault
    pub sender : Sender
    pub settles : SettlesOffered pause dial reader writer e.most fault went.last.filling.sender sender outcome
        between.pause new.pause between.dial new.dial
    pub ends : EndsAfter e.path settles.went.last.filling.sender outcome did
    pub undone : did.exit ≢ exits.Done

  -- memory was refused before anything was sent
  pub record SendsNothing (f f' : F) (old new : Ways P D) (did : Did) : Type 0 where
    pub feed_is : f' ≡ f
    pub unsent : new ≡ old
    pub ends : IsOutOfMemory did

  abbrev pub IsFeedSentAfter : Defined → Errand → F → F → Ways P D → Ways P D → Did → Type 0
  IsFeedSentAfter s e f f' old new did =
      SendsFeedAfter s e f f' old new did ⊎ SendsUpToFault s e f f' old new did
      ⊎ SendsNothing f f' old new did

  abbrev pub IsFeedSent : Errand → F → F → Ways P D → Ways P D → Did → Type 0
  IsFeedSent e = IsFeedSentAfter (new_sender e.name) e
