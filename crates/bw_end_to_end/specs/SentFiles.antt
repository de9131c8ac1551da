-- What `send --file` stored, if it ended with status 0.
use Rattle.std.specs.Prelude.{◌≡◌, List, [], ◌++◌}
use Rattle.bw_model.specs.Take.{Request}
use Rattle.bw_stream.specs.declared.sink.Sink.{Ghosts as Writer}
use Rattle.bw_stream.specs.declared.source.Source.{Ghosts as Reader}
use Rattle.bw_console.specs.Outcomes.{Outcome}
use Rattle.bw_console.specs.declared.exit.Exit.TheVariants.{Done}
use Rattle.bw_ports.specs.declared.dial.Dial.{Ghosts as DialGhosts}
use Rattle.bw_ports.specs.declared.pause.Pause.{Ghosts as PauseGhosts}
use Rattle.bw_upload.specs.declared.feed.Feed.{Ghosts as FeedGhosts}
use Rattle.bw_send_file.specs.Sendings.{Errand, Ways, IsFeedSent, SendsFeed}
use Rattle.bw_send_file.specs.declared.fault.FeedFault.{FeedFault}
use Rattle.bw_end_to_end.specs.UsedLinks.{HasAllStored}

module _ {F P D R W : Type 0} (feed : FeedGhosts F FeedFault) (pause : PauseGhosts P)
    (dial : DialGhosts D R W) (reader : Reader R) (writer : Writer W) where
  -- these requests were offered in an upload, and no others, and all are stored
  pub record StoresFeed (e : Errand) (f f' : F) (old new : Ways P D) (did : Outcome)
      (requests : List Request) : Type 0 where
    pub sent : SendsFeed feed pause dial reader writer e f f' old new did
    pub all : sent.went.last.filling.sender.offered ++ [] ≡ requests
    pub stored : HasAllStored requests sent.went.last.filling.sender.verdicts

  -- It is so with all that the feed was to give, if it ended with status 0.
  abbrev pub DoneFeedsAreStored : Type 0
  DoneFeedsAreStored = (e : Errand) (f f' : F) (old new : Ways P D) (did : Outcome) →
      IsFeedSent feed pause dial reader writer e f f' old new did → did.exit ≡ Done →
      (requests : List Request) → feed.left f requests →
      StoresFeed e f f' old new did requests
