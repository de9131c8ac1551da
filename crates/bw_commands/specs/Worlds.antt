-- What a rehearsal results in.
use Rattle.std.specs.Prelude.{◌≡◌, ◌⊎◌, ℕ, true, false, List, length}
use Rattle.bw_model.specs.Book.{log_of}
use Rattle.bw_model.specs.CountedTurn.{is_pending}
use Rattle.bw_model.specs.Exchange.{take_in, content_in}
use Rattle.bw_model.specs.World as model
use Rattle.bw_store.specs.MemoryNames.{memory_content}
use Rattle.bw_session.specs.Books.{HoldsBook, failures_of}
use Rattle.bw_session.specs.SeenServers.{server_store, server_limit}
use Rattle.bw_sender.specs.Senders.{IsSender}
use Rattle.bw_commands.specs.RehearsedWorlds.{LeadsTo, no_contents}
use Rattle.bw_commands.specs.declared.event.Event.{Event}
use Rattle.bw_commands.specs.declared.rehearsing.World.{World}

-- These events lead to a world of the definitions, and this is what it has.
pub record WasRehearsed (name : List ℕ) (limit : ℕ) (events : List Event) (w : World) : Type 0 where
  pub world : model.World
  -- the number of failures of the store is the one that its server counted
  pub led : LeadsTo name events (failures_of _ _ w.server) world
  pub offered : w.offered ≡ length world.sender.offered
  pub sent : w.sent ≡ length world.sent
  pub replies : w.replies ≡ length world.replies
  pub sender : IsSender world.sender w.sender
  -- the server holds the world's book, over a store in memory that was empty
  pub limited : server_limit w.server ≡ limit
  pub held : HoldsBook _ _ no_contents w.server world.book
  -- so each name that is closed, or under which nothing waits, has its take's file
  pub files : (name : List ℕ) → (is_pending (log_of world.book name) ≡ false)
      ⊎ ((take_in false world.book name).closed ≡ true) →
      memory_content (server_store w.server) name
      ≡ content_in no_contents limit world.book name
