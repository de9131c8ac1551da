-- A worked row: a sender that goes on once its OPEN is stored, as from a state of one request.
use Rattle.std.specs.Prelude.{◌≡◌, Some, None, [], ◌∷◌, ◌++◌}
use Rattle.bw_model.specs.Take.{Open, Block, Close, Stored}
use Rattle.bw_model.specs.Book.{Book}
use Rattle.bw_model.specs.Turn.{good, book_after}
use Rattle.bw_model.specs.Exchange.{content_in, nothing_stands}
use Rattle.bw_model.specs.ExampleWords.{a1, mono, two_frames, block_1, close_2, judged_example, says}
use Rattle.bw_model.specs.ExampleWords.{example_limit, small_file}
use Rattle.bw_model.specs.ExamplesOfWorlds.{small_take}
use Rattle.bw_exchange.specs.TurnRuns.{IsRunOf}
use Rattle.bw_delivery.specs.ExamplesOfDeliveries.{stores}
use Rattle.bw_delivery.specs.Statement.{LinkBytes, SenderPart, DidSend, ServerKind, ServerPart, DidServe}
use Rattle.bw_delivery.specs.Statement.{Premises}
use Rattle.bw_end_to_end.specs.UsedLinks.{HasAllStored}

-- each end of its link gets all that the other end wrote: not OPEN, but what follows it
abbrev pub rest_link : LinkBytes
rest_link = record {
  said = block_1 ++ close_2;
  received = block_1 ++ close_2;
  answered = judged_example 1 0 ++ judged_example 2 0;
  heard = judged_example 1 0 ++ judged_example 2 0;
}

-- the sender, which had the verdict on its OPEN, and has those on all three then
abbrev pub going_on : SenderPart
going_on = record {
  name = a1;
  requests = small_take;
  had = Some Stored ∷ [];
  has = Some Stored ∷ Some Stored ∷ Some Stored ∷ [];
  links = (0, rest_link) ∷ [];
}

-- a server that is nothing but a book of the definitions
abbrev pub only_book : ServerKind Book
only_book = record {
  contents = λ b name. content_in (λ n. None) example_limit b name;
  honest = λ b. Unit {0};
  limit = λ b. example_limit;
  holds = λ first b book. b ≡ book;
  answers = λ b f rs later. IsRunOf nothing_stands b (record { frame = f; replies = rs } ∷ []) later;
}

-- its book after OPEN, then after BLOCK, and after CLOSE
abbrev pub begun_book : Book
begun_book = book_after nothing_stands [] ((says 0 (Open mono []), good) ∷ [])

abbrev pub filled_book : Book
filled_book = book_after nothing_stands begun_book ((says 1 (Block two_frames), good) ∷ [])

abbrev pub ended_book : Book
ended_book = book_after nothing_stands filled_book ((says 2 (Close 2), good) ∷ [])

-- its run
abbrev pub rest_run : ServerPart Book
rest_run = record {
  first = λ name. None;
  book = begun_book;
  trace = (0, stores 1 (says 1 (Block two_frames))) ∷ (0, stores 2 (says 2 (Close 2))) ∷ [];
  old = begun_book;
  new = ended_book;
}

-- all that the promise asks holds, each request is stored, and the file has two frames
abbrev pub SenderOnExample : Type 0
SenderOnExample = DidSend going_on × DidServe only_book going_on rest_run
    × Premises only_book going_on rest_run × HasAllStored small_take going_on.has
    × (only_book.contents ended_book a1 ≡ Some small_file)
