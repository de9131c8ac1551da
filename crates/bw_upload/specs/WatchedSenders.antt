-- What is seen of a sender's progress.
use Rattle.std.specs.Prelude.{ℕ, List}
use Rattle.bw_model.specs.Take.{Request}
use Rattle.bw_sender.specs.declared.sender.Sender.{Sender}
use Rattle.bw_upload.specs.declared.watch.Progress.{Progress}

-- the round's number
abbrev pub watched_round : Progress → ℕ
watched_round p = p.round

-- the sender
abbrev pub watched_sender : Progress → Sender
watched_sender p = p.sender.now

-- the requests of its input
abbrev pub watched_requests : Progress → List Request
watched_requests p = p.requests.now
