-- An operator's connection: what its link gave is a request, and what it took is the response.
use Rattle.std.specs.Prelude.{◌≡◌, ◌⊎◌, ◌≤◌, ℕ, Bool, true, false, List, [], ◌++◌, length, take, Option}
use Rattle.std.specs.Prelude.{Some, None}
use Rattle.bw_status.specs.declared.answer.Answer.{Answer}
use Rattle.bw_status.specs.declared.snapshot.Snapshot.{Snapshot}
use Rattle.bw_status.specs.Answers.{AnswersRequest}
use Rattle.bw_status.specs.Responses.{response_text}
use Rattle.bw_ports.specs.declared.link.Link.{Ghosts as LinkGhosts}
use Rattle.bw_operators.specs.declared.connection.Connection.{Connection}
use Rattle.bw_operators.specs.declared.connection.Phase.{Phase}
use Rattle.bw_operators.specs.declared.connection.Phase.TheVariants.{Reading, Asking, Answering}
use Rattle.bw_operators.specs.declared.connection.Phase.TheVariants.{Draining}

-- how long a connection lasts at most, in milliseconds
abbrev pub longest_connection : ℕ
longest_connection = 5000

-- what is to be answered, once the request has come
abbrev pub asked_in : Phase → Option Answer
asked_in Reading = None
asked_in (Asking a) = Some a
asked_in Answering = None
asked_in Draining = None

-- nothing is to be answered or sent: the request isn't whole, or the response is sent
abbrev pub is_silent_in : Phase → Bool
is_silent_in Reading = true
is_silent_in (Asking a) = false
is_silent_in Answering = false
is_silent_in Draining = true

-- these bytes respond to the request that those are, with what a server was doing at one moment
abbrev pub Responds : List ℕ → List ℕ → Type 0
Responds held response =
    (a : Answer) × (s : Snapshot) × AnswersRequest held (Some a) × (response ≡ response_text a s)

-- a request that isn't whole is read on; a whole one is to be answered
abbrev pub HasHeld : List ℕ → Phase → Type 0
HasHeld held phase = ((phase ≡ Reading) × AnswersRequest held None)
    ⊎ ((a : Answer) × (phase ≡ Asking a) × AnswersRequest held (Some a))

-- nothing has come, or a request that isn't whole
abbrev pub IsRequestPart : List ℕ → Type 0
IsRequestPart held = (held ≡ []) ⊎ AnswersRequest held None

module _ {L : Type 0} (G : LinkGhosts L) where
  -- the link gave what is held, and took what of the response is sent
  abbrev pub IsConnectionIn : Phase → L → List ℕ → List ℕ → ℕ → Type 0
  IsConnectionIn Reading link held response sent = G.given link held × G.taken link [] × IsRequestPart held
  IsConnectionIn (Asking a) link held response sent =
      G.given link held × G.taken link [] × AnswersRequest held (Some a)
  IsConnectionIn Answering link held response sent =
      G.given link held × G.taken link (take sent response) × Responds held response
      × (sent ≤ length response)
  IsConnectionIn Draining link held response sent =
      ((more : List ℕ) × G.given link (held ++ more)) × G.taken link response
      × Responds held response

  abbrev pub IsConnection : Connection L → Type 0
  IsConnection c = IsConnectionIn c.phase c.link c.held.items c.response.items c.sent
