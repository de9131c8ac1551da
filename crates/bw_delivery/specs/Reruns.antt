-- A sender that is started again and again with the same requests, a server and the network between
-- them, over every schedule.
use Rattle.std.specs.Prelude.{◌≡◌, ℕ, Bool, Option, Some, None, List, [], ◌∷◌, ◌++◌, length, take}
use Rattle.std.specs.Prelude.{slice_get, slice_set, if◌then◌else◌}
use Rattle.std.specs.List.{Contains}
use Rattle.bw_model.specs.Bytes.{at}
use Rattle.bw_model.specs.Take.{Request, Verdict}
use Rattle.bw_model.specs.Wire.{Message, Frame, Says, Asks}
use Rattle.bw_model.specs.Replies.{Reply}
use Rattle.bw_model.specs.Book.{Book, log_of, made_by}
use Rattle.bw_model.specs.Turn.{Faults, turn, is_of}
use Rattle.bw_model.specs.Exchange.{take_in}
use Rattle.bw_model.specs.World.{Sender, World, IsFaithful, settled, offer, hear, new_world}

-- The runs of a sender, each with what was offered to it and the verdicts that it heard. Everything
-- ever sent and ever written stays, and any of it may reach the server, or any run, again and in
-- any order.
pub record Reruns : Type 0 where
  pub name : List ℕ
  -- what each run is to send, from number 0 on
  pub requests : List Request
  pub runs : List Sender
  pub sent : List Message
  pub book : Book
  pub replies : List Reply

-- before the first run
abbrev pub new_reruns : List ℕ → List Request → Reruns
new_reruns name requests = record {
  name = name;
  requests = requests;
  runs = [];
  sent = [];
  book = [];
  replies = [];
}

-- What may happen next. A run that is killed is one to which nothing happens any more; several runs
-- may also be active at once.
pub data RerunEvent : Type 0 where
  -- a run starts, from number 0
  Starts : RerunEvent
  -- a run starts where the i-th one is now
  Resumes : ℕ → RerunEvent
  -- the next of the requests is offered to the i-th run
  Offers : ℕ → RerunEvent
  -- the i-th run sends the request that was offered to it under the number n
  Sends : ℕ → ℕ → RerunEvent
  -- the k-th message that was sent reaches the server
  Delivers : ℕ → RerunEvent
  -- the k-th reply that was written reaches the i-th run
  Brings : ℕ → ℕ → RerunEvent
  -- the server is asked for the sender's name
  AskedFor : RerunEvent
  -- a message or an ask of another recorder reaches the server
  Others : Frame → RerunEvent

-- one more run
abbrev pub begun : Reruns → Option Sender → Reruns
begun x None = x
begun x (Some s) = record x { runs = x.runs ++ s ∷ [] }

-- a run changes
abbrev pub with_run : Reruns → ℕ → Option Sender → Reruns
with_run x i None = x
with_run x i (Some s) = record x { runs = slice_set x.runs i s }

-- the run after an offer, if there is a request
abbrev pub offered_to : Sender → Option Request → Sender
offered_to s None = s
offered_to s (Some r) = offer s r

-- the run after the next of its requests was offered
abbrev pub offered_next : List Request → Option Sender → Option Sender
offered_next requests None = None
offered_next requests (Some s) =
    Some (offered_to s (slice_get requests (length s.offered)))

-- a message is sent, if there is a request
abbrev pub sent_under : Reruns → ℕ → Option Request → Reruns
sent_under x n None = x
sent_under x n (Some r) =
    record x { sent = x.sent ++ record { name = x.name; number = n; request = r } ∷ [] }

-- a run sends what was offered to it under a number
abbrev pub sent_by : Reruns → Option Sender → ℕ → Reruns
sent_by x None n = x
sent_by x (Some s) n = sent_under x n (slice_get s.offered n)

-- a frame reaches the server, and its replies are written
abbrev pub met : (List ℕ → Bool) → Reruns → Frame → Faults → Reruns
met existed x f faults =
    let t = turn existed x.book f faults in record x { book = t.1; replies = x.replies ++ t.0 }

-- a message reaches the server, if there is one
abbrev pub delivered_to : (List ℕ → Bool) → Reruns → Option Message → Faults → Reruns
delivered_to existed x None faults = x
delivered_to existed x (Some m) faults = met existed x (Says m) faults

-- the run after a reply, if there is one
abbrev pub heard_by : Option Sender → Option Reply → Option Sender
heard_by None r = None
heard_by (Some s) None = Some s
heard_by (Some s) (Some r) = Some (hear s r)

-- the runs, the server and the network after an event
unfoldable pub rerun_step : (List ℕ → Bool) → Reruns → RerunEvent → Faults → Reruns
rerun_step existed x Starts faults = begun x (Some (new_world x.name).sender)
rerun_step existed x (Resumes i) faults = begun x (slice_get x.runs i)
rerun_step existed x (Offers i) faults = with_run x i (offered_next x.requests (slice_get x.runs i))
rerun_step existed x (Sends i n) faults = sent_by x (slice_get x.runs i) n
rerun_step existed x (Delivers k) faults = delivered_to existed x (slice_get x.sent k) faults
rerun_step existed x (Brings i k) faults =
    with_run x i (heard_by (slice_get x.runs i) (slice_get x.replies k))
rerun_step existed x AskedFor faults = met existed x (Asks x.name 0) faults
rerun_step existed x (Others f) faults = if is_of x.name f then x else met existed x f faults

-- the same after a schedule
abbrev pub reruns_after : (List ℕ → Bool) → Reruns → List (RerunEvent × Faults) → Reruns
reruns_after existed x [] = x
reruns_after existed x (e ∷ es) = reruns_after existed (rerun_step existed x e.0 e.1) es

-- the world of a run, as if all requests had been offered to it
abbrev pub world_of : Reruns → Sender → World
world_of x s = record {
  sender = record { name = x.name; offered = x.requests; verdicts = s.verdicts };
  sent = x.sent;
  book = x.book;
  replies = x.replies;
}

-- What holds of each run: its world is as faithful as that of a sender that was started once.
pub record IsFaithfulRun (existed : List ℕ → Bool) (x : Reruns) (s : Sender) : Type 0 where
  pub name_is : s.name ≡ x.name
  -- the first of the requests were offered to it
  pub offered : s.offered ≡ take (length s.offered) x.requests
  pub faithful : IsFaithful existed (world_of x s)

-- this holds of every run in every schedule, whatever is lost, repeated or reordered
abbrev pub EachRunIsFaithful : Type 0
EachRunIsFaithful = (existed : List ℕ → Bool) (name : List ℕ) (requests : List Request)
    (events : List (RerunEvent × Faults)) (s : Sender) →
    let x = reruns_after existed (new_reruns name requests) events in
    Contains x.runs s → IsFaithfulRun existed x s

-- Of faithful runs no two have different verdicts on one number.
abbrev pub RunsHearOneVerdict : Type 0
RunsHearOneVerdict = (existed : List ℕ → Bool) (x : Reruns) (s t : Sender) →
    IsFaithfulRun existed x s → IsFaithfulRun existed x t → (n : ℕ) (v w : Verdict) →
    at s.verdicts n ≡ Some v → at t.verdicts n ≡ Some w → v ≡ w

-- If a faithful run has all verdicts, all requests are done and no others, and the server's take is
-- what they make, each applied once in their order.
abbrev pub SettledRunsAreWhole : Type 0
SettledRunsAreWhole = (existed : List ℕ → Bool) (x : Reruns) (s : Sender) →
    IsFaithfulRun existed x s → settled s ≡ length x.requests →
    ((log_of x.book x.name).done ≡ length x.requests)
    × (take_in (existed x.name) x.book x.name ≡ made_by (existed x.name) x.requests)
