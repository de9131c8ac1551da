-- Which frames a server is given, by the peers that they come from.
use Rattle.std.specs.Prelude.{◌≡◌, ◌⊎◌, ℕ, ◌+◌, Bool, true, false, not, if◌then◌else◌, None, List, [], ◌∷◌}
use Rattle.std.specs.declared.net.socket_addr.SocketAddr.{SocketAddr}
use Rattle.bw_model.specs.Wire.{Frame, Says, Asks, Bye}
use Rattle.bw_model.specs.Replies.{Reply, Noticed, TableFull, Next}
use Rattle.bw_model.specs.Turn.{notice}
use Rattle.bw_exchange.specs.AnsweredFrames.{Answered, AnswersAll}
use Rattle.bw_exchange.specs.LinkCounts.{up_to_last}
use Rattle.bw_serve.specs.OneName.{frame_name}
use Rattle.bw_operators.specs.AllowLists.{AllowRules, may_come}

-- what a peer hears from which that name isn't taken: the table is full, and no number came yet
abbrev pub turned_away : Frame → List Reply
turned_away (Says m) = notice m TableFull 0
turned_away (Asks name number) = Noticed name number Next 0 ∷ []
turned_away Bye = []

-- A peer's frame is answered by the server if its name is allowed from there. Else it is turned
-- away, and these are the states of the server before and after it.
pub record GuardedAs {S : Type 0} (rests : S → S → Type 0)
    (answers : S → Frame → List Reply → S → Type 0)
    (rules : AllowRules) (peer : SocketAddr) (s : S) (frame : Frame) (replies : List Reply) (s' : S)
    : Type 0 where
  pub passed : may_come rules peer (frame_name frame) ≡ true → answers s frame replies s'
  pub refused : may_come rules peer (frame_name frame) ≡ false →
      (replies ≡ turned_away frame) × rests s s'

-- a frame that is turned away changes nothing of the server
abbrev pub Guarded : {S : Type 0} → (S → Frame → List Reply → S → Type 0) → AllowRules →
    SocketAddr →
    S → Frame → List Reply → S → Type 0
Guarded answers rules = GuardedAs (λ s s'. s' ≡ s) answers rules

-- a frame isn't given to the server: its name isn't allowed from this peer
abbrev pub is_kept_out : AllowRules → SocketAddr → Frame → Bool
is_kept_out rules peer frame = not (may_come rules peer (frame_name frame))

-- how many were turned away after this frame more
abbrev pub turning_away : (Frame → Bool) → ℕ → Frame → ℕ
turning_away away n frame = if away frame then up_to_last (n + 1) else n

-- how what comes from each peer is answered, and which of it is turned away
pub record PeerAnswers (S : Type 0) : Type 1 where
  pub by_peer : SocketAddr → S → Frame → List Reply → S → Type 0
  pub turns_away : SocketAddr → Frame → Bool

-- the same of a server that is given only what these rules allow
abbrev pub guarded_answers : {S : Type 0} → (S → Frame → List Reply → S → Type 0) → AllowRules →
    PeerAnswers S
guarded_answers answers rules =
    record { by_peer = Guarded answers rules; turns_away = is_kept_out rules }

-- Between these states there was a commit, or nothing: what was answered in the first one was
-- answered in the second, and if all of it was committed, they are the same.
pub record Rests {S : Type 0} (answers : S → Frame → List Reply → S → Type 0)
    (committed : S → Type 0) (s s' : S) : Type 0 where
  pub answered : (first : S) (frame : Frame) (replies : List Reply) → answers first frame replies s →
      answers first frame replies s'
  pub unchanged : committed s → s' ≡ s

-- the same, where a commit may follow
abbrev pub GuardedOverCommits : {S : Type 0} → (S → Frame → List Reply → S → Type 0) →
    (S → Type 0) → AllowRules → SocketAddr → S → Frame → List Reply → S → Type 0
GuardedOverCommits answers committed rules = GuardedAs (Rests answers committed) answers rules

-- it answered so what came from some peer
pub record FromPeer {S : Type 0} (answers : SocketAddr → S → Frame → List Reply → S → Type 0)
    (s : S)
    (frame : Frame) (replies : List Reply) (s' : S) : Type 0 where
  pub peer : SocketAddr
  pub answered : answers peer s frame replies s'

-- The law of what a guarded server answered.

-- it was turned away from some peer, from which its name isn't allowed
pub record IsTurnedAway (rules : AllowRules) (a : Answered) : Type 0 where
  pub peer : SocketAddr
  pub refused : may_come rules peer (frame_name a.frame) ≡ false
  pub replies : a.replies ≡ turned_away a.frame

-- it came from some peer, from which its name is allowed
pub record IsAllowed (rules : AllowRules) (a : Answered) : Type 0 where
  pub peer : SocketAddr
  pub allowed : may_come rules peer (frame_name a.frame) ≡ true

-- the second are those of the first that are allowed, in their order; all others were turned away
abbrev pub LeavesAllowed : AllowRules → List Answered → List Answered → Type 0
LeavesAllowed rules [] own = own ≡ []
LeavesAllowed rules (a ∷ rest) own = (IsTurnedAway rules a × LeavesAllowed rules rest own)
    ⊎ (IsAllowed rules a × ((more : List Answered) × (own ≡ a ∷ more) × LeavesAllowed rules rest
    more))

-- Those of these that are allowed are a run of the server itself.
abbrev pub AnswersAllowed : {S : Type 0} → (S → Frame → List Reply → S → Type 0) → AllowRules
    → S →
    List Answered → S → Type 0
AnswersAllowed answers rules s xs s' = (own : List Answered) × LeavesAllowed rules xs own
    × AnswersAll answers s own s'

-- Each run of a guarded server is so; over commits, each from where all is committed. Without rules
-- all of it is a run of the server itself.
pub record GuardedRunsAreRuns {S : Type 0} (answers : S → Frame → List Reply → S → Type 0)
    (committed : S → Type 0) : Type 0 where
  pub guarded : (rules : AllowRules) (s : S) (xs : List Answered) (s' : S) →
      AnswersAll (FromPeer (Guarded answers rules)) s xs s' → AnswersAllowed answers rules s xs s'
  pub over_commits : (rules : AllowRules) (s : S) (xs : List Answered) (s' : S) → committed s →
      AnswersAll (FromPeer (GuardedOverCommits answers committed rules)) s xs s' →
      AnswersAllowed answers rules s xs s'
  pub everyone : (s : S) (xs : List Answered) (s' : S) →
      AnswersAll (FromPeer (Guarded answers None)) s xs s' → AnswersAll answers s xs s'
  pub everyone_over_commits : (s : S) (xs : List Answered) (s' : S) →
      AnswersAll (FromPeer (GuardedOverCommits answers committed None)) s xs s' →
      AnswersAll answers s xs s'
