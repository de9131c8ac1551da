-- The connections of operators, each at its place.
use Rattle.std.specs.Prelude.{◌≡◌, ◌≢◌, ◌≤◌, ◌⊎◌, ℕ, zero, suc, Bool, true, false, List, [], Option}
use Rattle.std.specs.Prelude.{Some, None, slice_get, vec_len}
use Rattle.std.specs.Prelude.{is_none, nat_lt, ◌&&◌, if◌then◌else◌}
use Rattle.std.specs.List.{position}
use Rattle.bw_status.specs.declared.answer.Answer.{Answer}
use Rattle.bw_ports.specs.declared.link.Link.{Ghosts as LinkGhosts}
use Rattle.bw_operators.specs.declared.connection.Connection.{Connection}
use Rattle.bw_operators.specs.declared.connection.Phase.TheVariants.{Reading, Answering}
use Rattle.bw_operators.specs.declared.operators.Operators.{Operators}
use Rattle.bw_operators.specs.OperatorConnections.{IsConnection, asked_in, is_silent_in}
use Rattle.bw_operators.specs.Steps.{StepsConnection}

-- how many places there are
abbrev pub place_count : {L : Type 0} → Operators L → ℕ
place_count o = vec_len o.places

-- a connection is at a place
abbrev pub HoldsAt : {L : Type 0} → Operators L → ℕ → Connection L → Type 0
HoldsAt o place c = slice_get o.places.items place ≡ Some (Some c)

-- the place exists and is free
abbrev pub IsFreeAt : {L : Type 0} → Operators L → ℕ → Type 0
IsFreeAt o place = slice_get o.places.items place ≡ Some None

-- the first free place, if there is one
abbrev pub lowest_free_place : {L : Type 0} → Operators L → Option ℕ
lowest_free_place o = position is_none o.places.items

-- at each place that is taken the link gave a request, and took the response to it
abbrev pub AreConnections : {L : Type 0} → LinkGhosts L → Operators L → Type 0
AreConnections {L} G o = (place : ℕ) (c : Connection L) → HoldsAt o place c → IsConnection G c

-- what is to be answered at a place, if a request has come there
abbrev pub asked_of : {L : Type 0} → Option (Option (Connection L)) → Option Answer
asked_of (Some (Some c)) = asked_in c.phase
asked_of _ = None

abbrev pub asked_at : {L : Type 0} → Operators L → ℕ → Option Answer
asked_at o place = asked_of (slice_get o.places.items place)

-- when the connection at a place began, in milliseconds; 0 at a free one
abbrev pub since_of : {L : Type 0} → Option (Option (Connection L)) → ℕ
since_of (Some (Some c)) = c.since
since_of _ = 0

abbrev pub since_at : {L : Type 0} → Operators L → ℕ → ℕ
since_at o place = since_of (slice_get o.places.items place)

-- of those at which a request is to be answered this place's connection has lasted for longest
abbrev pub LastsLongest : {L : Type 0} → Operators L → ℕ → Type 0
LastsLongest o place =
    (other : ℕ) (a : Answer) → asked_at o other ≡ Some a → since_at o place ≤ since_at o other

-- The oldest place so far, or this one if a request is to be answered here and its connection has
-- lasted longer.
abbrev pub longer_of : {L : Type 0} → Operators L → ℕ → Option (ℕ × Answer) → Option Answer →
    Option (ℕ × Answer)
longer_of o place best None = best
longer_of o place None (Some a) = Some (place, a)
longer_of o place (Some b) (Some a) =
    if nat_lt (since_at o place) (since_at o b.0) then Some (place, a) else Some b

abbrev pub oldest_of : {L : Type 0} → Operators L → Option (ℕ × Answer) → ℕ →
    Option (ℕ × Answer)
oldest_of o best place = longer_of o place best (asked_at o place)

-- the connection at a place was let in before this time, and nothing is to be answered or sent there
abbrev pub is_silent_of : {L : Type 0} → ℕ → Option (Option (Connection L)) → Bool
is_silent_of now (Some (Some c)) = nat_lt c.since now && is_silent_in c.phase
is_silent_of now _ = false

abbrev pub is_silent_at : {L : Type 0} → Operators L → ℕ → ℕ → Bool
is_silent_at o now place = is_silent_of now (slice_get o.places.items place)

-- of those this place's connection has lasted for longest
abbrev pub LastsLongestSilent : {L : Type 0} → Operators L → ℕ → ℕ → Type 0
LastsLongestSilent o now place = (is_silent_at o now place ≡ true)
    × ((other : ℕ) → is_silent_at o now other ≡ true → since_at o place ≤ since_at o other)

-- The oldest place so far, or this one if it is silent and its connection has lasted longer.
abbrev pub longer_silent_of : {L : Type 0} → Operators L → ℕ → Option ℕ → Option ℕ
longer_silent_of o place None = Some place
longer_silent_of o place (Some b) =
    if nat_lt (since_at o place) (since_at o b) then Some place else Some b

abbrev pub oldest_silent_of : {L : Type 0} → Operators L → ℕ → Option ℕ → ℕ → Option ℕ
oldest_silent_of o now best place =
    if is_silent_at o now place then longer_silent_of o place best else best

-- the place for one operator more at this time: the first free one, or else that of the connection
-- that is silent and has lasted for longest
abbrev pub IsNextPlace : {L : Type 0} → Operators L → ℕ → ℕ → Type 0
IsNextPlace o now place = ((lowest_free_place o ≡ Some place) × IsFreeAt o place)
    ⊎ ((lowest_free_place o ≡ None) × LastsLongestSilent o now place)

-- there is none: each is taken by one that was just let in, or is to be answered
abbrev pub HasNoNextPlace : {L : Type 0} → Operators L → ℕ → Type 0
HasNoNextPlace o now =
    (lowest_free_place o ≡ None) × ((place : ℕ) → is_silent_at o now place ≡ false)

-- the other places are as they were
pub record LeavesOtherPlaces {L : Type 0} (place : ℕ) (o o' : Operators L) : Type 0 where
  pub others : (j : ℕ) → j ≢ place → slice_get o'.places.items j ≡ slice_get o.places.items j
  pub count : place_count o' ≡ place_count o

-- a new connection over this link is at a place from this time on
pub record AdmitsAt {L : Type 0} (place : ℕ) (new : L) (now : ℕ) (o' : Operators L) : Type 0 where
  pub connection : Connection L
  pub there : HoldsAt o' place connection
  pub link : connection.link ≡ new
  pub phase : connection.phase ≡ Reading
  pub since : connection.since ≡ now
  pub held : connection.held.items ≡ []

-- one operator more is let in from this time on, at the next place
pub record LetsInOne {L : Type 0} (now : ℕ) (o o' : Operators L) : Type 0 where
  pub place : ℕ
  pub next : IsNextPlace o now place
  pub link : L
  pub admits : AdmitsAt place link now o'
  pub others : LeavesOtherPlaces place o o'

-- so many were let in, one after another
abbrev pub LetsOperatorIn : {L : Type 0} → ℕ → ℕ → Operators L → Operators L → Type 0
LetsOperatorIn now zero o o' = o' ≡ o
LetsOperatorIn {L} now (suc n) o o' =
    (between : Operators L) × LetsOperatorIn now n o between × LetsInOne now between o'

-- the connection at a place sends this response from its start
pub record RespondsAt {L : Type 0} (place : ℕ) (text : List ℕ) (o o' : Operators L) : Type 0 where
  pub asking : Connection L
  pub was : HoldsAt o place asking
  pub connection : Connection L
  pub there : HoldsAt o' place connection
  pub phase : connection.phase ≡ Answering
  pub response : connection.response.items ≡ text
  pub sent : connection.sent ≡ 0
  pub link : connection.link ≡ asking.link
  pub since : connection.since ≡ asking.since
  pub held : connection.held.items ≡ asking.held.items

-- the connection at a place, if there is one, made a step
abbrev pub StepsIn : {L : Type 0} → LinkGhosts L → ℕ → List (Option (Connection L)) →
    List (Option (Connection L)) → ℕ → Type 0
StepsIn {L} G now xs ys place = (r : Option (Connection L)) → slice_get xs place ≡ Some r →
    (r' : Option (Connection L)) × (slice_get ys place ≡ Some r') × StepsConnection G now r r'

abbrev pub StepsAt : {L : Type 0} → LinkGhosts L → ℕ → Operators L → Operators L → ℕ → Type 0
StepsAt G now o o' place = StepsIn G now o.places.items o'.places.items place
