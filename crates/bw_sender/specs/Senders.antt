-- What a sender keeps of all that was offered and heard.
use Rattle.std.specs.Prelude.{◌≡◌, ◌<◌, ◌≤◌, ℕ, List, [], length, take, drop, count_by, map, Some}
use Rattle.std.specs.Prelude.{false}
use Rattle.std.specs.List.{list_any}
use Rattle.bw_model.specs.Take.{Stored}
use Rattle.bw_model.specs.World.{is_close}
use Rattle.bw_model.specs.Bytes.{first_free}
use Rattle.bw_model.specs.World.{Sender as Defined, settled, refused_from}
use Rattle.bw_model.specs.World.{has_closed_from, is_some_stored}
use Rattle.bw_sender.specs.Entries.{entries}
use Rattle.bw_sender.specs.declared.sender.Sender.{Sender}

-- a sender of this name to which nothing was offered
abbrev pub new_sender : List ℕ → Defined
new_sender name = record { name = name; offered = []; verdicts = [] }

-- a sender of this name to which so many requests were offered, all of them stored and none a CLOSE
pub record HasStored (name : List ℕ) (count : ℕ) (s : Defined) : Type 0 where
  pub name_is : s.name ≡ name
  pub offered : length s.offered ≡ count
  pub stored : s.verdicts ≡ map (λ r. Some Stored) s.offered
  pub unclosed : list_any is_close s.offered ≡ false

-- The sender keeps what these definitions say of it, with the first k numbers settled.
pub record KeepsFrom (k : ℕ) (s : Defined) (x : Sender) : Type 0 where
  pub name : x.name ≡ s.name
  pub offered : x.offered ≡ length s.offered
  -- only what was offered has a verdict, and the first k all have theirs
  pub within : length s.verdicts ≤ length s.offered
  pub prefix : k ≤ first_free s.verdicts
  -- the others are in the window
  pub window : x.window ≡ drop k (entries s.offered s.verdicts)
  -- the first k are counted, or listed with their verdicts
  pub stored : x.stored ≡ count_by is_some_stored (take k s.verdicts)
  pub refused : x.refused.numbers ≡ refused_from 0 (take k s.verdicts)
  pub closed : x.closed ≡ has_closed_from (take k s.offered) (take k s.verdicts)

-- The sender is what these definitions say.
abbrev pub IsSender : Defined → Sender → Type 0
IsSender s x = KeepsFrom (settled s) s x

-- how many requests were offered to it and accepted
abbrev pub offered_count : Sender → ℕ
offered_count x = x.offered

-- and how many of them it holds: those from the first without a verdict on
abbrev pub unsettled_count : Sender → ℕ
unsettled_count x = length x.window

-- there is room already for a refusal of each request that it holds, and of one more
abbrev pub HasRoom : Sender → Type 0
HasRoom x = length x.window < x.refused.room
