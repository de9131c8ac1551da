-- What a sender in plain memory keeps of all that was offered and heard.
use Rattle.std.specs.Prelude.{◌≡◌, ◌<◌, ◌≤◌, ◌+◌, ◌&&◌, ℕ, suc, Bool, Option, Some, None, is_none, List, []}
use Rattle.std.specs.Prelude.{◌∷◌}
use Rattle.std.specs.Prelude.{◌++◌, length, take, count_by, get_or, nat_lt}
use Rattle.bw_model.specs.Bytes.{at, first_free}
use Rattle.bw_model.specs.Take.{Request, Verdict}
use Rattle.bw_model.specs.Replies.{verdict_code}
use Rattle.bw_model.specs.World.{Sender as Defined, is_some_stored, settled}
use Rattle.bw_c.specs.declared.sender.BwiSender.{BwiSender}

-- the bytes of its name
abbrev pub sender_name : BwiSender → List ℕ
sender_name x = take x.name_len x.name

-- what a slot holds: 0 stands for no verdict, so that Stored, whose code is 0, is none
abbrev pub slot_of : Option Verdict → ℕ
slot_of None = 0
slot_of (Some v) = suc (verdict_code v)

-- The sender keeps what these definitions say of it, with the first k numbers settled.
pub record PlainFrom (k : ℕ) (s : Defined) (x : BwiSender) : Type 0 where
  pub name : sender_name x ≡ s.name
  pub offered : x.offered ≡ length s.offered
  pub within : length s.verdicts ≤ length s.offered
  pub few : length s.offered ≤ k + 16
  pub prefix : k ≤ first_free s.verdicts
  pub settled : x.settled ≡ k
  pub slots : (i : ℕ) → i < 16 → get_or x.verdicts i 0 ≡ slot_of (at s.verdicts (k + i))
  pub stored : x.stored ≡ count_by is_some_stored (take k s.verdicts)

-- The sender is what these definitions say.
abbrev pub IsPlainSender : Defined → BwiSender → Type 0
IsPlainSender s x = PlainFrom (settled s) s x

-- the sender with one more request
abbrev pub with_offer : Defined → Request → Defined
with_offer s r = record s { offered = s.offered ++ r ∷ [] }

-- the number was offered and has no verdict
abbrev pub lacks_verdict : Defined → ℕ → Bool
lacks_verdict s n = nat_lt n (length s.offered) && is_none (at s.verdicts n)
