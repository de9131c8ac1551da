-- What a request that is to be stored says about its take.
use Rattle.std.proofs.Common.{◌≡◌, ℕ, ◌<◌, Bool, true, false, cond, List, length, Option, Some, None, refl, arith}
use Rattle.std.specs.Prelude.{IsTrue, IsSome}
use Rattle.bw_model.specs.Take.{Format, Parts, Request, Open, Block, SetField, Close, Stored, Closed}
use Rattle.bw_model.specs.Take.{NotOpen, judge, judge_open}
use Rattle.bw_model.specs.Wire.{is_request}

-- the take is open
pub record IsOpen (p : Parts) : Type 0 where
  pub format : Format
  pub has_format : p.format ≡ Some format
  pub not_closed : p.closed ≡ false

module _ (p : Parts) (r : Request) (needs_format : judge_open p None r ≡ NotOpen) where
  opened : (closed : Bool) (format : Option Format) → cond closed Closed (judge_open p format r) ≡ Stored →
      (closed ≡ false) × ((f : Format) × (format ≡ Some f))
  opened true format e = cc
  opened false None e = let both = needs_format in cc
  opened false (Some f) e = (refl, (f, refl))

  pub open_for : judge p r ≡ Stored → IsOpen p
  unfolding judge
  open_for e =
      let o = opened p.closed p.format e in
      record { format = o.1.0; has_format = o.1.1; not_closed = o.0 }

pub open_for_block : (p : Parts) (bytes : List ℕ) → judge p (Block bytes) ≡ Stored → IsOpen p
open_for_block p bytes e = open_for p (Block bytes) refl e

pub open_for_close : (p : Parts) (total : ℕ) → judge p (Close total) ≡ Stored → IsOpen p
open_for_close p total e = open_for p (Close total) refl e

pub open_for_field : (p : Parts) (tag : ℕ) (value : List ℕ) → judge p (SetField tag value) ≡ Stored → IsOpen p
open_for_field p tag value e = open_for p (SetField tag value) refl e

pub is_some_open : (p : Parts) → IsOpen p → IsSome p.format
is_some_open p o = rw o.has_format refl

-- a block has bytes
pub some_in_block : (bytes : List ℕ) → IsTrue (is_request (Block bytes)) → 0 < length bytes
some_in_block bytes fits = grind arith

-- a take that is to be opened
pub record IsUnopened (p : Parts) : Type 0 where
  pub no_format : p.format ≡ None
  pub not_closed : p.closed ≡ false

pub unopened_for_open : (p : Parts) (f : Format) (history : List ℕ) → judge p (Open f history) ≡ Stored → IsUnopened p
unfolding judge
unopened_for_open p f history e = let o = go p.closed p.format e in record { no_format = o.1; not_closed = o.0 }
  where
    go : (closed : Bool) (format : Option Format) →
        cond closed Closed (judge_open p format (Open f history)) ≡ Stored → (closed ≡ false) × (format ≡ None)
    go true format e = cc
    go false None e = (refl, refl)
    go false (Some g) e = cc
