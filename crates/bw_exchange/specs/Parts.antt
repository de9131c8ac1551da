-- What its users know of an exchange.
use Rattle.std.specs.Prelude.{ℕ, Bool, Option, List, vec_capacity}
use Rattle.bw_wire.specs.FramerStates.{Pending}
use Rattle.bw_exchange.specs.declared.exchange.Exchange.{Exchange}
use Rattle.bw_exchange.specs.declared.step.StreamEnd.{StreamEnd}

-- whether a piece may be fed: all whole frames were answered, and more may come
abbrev pub wants_piece : Exchange → Bool
wants_piece e = e.wants_read

-- how it ended, if it is over
abbrev pub end_of : Exchange → Option StreamEnd
end_of e = e.end

-- the bytes of replies that wait to be taken
abbrev pub waiting_in : Exchange → List ℕ
waiting_in e = e.outgoing.items

-- how many such bytes it has room for
abbrev pub reply_room : Exchange → ℕ
reply_room e = vec_capacity e.outgoing

-- what its framer keeps
abbrev pub pending_of : Exchange → Pending
pending_of e = e.framer
