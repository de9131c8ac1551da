-- What a reactor counts, and which peers it accepted.
use Rattle.std.specs.Prelude.{ℕ, Option, Some, None, List, [], ◌∷◌, Result, Ok, Err}
use Rattle.bw_stream.specs.Moves.{one_more}
use Rattle.bw_ports.specs.declared.reactor.TryAcceptFault.{TryAcceptFault}
use Rattle.bw_ports.specs.declared.reactor.TryAcceptFault.TheVariants.{Closed}
use Rattle.bw_ports.specs.declared.reactor.Accepted.{Accepted}

-- the count of failures after a peer was asked for: it rises exactly if no more are accepted
abbrev pub closes_after : {G : Type 0} → Result G TryAcceptFault → ℕ → ℕ
closes_after (Err Closed) n = one_more n
closes_after _ n = n

-- the list of what is there
abbrev pub those : {X : Type 0} → Option X → List X
those None = []
those (Some x) = x ∷ []

-- a link that a reactor gave, after the place for which it was asked
abbrev pub Admission : Type 0 → Type 0
Admission L = ℕ × L

-- the result of a call for a place: the link that it gave, if it gave one
abbrev pub admitted_by : {L : Type 0} → ℕ → Result (Accepted L) TryAcceptFault → List (Admission L)
admitted_by place (Ok accepted) = (place, accepted.link) ∷ []
admitted_by place (Err fault) = []
