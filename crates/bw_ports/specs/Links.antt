-- What moves over a link.
use Rattle.std.specs.Prelude.{ℕ, ◌≤◌, List, [], take}
use Rattle.bw_ports.specs.declared.link.Received.{Received}
use Rattle.bw_ports.specs.declared.link.Received.TheVariants as receives
use Rattle.bw_ports.specs.declared.link.Sent.{Sent}
use Rattle.bw_ports.specs.declared.link.Sent.TheVariants as sends

-- the bytes that came, at the start of a buffer
abbrev pub received : Received → List ℕ → List ℕ
received (receives.Bytes n) buffer = take n buffer
received receives.Ended buffer = []
received receives.Nothing buffer = []
received receives.Failed buffer = []

-- if bytes came, at least one did, and no more than there is room for
abbrev pub IsReceived : Received → ℕ → Type 0
IsReceived (receives.Bytes n) room = (1 ≤ n) × (n ≤ room)
IsReceived receives.Ended room = Unit {0}
IsReceived receives.Nothing room = Unit {0}
IsReceived receives.Failed room = Unit {0}

-- the bytes that were taken of these
abbrev pub sent : Sent → List ℕ → List ℕ
sent (sends.Bytes n) bytes = take n bytes
sent sends.Nothing bytes = []
sent sends.Failed bytes = []

-- if bytes were taken, at least one was, and no more than were offered
abbrev pub IsSent : Sent → ℕ → Type 0
IsSent (sends.Bytes n) offered = (1 ≤ n) × (n ≤ offered)
IsSent sends.Nothing offered = Unit {0}
IsSent sends.Failed offered = Unit {0}
