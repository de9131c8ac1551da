-- The lines of what happens at a server.
use Rattle.std.specs.Prelude.{ℕ, ◌*◌, ◌/◌, ◌%◌, List, ◌++◌, codes, decimal}
use Rattle.std.specs.Net.Text.{socket_text}
use Rattle.std.specs.declared.net.socket_addr.SocketAddr.{SocketAddr}
use Rattle.bw_model.specs.Take.{Verdict, Stored, NameTaken, AlreadyOpen, NotOpen, Closed}
use Rattle.bw_model.specs.Take.{BadFormat, BadBlock, BadMarker, DuplicateMarker, TooManyMarkers}
use Rattle.bw_model.specs.Take.{BadField, WrongTotal}
use Rattle.bw_operators.specs.Times.{last_three}

-- a server listens, over a folder
abbrev pub started_line : SocketAddr → List ℕ → List ℕ
started_line address folder = codes "started " ++ socket_text address ++ codes " folder " ++ folder
    ++ codes "\n"

-- a link of a peer begins
abbrev pub begun_line : SocketAddr → List ℕ
begun_line peer = codes "peer " ++ socket_text peer ++ codes " begun\n"

-- a peer's message under this name isn't taken, since the list doesn't allow it
abbrev pub peer_refused_line : SocketAddr → List ℕ → List ℕ
peer_refused_line peer name = codes "peer " ++ socket_text peer ++ codes " refused " ++ name ++ codes "\n"

-- a take is opened, or goes on with so many frames
abbrev pub take_opened_line : List ℕ → ℕ → List ℕ
take_opened_line name frames = codes "take " ++ name ++ codes " opened frames " ++ decimal frames
    ++ codes "\n"

-- a part in thousandths, rounded down
abbrev pub in_thousandths : ℕ → ℕ → List ℕ
in_thousandths n all = decimal (n / all) ++ codes "." ++ last_three (n % all * 1000 / all)

-- a take is closed, of so many frames at a rate, and so many bytes of samples
abbrev pub take_closed_line : List ℕ → ℕ → ℕ → ℕ → List ℕ
take_closed_line name frames rate bytes = codes "take " ++ name ++ codes " closed frames " ++ decimal frames
    ++ codes " seconds " ++ in_thousandths frames rate ++ codes " MB " ++ in_thousandths bytes 1_000_000
    ++ codes "\n"

-- a verdict
abbrev pub verdict_text : Verdict → List ℕ
verdict_text Stored = codes "Stored"
verdict_text NameTaken = codes "NameTaken"
verdict_text AlreadyOpen = codes "AlreadyOpen"
verdict_text NotOpen = codes "NotOpen"
verdict_text Closed = codes "Closed"
verdict_text BadFormat = codes "BadFormat"
verdict_text BadBlock = codes "BadBlock"
verdict_text BadMarker = codes "BadMarker"
verdict_text DuplicateMarker = codes "DuplicateMarker"
verdict_text TooManyMarkers = codes "TooManyMarkers"
verdict_text BadField = codes "BadField"
verdict_text WrongTotal = codes "WrongTotal"

-- a message of a take has this verdict, which doesn't store it
abbrev pub take_refused_line : List ℕ → ℕ → Verdict → List ℕ
take_refused_line name number verdict = codes "take " ++ name ++ codes " refused " ++ decimal number
    ++ codes " " ++ verdict_text verdict ++ codes "\n"
