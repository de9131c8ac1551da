-- A take's row of the page.
use Rattle.std.specs.Prelude.{ℕ, List, [], ◌++◌, Option, Some, None, codes, decimal, string_bytes}
use Rattle.std.specs.Net.Text.{socket_text}
use Rattle.std.specs.declared.net.socket_addr.SocketAddr.{SocketAddr}
use Rattle.bw_status.specs.declared.snapshot.SoundFormat.{SoundFormat}
use Rattle.bw_status.specs.declared.snapshot.TakeStatus.{TakeStatus}
use Rattle.bw_status.specs.Texts.{duration_text, html_escaped}
use Rattle.bw_status.specs.Words.{take_state_word}

-- the start of a cell under this heading
unfoldable pub cell_start : List ℕ → List ℕ
cell_start heading = (codes "<td data-heading=\"" ++ heading) ++ codes "\">"

-- a cell with a text
unfoldable pub text_cell : List ℕ → List ℕ → List ℕ
text_cell heading text = cell_start heading ++ html_escaped text ++ codes "</td>"

-- a cell with a number
unfoldable pub number_cell : List ℕ → ℕ → List ℕ
number_cell heading n = cell_start heading ++ decimal n ++ codes "</td>"

-- a cell with a time in milliseconds, or an empty one
abbrev pub clock_cell : List ℕ → Option ℕ → List ℕ
clock_cell heading None = text_cell heading []
clock_cell heading (Some ms) = cell_start heading ++ duration_text ms ++ codes "</td>"

-- a cell with the frames per second, bits per sample and samples per frame
abbrev pub sound_cell : ℕ → ℕ → ℕ → List ℕ
sound_cell rate bits channels = cell_start (codes "Format") ++ decimal rate ++ codes " Hz, "
    ++ decimal bits ++ codes " bit, " ++ decimal channels ++ codes " ch</td>"

-- a cell with a format, or an empty one
abbrev pub format_cell : Option SoundFormat → List ℕ
format_cell None = text_cell (codes "Format") []
format_cell (Some f) = sound_cell f.rate f.bits f.channels

-- an address; nothing for none
abbrev pub address_text : Option SocketAddr → List ℕ
address_text None = []
address_text (Some peer) = socket_text peer

-- what a take is
abbrev pub first_cells : TakeStatus → List ℕ
first_cells t = text_cell (codes "Take") (string_bytes t.name)
    ++ text_cell (codes "State") (take_state_word t.state) ++ format_cell t.format

-- how long it is, a cell for its growth, and how long ago it grew
abbrev pub times_cells : TakeStatus → List ℕ
times_cells t = clock_cell (codes "Recorded") t.ms ++ text_cell (codes "Growth") []
    ++ clock_cell (codes "Quiet") t.quiet_ms

-- its counts
abbrev pub counts_cells : TakeStatus → List ℕ
counts_cells t = number_cell (codes "Next") t.next ++ number_cell (codes "Held") t.held
    ++ number_cell (codes "Refused") t.refused ++ number_cell (codes "Delayed") t.delayed

-- its row
abbrev pub row : TakeStatus → List ℕ
row t = codes "<tr>" ++ first_cells t ++ times_cells t ++ counts_cells t
    ++ text_cell (codes "Peer") (address_text t.peer) ++ codes "</tr>\n"
