-- What a server asks for before it serves, and what it does where that is refused.
use Rattle.std.specs.Prelude.{◌≡◌, ◌⊎◌, ℕ, List, Result, Ok, Err}
use Rattle.std.specs.IoError.{error_kind}
use Rattle.std.specs.Net.Text.{socket_text}
use Rattle.std.specs.declared.io.Error.{Error as IoError}
use Rattle.std.specs.declared.net.socket_addr.SocketAddr.{SocketAddr}
use Rattle.bw_stream.specs.Moves.{failures_after}
use Rattle.bw_stream.specs.declared.sink.Sink.{Ghosts as Writer}
use Rattle.bw_console.specs.Prints.{HasStopped}
use Rattle.bw_console.specs.declared.exit.Exit.{Exit}
use Rattle.bw_console.specs.declared.fault.Fault.TheVariants as faults
use Rattle.bw_ports.specs.declared.listener_setup.ListenerSetup.{Ghosts as ListenerSetupGhosts}
use Rattle.bw_ports.specs.declared.network.Network.{Ghosts as NetworkGhosts}
use Rattle.bw_ports.specs.declared.starts.StartRefusal.{StartRefusal}
use Rattle.bw_serve.specs.declared.hosting.Hosting.{Hosting}
use Rattle.bw_serve.specs.declared.hosting_in_turn.Serving.{Serving}
use Rattle.bw_serve.specs.ServerReports.{GivesUp, ReportsUnopened}

-- what calls of one kind may give or be refused for, from which state to which
abbrev pub Calls : Type 0 → Type 0 → Type 0 → Type 1
Calls N T F = N → Result T F → N → Type 0

-- those that may return so, where a count of failures rises with each that fails
abbrev pub counted_calls : {N T F : Type 0} → (N → ℕ) → Calls N T F → Calls N T F
counted_calls failures returns n result n' =
    returns n result n' × (failures n' ≡ failures_after result (failures n))

-- a call gave this, and so it goes on from there
pub record GoesOnWith {N T F : Type 0} (calls : Calls N T F) (Follows : T → N → Type 0)
    (n : N) : Type 0 where
  pub it : T
  pub between : N
  pub given : calls n (Ok it) between
  pub follows : Follows it between

-- a call was refused, which is reported so, and nothing is printed
pub record IsCallRefused {N T F O E : Type 0} (calls : Calls N T F) (says : F → Exit → E → E → Type 0)
    (exit : Exit) (n n' : N) (o o' : O) (e e' : E) : Type 0 where
  pub error : F
  pub refused : calls n (Err error) n'
  pub printed : o' ≡ o
  pub reports : says error exit e e'

-- one of both
abbrev pub AsksOutside : {N T F O E : Type 0} → Calls N T F → (F → Exit → E → E → Type 0) →
    (T → N → Type 0) → Exit → N → N → O → O → E → E → Type 0
AsksOutside calls says Follows exit n n' o o' e e' =
    GoesOnWith calls Follows n ⊎ IsCallRefused calls says exit n n' o o' e e'

-- the calls for the folder's store
abbrev pub store_calls : {N X P D R W A B : Type 0} → NetworkGhosts N X P D R W A B → List ℕ →
    Calls N X StartRefusal
store_calls network folder = counted_calls network.failures (λ n. network.stores n folder)

-- the calls for peers who come one after another
abbrev pub peer_calls : {N X P D R W A B : Type 0} → NetworkGhosts N X P D R W A B → Serving →
    Calls N P IoError
peer_calls network serving = counted_calls network.failures
    (λ n. network.listens n serving.address serving.folder.now serving.timeout)

-- the calls for the reactor of those who come at once
abbrev pub reactor_calls : {N B L : Type 0} → ListenerSetupGhosts N B L → Hosting → Calls N B IoError
reactor_calls setup hosting = counted_calls setup.failures
    (λ n. setup.opens n hosting.address hosting.folder.now hosting.bounds.places)

-- it is reported that this address can't be used
abbrev pub ReportsUnbound : {E : Type 0} → Writer E → SocketAddr → IoError → Exit → E → E →
    Type 0
ReportsUnbound reported address error exit e e' =
    ReportsUnopened reported (socket_text address) (error_kind error) exit e e'

-- the first lines aren't printed whole, and this is reported: they can't be written, or memory was
-- refused before
abbrev pub IsUnprinted : {O E : Type 0} → Writer O → Writer E → List ℕ → Exit → O → O → E →
    E → Type 0
IsUnprinted out reported lines exit o o' e e' =
    (HasStopped out lines o o' × GivesUp reported faults.Unwritable exit e e')
    ⊎ ((o' ≡ o) × GivesUp reported faults.Memory exit e e')
