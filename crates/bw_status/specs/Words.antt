-- States in words.
use Rattle.std.specs.Prelude.{List, ℕ, codes}
use Rattle.bw_status.specs.declared.snapshot.Health.{Health}
use Rattle.bw_status.specs.declared.snapshot.Health.TheVariants.{Ready, Folder, Full, Store}
use Rattle.bw_status.specs.declared.snapshot.ShownState.{ShownState}
use Rattle.bw_status.specs.declared.snapshot.ShownState.TheVariants.{Unopened, Open, Closed, Stood}

-- a take's state
abbrev pub take_state_word : ShownState → List ℕ
take_state_word Unopened = codes "unopened"
take_state_word Open = codes "open"
take_state_word Closed = codes "closed"
take_state_word Stood = codes "stood"

-- whether a server is well
abbrev pub health_text : Health → List ℕ
health_text Ready = codes "ready"
health_text Folder = codes "the folder can't be used"
health_text Store = codes "the store fails"
health_text Full = codes "no place in the table"
