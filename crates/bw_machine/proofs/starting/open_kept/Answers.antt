use Rattle.std.proofs.Common.{refl}
use Rattle.std.specs.Prelude.{Err}
use Rattle.bw_ports.specs.declared.folder_locks.LockRefusal.TheVariants.{Unusable}
use Rattle.bw_machine.proofs.starting.open_kept.Goals as goal

-- no file can be made in the folder
pub returns-in-Err-clause-here : goal.returns-in-Err-clause-here
returns-in-Err-clause-here g c = record { answer = Err (Unusable c.in-Err.error); met = (refl, refl) }
