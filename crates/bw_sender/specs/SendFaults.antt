-- The numbers of what breaks a sender's exchange off.
use Rattle.std.specs.Prelude.{ℕ}
use Rattle.bw_sender.specs.declared.send_fault.SendFault.{SendFault}
use Rattle.bw_sender.specs.declared.send_fault.SendFault.TheVariants as faults

-- the number of a fault
abbrev pub send_fault_number : SendFault → ℕ
send_fault_number faults.Read = 1
send_fault_number faults.Write = 2
send_fault_number faults.Memory = 3
send_fault_number faults.BadReply = 4
send_fault_number faults.TurnLimit = 5
