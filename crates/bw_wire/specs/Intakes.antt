-- The parts of a framer.
use Rattle.std.specs.Prelude.{◌≡◌, ◌+◌, ◌-◌, ◌≤◌, length, drop}
use Rattle.bw_wire.specs.declared.intake.Intake.{Intake}
use Rattle.bw_wire.specs.declared.intake.Phase.{Phase}
use Rattle.bw_wire.specs.declared.intake.Phase.TheVariants.{Reading, Left, Failed}
use Rattle.bw_wire.specs.Held.{Held, longest_stream, nothing_held}
use Rattle.bw_wire.specs.FramerStates as pending
use Rattle.bw_wire.specs.Reasons.{reason_meaning}

-- the phase, in the definitions' words
abbrev pub phase_of : Phase → pending.Phase
phase_of Reading = pending.Reading
phase_of Left = pending.Left
phase_of (Failed reason) = pending.Failed (reason_meaning reason)

-- what is kept, without the used bytes that weren't released yet
abbrev pub pending_in : Intake → pending.Pending
pending_in i = record {
  bytes = drop i.start i.buffer.bytes;
  used = i.used;
  fed = i.fed;
  held = length i.buffer.bytes;
  room = i.buffer.room;
  phase = phase_of i.phase;
}

-- at the end all bytes are released
abbrev pub LetsGo : Phase → Held → Type 0
LetsGo Reading held = Unit {0}
LetsGo Left held = held ≡ nothing_held
LetsGo (Failed reason) held = held ≡ nothing_held

-- the place lies within what is held, and no more was used up or is left than was fed
pub record IsIntake (i : Intake) : Type 0 where
  pub within : i.start ≤ length i.buffer.bytes
  pub following : i.start ≤ i.used
  pub counted : i.used + (length i.buffer.bytes - i.start) ≤ i.fed
  pub bounded : i.fed ≤ longest_stream
  pub let_go : LetsGo i.phase i.buffer
