-- How a take is kept: its state by its fields.
use Rattle.std.specs.Prelude.{◌≡◌, ◌+◌, ◌<◌, ◌≤◌, None, vec_len, vec_capacity}
use Rattle.bw_model.specs.Limits.{longest_history}
use Rattle.bw_model.specs.Take.{Parts}
use Rattle.bw_take.specs.declared.state.TakeState.TheInside.{Inside}
use Rattle.bw_take.specs.States.{State, IsSound}

-- a take without its data, as the code has it
abbrev pub parts_of : Inside → Parts
parts_of s = record {
  format = s.format;
  fields = s.bext;
  history = s.history.items;
  samples_len = s.data_len;
  markers = s.markers.items;
  taken = s.taken;
  closed = s.closed;
}

-- a take with the room that is left
abbrev pub state_of : Inside → State
state_of s = record { parts = parts_of s; room = s.room }

-- the take is sound, and the room that is reported is there
pub record IsTakeState (s : Inside) : Type 0 where
  pub sound : IsSound (parts_of s)
  pub history : s.format ≡ None → 0 < s.room → longest_history ≤ vec_capacity s.history
  pub markers : vec_len s.markers + s.room ≤ vec_capacity s.markers
