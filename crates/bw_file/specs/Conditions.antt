-- How the last call left a growing file.
use Rattle.std.specs.Prelude.{Bool, true, false, not}
use Rattle.bw_file.specs.declared.condition.Condition.{Condition}
use Rattle.bw_file.specs.declared.condition.Condition.TheVariants.{Clean, Dirty, Ahead}

-- it failed, or the file is ahead: it isn't the take's
abbrev pub is_dirty : Condition → Bool
is_dirty Clean = false
is_dirty Dirty = true
is_dirty Ahead = true

-- the file has one request more than the take
abbrev pub is_ahead : Condition → Bool
is_ahead Clean = false
is_ahead Dirty = false
is_ahead Ahead = true

-- the file is the take's, whole
abbrev pub is_clean : Condition → Bool
is_clean condition = not (is_dirty condition)
