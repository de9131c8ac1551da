-- Which settings are allowed.
use Rattle.std.specs.Prelude.{◌&&◌, ◌||◌, ◌==◌, Bool, List, length, nat_le, is_none}
use Rattle.std.specs.List.{list_all}
use Rattle.bw_model.specs.Limits.{longest_history}
use Rattle.bw_model.specs.Take.{field_fault, is_history_byte}
use Rattle.bw_plan.specs.Recordings.{Setting, Field, History}

-- a field is left out, or has a value that it takes; a coding history is one that a message carries
abbrev pub is_setting : Setting → Bool
is_setting (Field tag value) = (length value == 0) || is_none (field_fault tag value)
is_setting (History bytes) =
    nat_le (length bytes) longest_history && list_all is_history_byte bytes

-- each of them is
abbrev pub are_settings : List Setting → Bool
are_settings settings = list_all is_setting settings
