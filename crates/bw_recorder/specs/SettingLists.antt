-- What is set, from the texts of a command line.
use Rattle.std.specs.Prelude.{◌≡◌, ◌==◌, ℕ, not, Option, Some, None, List, [], ◌∷◌, ◌++◌, map, take}
use Rattle.std.specs.Prelude.{codes}
use Rattle.std.specs.List.{prefix_len}
use Rattle.bw_plan.specs.CleanedContents.{printable_byte}
use Rattle.bw_plan.specs.Recordings.{Setting, Options}
use Rattle.bw_plan.specs.SettingTexts.{setting_of}
use Rattle.bw_plan.specs.declared.options.Strictness.{Strictness}
use Rattle.bw_recorder.specs.declared.fault.OptionsFault.{OptionsFault}
use Rattle.bw_recorder.specs.declared.fault.OptionsFault.TheVariants.{NotASetting, Memory}

-- these settings, and those that the texts spell; none where one of them spells none
abbrev pub settings_after : List Setting → List (List ℕ) → Option (List Setting)
settings_after kept [] = Some kept
settings_after kept (text ∷ texts) = elim (setting_of text) [
  | None ↦ None
  | Some s ↦ settings_after (kept ++ s ∷ []) texts
]

-- what is asked for beside a file, if the texts spell settings
abbrev pub options_of : List (List ℕ) → Strictness → Option ℕ → Option Options
options_of texts strict frames = elim (settings_after [] texts) [
  | None ↦ None
  | Some settings ↦ Some (record { settings = settings; strict = strict; frames = frames })
]

-- a text's key, as it is printed: at most 32 bytes, a question mark for each that isn't printable
abbrev pub shown_key : List ℕ → List ℕ
shown_key text =
    map printable_byte (take 32 (take (prefix_len (λ c. not (c == 61)) text) text))

-- .. of the first of these that spells no setting
abbrev pub first_bad_key : List (List ℕ) → List ℕ
first_bad_key [] = []
first_bad_key (text ∷ texts) = elim (setting_of text) [
  | None ↦ shown_key text
  | Some s ↦ first_bad_key texts
]

-- what is reported of them: that key, and the keys that there are
abbrev pub bad_setting_line : List (List ℕ) → List ℕ
bad_setting_line texts =
    codes "a value of '--set' isn't KEY=VALUE, or isn't allowed\nhint: in '" ++ first_bad_key texts
    ++ codes
    "': KEY is description, originator, reference, date, clock, time, umid, history, value, range, peak, momentary or short\n"

-- a fault says so, or that memory was refused
abbrev pub SaysBadSetting : List (List ℕ) → OptionsFault → Type 0
SaysBadSetting texts (NotASetting text) = text.items ≡ bad_setting_line texts
SaysBadSetting texts Memory = Unit {0}

-- why there is nothing: a text spells no setting, which is reported so, or memory was refused
abbrev pub LacksOptions : List (List ℕ) → Strictness → Option ℕ → OptionsFault → Type 0
LacksOptions texts strict frames (NotASetting text) =
    (options_of texts strict frames ≡ None) × (text.items ≡ bad_setting_line texts)
LacksOptions texts strict frames Memory = Unit {0}
