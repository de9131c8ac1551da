-- What is left of OUT where it isn't whole.
use Rattle.std.specs.Prelude.{◌≡◌, ℕ, List, Some}
use Rattle.bw_inspect.specs.Readings.{HasReading}
use Rattle.bw_repair.specs.Forms.{id_of, renamed, unnamed}
use Rattle.bw_repair.specs.Makings.{Leftover}
use Rattle.bw_repair.specs.declared.conversions.form.WideForm.{WideForm}

-- it reads as no file, unless it is whole
abbrev pub LeftoversAreUnread : Type 0
LeftoversAreUnread = (form : WideForm) (b x : List ℕ) → Leftover (id_of form) (unnamed b) (Some x) →
    HasReading x → x ≡ renamed form b
