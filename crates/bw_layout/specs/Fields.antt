-- The setting of a field of `bext`.
use Rattle.std.specs.Prelude.{◌≡◌, ℕ, Bool, ◌==◌, if◌then◌else◌, Option, Some, Result, List, codes}
use Rattle.std.specs.Prelude.{option_map, OnOk, OnErr}
use Rattle.std.specs.Char.{is_ascii_digit}
use Rattle.bw_model.specs.Bytes.{unless}
use Rattle.bw_model.specs.Take.{Shape, FieldFault, BadTag, BadLength, BadText, shape_fault}
use Rattle.bw_model.specs.Take.{field_bytes}
use Rattle.bw_layout.specs.declared.field.FieldError.{FieldError}
use Rattle.bw_layout.specs.declared.field.FieldError.TheVariants as E

-- the error of a fault
abbrev pub error_of : FieldFault → FieldError
error_of BadTag = E.Tag
error_of BadLength = E.Length
error_of BadText = E.Text

-- the number of an error
abbrev pub error_code : FieldError → ℕ
error_code E.Tag = 1
error_code E.Length = 2
error_code E.Text = 3

-- an error as it is printed
abbrev pub error_text : FieldError → List ℕ
error_text E.Tag = codes "no field has this tag"
error_text E.Length = codes "the field takes no value of this length"
error_text E.Text = codes "a byte of the value isn't allowed at its place"

-- what a call that may meet a fault returns
abbrev pub answer_of : Option FieldFault → Result (Unit {0}) FieldError
answer_of fault = unless (option_map error_of fault) tt

-- this byte may be at a place where a form has that byte
abbrev pub fits_place : ℕ → ℕ → Bool
fits_place form c = if form == 100 then is_ascii_digit c else form == c

-- A field of this shape is set: the answer is the value's fault; without a fault the field has the
-- value.
pub record SetsField (shape : Shape) (value : List ℕ) (answer : Result (Unit {0}) FieldError)
    (old new : List ℕ) : Type 0 where
  pub reported : answer ≡ answer_of (shape_fault (Some shape) value)
  pub ok : OnOk answer (new ≡ field_bytes shape value)
  pub err : OnErr answer (new ≡ old)
