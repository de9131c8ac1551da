-- Which sizes a file is to have, by what its head says and by its length.
use Rattle.std.specs.Prelude.{◌≡◌, ℕ, ◌+◌, ◌-◌, ◌%◌, ◌&&◌, ◌||◌, not, Bool, Result, Ok, Err, Some, None}
use Rattle.std.specs.Prelude.{List, [], ◌∷◌, nat_lt, nat_le, ◌==◌, if◌then◌else◌}
use Rattle.bw_model.specs.Bytes.{first_that_holds, unsaid, even_up}
use Rattle.bw_inspect.specs.declared.fault.InspectKind.TheVariants.{NoFmt, TooLarge}
use Rattle.bw_repair.specs.declared.fault.RepairKind.{RepairKind}
use Rattle.bw_repair.specs.declared.fault.RepairKind.TheVariants.{Unread, NotLast, Overlap}
use Rattle.bw_repair.specs.declared.fault.RepairFault.{RepairFault}
use Rattle.bw_repair.specs.declared.search.DataHead.{DataHead}
use Rattle.bw_repair.specs.declared.decision.Sizes.{Sizes}

-- The form has a size, and ends after the head of its samples and within the file: a writer gave it
-- when it closed the file.
abbrev pub is_closed : DataHead → Bool
is_closed h = not (h.form == unsaid) && (nat_lt h.place h.form && nat_le h.form (h.place + h.rest))

-- the form holds samples of this size, and has no room for a further head within the file
abbrev pub is_form_kept : DataHead → Bool
is_form_kept h =
    not (h.form == unsaid) && nat_le (h.place + h.size) h.form
    && (nat_le h.form (h.place + h.rest) || nat_lt h.form (h.place + 8 + even_up h.size))

-- after samples of a known size come as many bytes as a frame or a chunk's head has
abbrev pub may_continue : DataHead → Bool
may_continue h = nat_le 8 (h.rest - h.size) && nat_le h.align (h.rest - h.size)

-- the form ends no later than the samples begin, or would with the size that it gets
abbrev pub ends_at_head : DataHead → Bool
ends_at_head h = nat_le h.form h.place || (not (is_form_kept h) && not (may_continue h))

-- The samples' size was never given: it says none, it is more than the file has, or it is 0 in a
-- form that ends no later than the samples begin.
abbrev pub is_unsized : DataHead → Bool
is_unsized h = h.size == unsaid || nat_lt h.rest h.size || (h.size == 0 && ends_at_head h)

-- the size of the samples: what it is, or all whole frames that the file has
abbrev pub size_of_data : DataHead → ℕ
size_of_data h = if is_unsized h then h.rest - h.rest % h.align else h.size

-- the form's size: what it is, or up to the end of the samples and their pad byte
abbrev pub size_of_form : DataHead → ℕ
size_of_form h =
    if not (is_unsized h) && is_form_kept h then h.form else h.place + even_up (size_of_data h)

-- a fault at the samples' head, if the test holds
abbrev pub refusal : DataHead → Bool → RepairKind → Bool × RepairFault
refusal h holds kind = (holds, record { kind = kind; offset = h.place })

-- why no sizes are certain, in their order
abbrev pub refusals : DataHead → List (Bool × RepairFault)
refusals h =
    refusal h (is_closed h && h.size == unsaid) NotLast
    ∷ refusal h (is_closed h && nat_lt h.form (h.place + h.size)) Overlap
    ∷ refusal h (is_unsized h && h.align == 0) (Unread NoFmt)
    ∷ refusal h (not (is_unsized h) && (not (is_form_kept h) && may_continue h)) NotLast
    ∷ []

-- the sizes, unless the form's can't be given in four bytes
abbrev pub within : DataHead → Result Sizes RepairFault
within h =
    if nat_le unsaid (size_of_form h) then Err (record { kind = Unread TooLarge; offset = h.place })
    else Ok (record { form = size_of_form h; «data» = size_of_data h })

-- the sizes, or why there are none
abbrev pub decided : DataHead → Result Sizes RepairFault
decided h = elim (first_that_holds (refusals h)) [ None ↦ within h | Some f ↦ Err f ]

-- the head once the file has these sizes
abbrev pub with_decided : DataHead → Sizes → DataHead
with_decided h s = record h { form = s.form; size = s.«data» }

-- Of a file that has got the sizes that were decided for it, the same are decided.
abbrev pub DecidedSizesStay : Type 0
DecidedSizesStay = (h : DataHead) (s : Sizes) → decided h ≡ Ok s → decided (with_decided h s) ≡ Ok s
