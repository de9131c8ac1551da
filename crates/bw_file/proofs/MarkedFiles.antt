-- The file of a take with one more marker.
use Rattle.std.proofs.Common.{◌≡◌, ℕ, Bool, false, Option, Some, None, refl, sym, subst}
use Rattle.bw_model.specs.Take.{Take, Format, Mark, with_request}
use Rattle.bw_model.specs.File.{file_of, file_with, form_of, form_len}

marked_as : (t : Take) (o : Option Format) (limit id frame : ℕ) →
    file_of (with_request (record t { closed = false; format = o }) (Mark id frame)) limit ≡
    file_of (record t { closed = false; format = o }) limit
unfolding file_with form_of form_len
marked_as t None limit id frame = refl
marked_as t (Some f) limit id frame = refl

-- a marker changes nothing in the file of a take that isn't closed
pub marked_file : (t : Take) (limit id frame : ℕ) → t.closed ≡ false →
    file_of (with_request t (Mark id frame)) limit ≡ file_of t limit
marked_file t limit id frame open_still =
    subst (λ (v : Bool). file_of (with_request (record t { closed = v }) (Mark id frame)) limit
    ≡ file_of (record t { closed = v }) limit)
    (sym open_still) (marked_as t t.format limit id frame)
