-- What of a file would be cleaned first, where nothing may be.
use Rattle.std.specs.Prelude.{ℕ, suc, is_none, List, [], ◌∷◌, length, nat_le, nat_lt, slice_index_or}
use Rattle.std.specs.Prelude.{if◌then◌else◌}
use Rattle.std.specs.List.{prefix_len}
use Rattle.bw_model.specs.Limits.{longest_history}
use Rattle.bw_model.specs.Take.{is_printable, is_history_byte, field_fault}
use Rattle.bw_plan.specs.CleanedContents.{text_cleaned_of}
use Rattle.bw_plan.specs.declared.unclean.UncleanPart.{UncleanPart}
use Rattle.bw_plan.specs.declared.unclean.UncleanPart.TheVariants.{Byte, Form, HistoryByte, LongHistory}

-- of a text that the field with this tag doesn't take: the first byte that isn't printable, or the
-- form of a date or a time
abbrev pub unclean_text : ℕ → List ℕ → UncleanPart
unclean_text tag text =
    if nat_le 4 tag then Form tag
    else Byte tag (prefix_len is_printable text) (slice_index_or text (prefix_len is_printable text) 0)

-- .. of the texts from a tag on: the first that its field doesn't take, and else this other part
abbrev pub unclean_texts : UncleanPart → ℕ → List (List ℕ) → UncleanPart
unclean_texts other tag [] = other
unclean_texts other tag (bytes ∷ fields) =
    if is_none (field_fault tag (text_cleaned_of bytes)) then unclean_texts other (suc tag) fields
    else unclean_text tag (text_cleaned_of bytes)

-- the first byte of a text that a coding history may not have
abbrev pub unclean_history_byte : List ℕ → UncleanPart
unclean_history_byte text =
    HistoryByte (prefix_len is_history_byte text)
    (slice_index_or text (prefix_len is_history_byte text) 0)

-- .. of a coding history that isn't kept: its length, or its first byte that it may not have
abbrev pub unclean_history : List ℕ → UncleanPart
unclean_history bytes =
    if nat_lt longest_history (length (text_cleaned_of bytes)) then LongHistory
    else unclean_history_byte (text_cleaned_of bytes)
