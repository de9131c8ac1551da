-- The options of `send` that ask for a receipt, which a recording's file has alone.
use Rattle.std.specs.Prelude.{◌||◌, Bool, Option, codes, is_some, option_map, string_bytes, if◌then◌else◌}
use Rattle.clap.specs.Walk.{Text}
use Rattle.bw_args.specs.Given.{is_set}
use Rattle.bw_args.specs.declared.recordings.ReceiptTarget.{ReceiptTarget}

-- the path of the file that a receipt is added to, and whether it is a line of JSON
pub record PlainTarget : Type 0 where
  pub path : Text
  pub json : Bool

-- the same in plain bytes
abbrev pub target_in_plain : ReceiptTarget → PlainTarget
target_in_plain t = record { path = string_bytes t.path; json = t.json }

-- in JSON or not, to the file of this path
abbrev pub target : Bool → Text → PlainTarget
target json path = record { path = path; json = json }

-- where the receipt goes that the options ask for, if they ask for one
abbrev pub receipt_given : (Text → Option Text) → Option PlainTarget
receipt_given given = option_map (target (is_set (given (codes "json")))) (given (codes "receipt"))

-- options that aren't for one receipt: one of headerless samples, of a spool or of a file that is followed,
-- or its form without it
abbrev pub is_receipt_mixed : (Text → Option Text) → Bool
is_receipt_mixed given = if is_some (given (codes "receipt"))
    then is_some (given (codes "pcm")) || (is_some (given (codes "spool")) || is_set (given (codes "follow")))
    else is_set (given (codes "json"))
