-- The text of a run.
use Rattle.std.specs.Prelude.{ℕ, ◌+◌, Option, Some, None, List, [], ◌∷◌, ◌++◌, length, flat_map}
use Rattle.std.specs.Prelude.{codes, decimal}
use Rattle.hex.specs.Hex.{encode_lower}
use Rattle.bw_model.specs.Wire.{framed}
use Rattle.bw_model.specs.Replies.{Reply, reply_body}
use Rattle.bw_model.specs.Stream.{End}
use Rattle.bw_exchange.specs.EndNames.{end_name}
use Rattle.bw_commands.specs.Runs.{ReportedExchange}
use Rattle.bw_console.specs.Text.{as_line}

-- the line of a reply: its frame in hex
abbrev pub reply_line : Reply → List ℕ
reply_line r = as_line (codes "reply " ++ encode_lower (framed (reply_body r)))

-- the line of the exchange with this number
abbrev pub exchange_line : ℕ → End → List ℕ
exchange_line i end = as_line (codes "exchange " ++ decimal i ++ codes " " ++ end_name end)

-- that line, and those of its replies
abbrev pub exchange_text : ℕ → ReportedExchange → List ℕ
exchange_text i reported = exchange_line i reported.end ++ flat_map reply_line reported.replies

-- the exchanges from number i on
unfoldable pub exchanges_text : ℕ → List ReportedExchange → List ℕ
exchanges_text i [] = []
exchanges_text i (one ∷ more) = exchange_text i one ++ exchanges_text (i + 1) more

-- the two lines of a file: its name and length, and its bytes in hex
abbrev pub file_text : List ℕ → List ℕ → List ℕ
file_text name content =
    as_line (codes "file " ++ name ++ codes " " ++ decimal (length content))
    ++ as_line (encode_lower content)

-- a file, if there is one
abbrev pub file_text_if : List ℕ → Option (List ℕ) → List ℕ
file_text_if name None = []
file_text_if name (Some content) = file_text name content

-- the files under these names
unfoldable pub files_text : (List ℕ → Option (List ℕ)) → List (List ℕ) → List ℕ
files_text contents names = flat_map (λ name. file_text_if name (contents name)) names
