-- The lines of a server's log as JSON (RFC 8259): each is an object.
use Rattle.std.specs.Prelude.{ℕ, ◌==◌, Bool, List, length, codes, nat_lt, if◌then◌else◌}
use Rattle.std.specs.List.{after_first, before_first, position_or_len}
use Rattle.std.specs.Str.{bytes_eq}
use Rattle.serde_json.specs.Data.{Data, member, no_members, object, string}
use Rattle.serde_json.specs.Written.{compact_text}

-- a blank
abbrev pub is_space : ℕ → Bool
is_space c = c == 32

-- a text has one
abbrev pub has_space : List ℕ → Bool
has_space text = nat_lt (position_or_len is_space text) (length text)

-- a line of a log as an object: its time, and what it says
abbrev pub said_at : List ℕ → List ℕ → Data
said_at time said = object
    (member (codes "message") (string said)
    (member (codes "time") (string time) no_members))

-- what it says of a peer
abbrev pub said_of_peer : List ℕ → List ℕ → List ℕ → Data
said_of_peer time peer said = object
    (member (codes "message") (string said)
    (member (codes "peer") (string peer)
    (member (codes "time") (string time) no_members)))

-- or of a take
abbrev pub said_of_take : List ℕ → List ℕ → List ℕ → Data
said_of_take time take said = object
    (member (codes "message") (string said)
    (member (codes "take") (string take)
    (member (codes "time") (string time) no_members)))

-- a line that begins with these two words, after which this stands
abbrev pub object_by_words : List ℕ → List ℕ → List ℕ → List ℕ → List ℕ → Data
object_by_words time line first second rest =
    if bytes_eq first (codes "peer") then said_of_peer time second rest
    else (if bytes_eq first (codes "take") then said_of_take time second rest else said_at time line)

-- a line that begins with this word, after which these stand
abbrev pub object_by_word : List ℕ → List ℕ → List ℕ → List ℕ → Data
object_by_word time line first others = if has_space others
    then object_by_words time line first (before_first is_space others) (after_first is_space others)
    else said_at time line

-- a line without its end: `peer ADDRESS ..` and `take NAME ..` have the second word as a member
unfoldable pub line_data : List ℕ → List ℕ → Data
line_data time line = if has_space line
    then object_by_word time line (before_first is_space line) (after_first is_space line)
    else said_at time line
