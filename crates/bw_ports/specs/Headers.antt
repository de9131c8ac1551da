-- What a state is about, and the header that says it.
use Rattle.std.specs.Prelude.{◌<◌, ◌^◌, ℕ, List, ◌∷◌, ◌++◌, codes, decimal}
use Rattle.std.specs.List.{AllByRecursion}
use Rattle.hex.specs.Hex.{IsBytes, encode_lower}
use Rattle.bw_ports.specs.declared.state_header.Subject.{Subject}

-- A take's name and its server's address; the length and the time of change of the file that it is
-- sent from; the length of the first block; and the digest of the requests before it.
pub record Origin : Type 0 where
  pub name : List ℕ
  pub address : List ℕ
  pub len : ℕ
  pub changed : ℕ
  pub block : ℕ
  pub opening : List ℕ

-- the same in plain bytes
abbrev pub origin_of : Subject → Origin
origin_of s = record {
  name = s.name.now;
  address = s.address.now;
  len = s.len;
  changed = s.changed;
  block = s.block;
  opening = s.opening;
}

-- a word and a space, and what follows
abbrev pub word_before : List ℕ → List ℕ → List ℕ
word_before word rest = word ++ 32 ∷ rest

-- `bwingest-state-1 NAME ADDRESS LENGTH CHANGED BLOCK SHA256`
abbrev pub state_header : Origin → List ℕ
state_header o = word_before (codes "bwingest-state-1") (word_before o.name (word_before o.address
    (word_before (decimal o.len) (word_before (decimal o.changed) (word_before (decimal o.block)
    (encode_lower o.opening))))))

-- printable ASCII without spaces
abbrev pub IsWord : List ℕ → Type 0
IsWord word = AllByRecursion (λ b. 32 < b) word

-- name and address are words, and numbers and bytes are in their ranges
pub record IsOrigin (o : Origin) : Type 0 where
  pub named : IsWord o.name
  pub addressed : IsWord o.address
  pub long : o.len < 2 ^ 64
  pub late : o.changed < 2 ^ 64
  pub blocked : o.block < 2 ^ 64
  pub digested : IsBytes o.opening
