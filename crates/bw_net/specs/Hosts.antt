-- The server that the words of `send` name, and the words with its address in its place.
use Rattle.std.specs.Prelude.{◌≡◌, ℕ, List, [], ◌∷◌, ◌++◌, codes, take, drop}
use Rattle.std.specs.Prelude.{Bool, false, ◌||◌, IsTrue, if◌then◌else◌, Option, Some, None, IfSome}
use Rattle.std.specs.Str.{bytes_eq}
use Rattle.std.specs.Option.{option_map_or}
use Rattle.std.specs.Net.Grammar.{IsSocketText}
use Rattle.std.specs.Net.Text.{socket_text}
use Rattle.std.specs.declared.net.socket_addr.SocketAddr.{SocketAddr}
use Rattle.bw_net.specs.declared.hosts.Place.{Place}
use Rattle.bw_net.specs.declared.hosts.Place.TheVariants.{Program, Command, Send, Name, Server, Other}

-- the server in a word `--connect=SERVER`
abbrev pub connect_value : List ℕ → Option (List ℕ)
connect_value word = if bytes_eq (take 10 word) (codes "--connect=") then Some (drop 10 word) else None

-- the server that a word at a place names
abbrev pub server_at : Place → List ℕ → Option (List ℕ)
server_at Server word = Some word
server_at Send word = connect_value word
server_at _ word = None

-- the place after a word of `send`
abbrev pub place_in_send : List ℕ → Place
place_in_send word =
    if bytes_eq word (codes "--connect") then Server
    else if bytes_eq word (codes "--name") then Name
    else if bytes_eq word (codes "--") then Other
    else option_map_or (λ _. Other) (connect_value word) Send

-- the place after a word
abbrev pub place_after_word : Place → List ℕ → Place
place_after_word Program word = Command
place_after_word Command word = if bytes_eq word (codes "send") then Send else Other
place_after_word Send word = place_in_send word
place_after_word Name word = Send
place_after_word Server word = Other
place_after_word Other word = Other

-- the first server that words name, from a place on
abbrev pub server_of : Place → List (List ℕ) → Option (List ℕ)
server_of place [] = None
server_of place (word ∷ rest) = option_map_or (λ server. Some server) (server_at place word)
    (server_of (place_after_word place word) rest)

-- what is before the server in its word
abbrev pub option_at : Place → List ℕ
option_at Send = codes "--connect="
option_at _ = []

-- a word at a place, with another server if it names one
abbrev pub word_with : List ℕ → Place → List ℕ → List ℕ
word_with server place word = option_map_or (λ _. option_at place ++ server) (server_at place word) word

-- words from a place on, with another server in the place of the first one, and all else unchanged
abbrev pub words_with : List ℕ → Place → List (List ℕ) → List (List ℕ)
words_with server place [] = []
words_with server place (word ∷ rest) =
    word_with server place word ∷ words_with server (place_after_word place word) rest

-- whether `--network` is one of the words
abbrev pub asks_network : List (List ℕ) → Bool
asks_network [] = false
asks_network (word ∷ rest) = bytes_eq word (codes "--network") || asks_network rest

-- the words name a server for `send --network` that isn't an address
pub record NamesHost (words : List (List ℕ)) : Type 0 where
  pub host : List ℕ
  pub named : server_of Program words ≡ Some host
  pub network : IsTrue (asks_network words)
  pub other : (address : SocketAddr) → ¬ (IsSocketText host address)

-- what is read for words that were given: the same, or a host that they name replaced by an address
pub record IsReadFor (given read : List (List ℕ)) : Type 0 where
  pub found : Option SocketAddr
  pub host : IfSome found (λ _. NamesHost given)
  pub is : read ≡ option_map_or (λ address. words_with (socket_text address) Program given) found given
