-- Files that list which names may come from which addresses: a line for each rule, a name, or the
-- start of names with `*` after it, and then networks.
use Rattle.std.specs.Prelude.{◌≡◌, ℕ, ◌+◌, ◌<◌, ◌≤◌, ◌⊎◌, ⊤, Bool, true, false, not, ◌||◌, List, [], ◌∷◌, ◌++◌, length, ◌==◌, nat_eq, filter, map, codes, decimal, IsTrue, Option, Some, None, Result, Ok, Err, option_to_list}
use Rattle.std.specs.List.{slice_split, starts_with}
use Rattle.std.specs.Borrow.{Bor}
use Rattle.std.specs.Net.Grammar.{IsIpText}
use Rattle.std.specs.declared.net.ip_addr.IpAddr.{IpAddr}
use Rattle.std.specs.declared.net.ip_addr.IpAddr.TheVariants as Ip
use Rattle.bw_model.specs.Wire.{is_name}
use Rattle.bw_operators.specs.AllowLists.{AllowedNetwork, AllowRule, AllowRules, ip_octets, is_mapped}
use Rattle.bw_operators.specs.declared.allow_file.AllowFault.{AllowFault}
use Rattle.bw_operators.specs.declared.allow_file.AllowFault.TheVariants.{Line, Memory}

-- what lies between two line feeds, before the first and after the last
abbrev pub rule_lines : List ℕ → List (List ℕ)
rule_lines text = slice_split (λ c. c == 10) text

-- a blank, a tab or a carriage return
abbrev pub is_blank : ℕ → Bool
is_blank c = (c == 32) || (c == 9) || (c == 13)

-- what lies between blanks
abbrev pub rule_words : List ℕ → List (List ℕ)
rule_words line = filter (λ word. not (length word == 0)) (slice_split is_blank line)

-- an empty line, and one that begins with `#`
abbrev pub is_left_out : List (List ℕ) → Bool
is_left_out [] = true
is_left_out (word ∷ others) = starts_with nat_eq word (codes "#")

-- how many bits an address has
abbrev pub address_bits : IpAddr → ℕ
address_bits (Ip.V4 a) = 32
address_bits (Ip.V6 a) = 128

-- the text is an address, but not `::ffff:a.b.c.d`, as which no peer's address counts
abbrev pub SaysAddress : List ℕ → IpAddr → Type 0
SaysAddress text ip = IsIpText text ip × (is_mapped (ip_octets ip) ≡ false)

-- the word is an address: the network of this one alone
pub record IsAddressAlone (word : List ℕ) (network : AllowedNetwork) : Type 0 where
  pub ip : IpAddr
  pub spelled : SaysAddress word ip
  pub octets : network.octets ≡ ip_octets ip
  pub bits : network.bits ≡ address_bits ip

-- the word is an address, a slash, and how many of its bits count
pub record IsAddressAndBits (word : List ℕ) (network : AllowedNetwork) : Type 0 where
  pub text : List ℕ
  pub ip : IpAddr
  pub whole : word ≡ text ++ 47 ∷ decimal network.bits
  pub spelled : SaysAddress text ip
  pub octets : network.octets ≡ ip_octets ip
  pub within : network.bits ≤ address_bits ip

-- the word says a network
abbrev pub SaysNetwork : List ℕ → AllowedNetwork → Type 0
SaysNetwork word network = IsAddressAlone word network ⊎ IsAddressAndBits word network

-- each word says one of the networks, in their order
abbrev pub SayNetworks : List (List ℕ) → List AllowedNetwork → Type 0
SayNetworks [] [] = Unit {0}
SayNetworks [] (n ∷ networks) = ⊥
SayNetworks (word ∷ others) [] = ⊥
SayNetworks (word ∷ others) (n ∷ networks) = SaysNetwork word n × SayNetworks others networks

-- names begin so: nothing, or a name
abbrev pub is_start_of_names : List ℕ → Bool
is_start_of_names start = (length start == 0) || is_name start

-- the word is a name, or the start of names and `*`
abbrev pub SaysName : List ℕ → List ℕ → Bool → Type 0
SaysName word name false = (word ≡ name) × IsTrue (is_name name)
SaysName word name true = (word ≡ name ++ 42 ∷ []) × IsTrue (is_start_of_names name)

-- the words of a line say a rule: a name, or the start of names, and then one network or more
abbrev pub SayRule : List (List ℕ) → AllowRule → Type 0
SayRule [] rule = ⊥
SayRule (word ∷ others) rule = SaysName word rule.name rule.is_start × (0 < length others)
    × SayNetworks others rule.networks

-- a line says a rule, or is left out
abbrev pub SaysLine : List ℕ → Option AllowRule → Type 0
SaysLine line None = IsTrue (is_left_out (rule_words line))
SaysLine line (Some rule) = SayRule (rule_words line) rule

-- the lines say these rules, in their order
abbrev pub SayRules : List (List ℕ) → List AllowRule → Type 0
SayRules [] rules = rules ≡ []
SayRules (line ∷ others) rules = (said : Option AllowRule) × (rest : List AllowRule)
    × SaysLine line said × SayRules others rest × (rules ≡ option_to_list said ++ rest)

-- of the lines, counted from 1, this is the first that says no rule and isn't left out
pub record IsFirstBadLine (all : List (List ℕ)) (number : ℕ) : Type 0 where
  pub before : List (List ℕ)
  pub line : List ℕ
  pub after : List (List ℕ)
  pub lines : all ≡ before ++ line ∷ after
  pub counted : number ≡ length before + 1
  pub good : (rules : List AllowRule) × SayRules before rules
  pub bad : (said : Option AllowRule) → ¬ SaysLine line said

-- why these lines are no list
abbrev pub IsAllowFault : List (List ℕ) → AllowFault → Type 0
IsAllowFault all (Line number) = IsFirstBadLine all number
IsAllowFault all Memory = ⊤

-- what a text is read as
abbrev pub ReadsAllowed : List ℕ → Result AllowRules AllowFault → Type 0
ReadsAllowed text (Ok None) = ⊥
ReadsAllowed text (Ok (Some rules)) = SayRules (rule_lines text) rules
ReadsAllowed text (Err fault) = IsAllowFault (rule_lines text) fault

-- what the pieces of a text are
abbrev pub texts : List (Bor (List ℕ)) → List (List ℕ)
texts pieces = map (λ x. x.now) pieces
