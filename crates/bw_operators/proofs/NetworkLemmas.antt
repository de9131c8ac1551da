-- Networks, and the words that say them.
use Rattle.std.proofs.Common.{◌≡◌, ◌≢◌, ◌++◌, ◌∷◌, [], ◌⊎◌, inl, inr, List, ℕ, ◌<◌, ◌≤◌, ◌^◌, Bool, true, false, ap, drop, length, nat_eq, refl, sym, subst, ◌∙◌, arith, decimal}
use Rattle.std.specs.Prelude.{if◌then◌else◌}
use Rattle.std.specs.List.{AllByRecursion, starts_with}
use Rattle.std.specs.Char.{digit_value}
use Rattle.std.specs.Str.Parse.{AllDigits}
use Rattle.std.proofs.lemmas.Fmt.{decimal_is_IsNumeral}
use Rattle.std.specs.Net.Grammar.{IsIpText}
use Rattle.std.proofs.NetLemmas.Theorems.{IsIpText_unique}
use Rattle.std.specs.declared.net.ip_addr.IpAddr.{IpAddr}
use Rattle.std.specs.declared.net.ip_addr.IpAddr.TheVariants as Ip
use Rattle.bw_operators.specs.AllowLists.{AllowedNetwork, ip_octets, is_mapped, mapped_start, plain_octets}
use Rattle.bw_operators.specs.AllowFiles.{SaysAddress, SaysNetwork, IsAddressAlone, IsAddressAndBits, address_bits}
use Rattle.bw_operators.specs.AllowWords.{IsSplitAtSlash, HasNoSlash}

pub plain_mapped : (octets : List ℕ) → starts_with nat_eq octets mapped_start ≡ true → plain_octets octets ≡ drop 12 octets
unfolding plain_octets
plain_mapped octets is = ap (λ b. if b then drop 12 octets else octets) is

pub plain_other : (octets : List ℕ) → starts_with nat_eq octets mapped_start ≡ false → plain_octets octets ≡ octets
unfolding plain_octets
plain_other octets is = ap (λ b. if b then drop 12 octets else octets) is

-- the last slash

abbrev NoSlashAt : List ℕ → List ℕ → Type 0
NoSlashAt before after = HasNoSlash (before ++ 47 ∷ after) → ⊥

no_slash_at : (before after : List ℕ) → NoSlashAt before after
no_slash_at [] after none = none.0 refl
no_slash_at (x ∷ before) after none = no_slash_at before after none.1

pub same_parts : (a b x y : List ℕ) → HasNoSlash x → HasNoSlash y → a ++ 47 ∷ x ≡ b ++ 47 ∷ y → (a ≡ b) × (x ≡ y)
same_parts [] [] x y h k e = (refl, cc)
same_parts [] (b ∷ bs) x y h k e =
    let same : x ≡ bs ++ 47 ∷ y = cc in
    absurd (no_slash_at bs y (subst HasNoSlash same h))
same_parts (a ∷ as') [] x y h k e =
    let same : y ≡ as' ++ 47 ∷ x = cc in
    absurd (no_slash_at as' x (subst HasNoSlash same k))
same_parts (a ∷ as') (b ∷ bs) x y h k e =
    let head : a ≡ b = cc in
    let rest : as' ++ 47 ∷ x ≡ bs ++ 47 ∷ y = cc in
    let same = same_parts as' bs x y h k rest in
    let front : as' ≡ bs = same.0 in
    (cc, same.1)

digits_no_slash : (text : List ℕ) → AllDigits 10 text → HasNoSlash text
digits_no_slash [] all = tt
digits_no_slash (c ∷ text) all = (
  λ e.
      let big : digit_value 47 < 10 = subst (λ x. digit_value x < 10) e all.0 in
      absurd (omega arith),
  digits_no_slash text all.1,
)

pub number_no_slash : (n : ℕ) → n ≤ 128 → HasNoSlash (decimal n)
number_no_slash n small = digits_no_slash (decimal n) (decimal_is_IsNumeral n (omega arith)).0.1

address_bits_small : (ip : IpAddr) → address_bits ip ≤ 128
address_bits_small (Ip.V4 a) = omega arith
address_bits_small (Ip.V6 a) = omega arith

-- an address with bits says so in these parts of the word
with_bits : (word front digits : List ℕ) (network : AllowedNetwork) → IsSplitAtSlash word front digits →
    (k : IsAddressAndBits word network) → (k.text ≡ front) × (decimal network.bits ≡ digits)
with_bits word front digits network parts k =
    let small = address_bits_small k.ip in
    let within = k.within in
    same_parts k.text front (decimal network.bits) digits (number_no_slash network.bits (omega arith)) parts.last
    (sym k.whole ∙ parts.whole)

pub no_parts : (word : List ℕ) → ((ip : IpAddr) → SaysAddress word ip → ⊥) → HasNoSlash word →
    (network : AllowedNetwork) → SaysNetwork word network → ⊥
no_parts word none without network (inl k) = none k.ip k.spelled
no_parts word none without network (inr k) =
    no_slash_at k.text (decimal network.bits) (subst HasNoSlash k.whole without)

pub no_address : (word front digits : List ℕ) → ((ip : IpAddr) → SaysAddress word ip → ⊥) → IsSplitAtSlash word front digits →
    ((ip : IpAddr) → SaysAddress front ip → ⊥) → (network : AllowedNetwork) → SaysNetwork word network → ⊥
no_address word front digits none parts bad network (inl k) = none k.ip k.spelled
no_address word front digits none parts bad network (inr k) =
    bad k.ip (subst (λ t. SaysAddress t k.ip) (with_bits word front digits network parts k).0 k.spelled)

pub no_bits : (word front digits : List ℕ) (ip : IpAddr) → ((a : IpAddr) → SaysAddress word a → ⊥) →
    IsSplitAtSlash word front digits → SaysAddress front ip → ((n : ℕ) → n ≤ address_bits ip → decimal n ≢ digits) →
    (network : AllowedNetwork) → SaysNetwork word network → ⊥
no_bits word front digits ip none parts spelled bad network (inl k) = none k.ip k.spelled
no_bits word front digits ip none parts spelled bad network (inr k) =
    let same = with_bits word front digits network parts k in
    let own : SaysAddress front k.ip = subst (λ t. SaysAddress t k.ip) same.0 k.spelled in
    let one : k.ip ≡ ip = IsIpText_unique front k.ip ip own.0 spelled.0 in
    bad network.bits (subst (λ a. network.bits ≤ address_bits a) one k.within) same.1

-- a text that is such an address alone isn't one that a rule may have
pub no_mapped : (text : List ℕ) (a : IpAddr) → IsIpText text a → is_mapped (ip_octets a) ≡ true → (ip : IpAddr) →
    SaysAddress text ip → ⊥
no_mapped text a spelled is ip says =
    let one : ip ≡ a = IsIpText_unique text ip a says.0 spelled in
    absurd (let e = sym (subst (λ x. is_mapped (ip_octets x) ≡ false) one says.1) ∙ is in cc)
