-- Which names may come from which addresses.
use Rattle.std.specs.Prelude.{ℕ, ◌-◌, ◌/◌, ◌^◌, Bool, true, false, ◌&&◌, List, [], ◌∷◌, drop, ◌==◌, nat_eq, Option, Some, None, if◌then◌else◌}
use Rattle.std.specs.List.{list_any, starts_with}
use Rattle.std.specs.Str.{bytes_eq}
use Rattle.std.specs.declared.net.ip_addr.IpAddr.{IpAddr}
use Rattle.std.specs.declared.net.ip_addr.IpAddr.TheVariants as Ip
use Rattle.std.specs.declared.net.socket_addr.SocketAddr.{SocketAddr}
use Rattle.std.specs.Net.Addr.{ipv4_octets, ipv6_octets}
use Rattle.std.specs.Net.Socket.{socket_ip}

-- the addresses that have the first bits of this one: four octets of IPv4, or sixteen of IPv6
pub record AllowedNetwork : Type 0 where
  pub octets : List ℕ
  pub bits : ℕ

-- this name, or each name that starts so, may come from these networks
pub record AllowRule : Type 0 where
  pub name : List ℕ
  pub is_start : Bool
  pub networks : List AllowedNetwork

-- None: every name may come from everywhere
abbrev pub AllowRules : Type 0
AllowRules = Option (List AllowRule)

-- an address, the high octet first
abbrev pub ip_octets : IpAddr → List ℕ
ip_octets (Ip.V4 a) = ipv4_octets a
ip_octets (Ip.V6 a) = ipv6_octets a

-- the start of `::ffff:a.b.c.d`, as which a host may name the IPv4 address `a.b.c.d`
abbrev pub mapped_start : List ℕ
mapped_start = 0 ∷ 0 ∷ 0 ∷ 0 ∷ 0 ∷ 0 ∷ 0 ∷ 0 ∷ 0 ∷ 0 ∷ 255 ∷ 255 ∷ []

abbrev pub is_mapped : List ℕ → Bool
is_mapped octets = starts_with nat_eq octets mapped_start

-- such an address as IPv4, and any other as it is
unfoldable pub plain_octets : List ℕ → List ℕ
plain_octets octets = if is_mapped octets then drop 12 octets else octets

-- two addresses of one kind have the same first bits
abbrev pub begin_alike : ℕ → List ℕ → List ℕ → Bool
begin_alike bits [] [] = true
begin_alike bits [] (y ∷ ys) = false
begin_alike bits (x ∷ xs) [] = false
begin_alike bits (x ∷ xs) (y ∷ ys) =
    (x / 2 ^ (8 - bits) == y / 2 ^ (8 - bits)) && begin_alike (bits - 8) xs ys

-- the address is one of the network
abbrev pub has_address : List ℕ → AllowedNetwork → Bool
has_address octets network = begin_alike network.bits octets network.octets

-- the name is the rule's, or starts so
abbrev pub fits_name : List ℕ → AllowRule → Bool
fits_name name rule =
    if rule.is_start then starts_with nat_eq name rule.name else bytes_eq name rule.name

-- the rule is of the name, and the address is in one of its networks
abbrev pub is_allowed_by : List ℕ → List ℕ → AllowRule → Bool
is_allowed_by octets name rule = fits_name name rule && list_any (has_address octets) rule.networks

-- the name may come from this peer: some rule allows it, or there are none
abbrev pub may_come : AllowRules → SocketAddr → List ℕ → Bool
may_come None peer name = true
may_come (Some rules) peer name =
    list_any (is_allowed_by (plain_octets (ip_octets (socket_ip peer))) name) rules
