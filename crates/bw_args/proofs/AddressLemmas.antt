-- Addresses that are read, and then refused.
use Rattle.std.proofs.Common.{◌≡◌, ◌<◌, ◌^◌, ◌++◌, ◌∷◌, [], Bool, true, false, subst, sym, ◌∙◌, arith, ap, codes}
use Rattle.std.proofs.Common.{decimal, refl}
use Rattle.std.specs.Fmt.{digits}
use Rattle.std.proofs.lemmas.Fmt.{decimal_is_IsNumeral}
use Rattle.std.specs.Str.{bytes_eq}
use Rattle.std.proofs.lemmas.Slice.Eq.{bytes_eq-Decides}
use Rattle.std.specs.declared.net.socket_addr.SocketAddr.{SocketAddr}
use Rattle.std.specs.declared.net.socket_addr.SocketAddr.TheVariants as Socket
use Rattle.std.specs.Net.Grammar.{IsDotted, IsSocketText}
use Rattle.std.specs.Net.Text.{socket_text}
use Rattle.std.specs.Net.Socket.{socket_port}
use Rattle.std.proofs.NetLemmas.Theorems.{IsSocketText_unique}
use Rattle.clap.specs.Words.{Text}
use Rattle.bw_args.specs.Addresses.{IsAddress, local}

-- one without a port
pub no_port : (network : Bool) (text : Text) (address : SocketAddr) → IsSocketText text address
    → socket_port address ≡ 0 → (other : SocketAddr) → ¬ IsAddress network text other
no_port network text address spelled zero other is =
    let same : other ≡ address = IsSocketText_unique text other address is.spelled spelled in
    let positive : 0 < socket_port address = subst (λ a. 0 < socket_port a) same is.port in
    absurd (omega arith)

-- one that isn't local, without leave for the network
pub not_local : (network near : Bool) (text : Text) (address : SocketAddr) → IsSocketText text address
    → network ≡ false → near ≡ bytes_eq text (local (socket_port address)) → near ≡ false
    → (other : SocketAddr) → ¬ IsAddress network text other
not_local network near text address spelled far is apart other given =
    let same : other ≡ address = IsSocketText_unique text other address given.spelled spelled in
    let equal : text ≡ local (socket_port address) =
    subst (λ a. text ≡ local (socket_port a)) same (given.near far) in
    let found : bytes_eq text (local (socket_port address)) ≡ true =
    (bytes_eq-Decides text (local (socket_port address))).1 equal in
    let bad : true ≡ false = sym found ∙ sym is ∙ apart in cc

-- a port that a text spells has 16 bits
port_range : (text : Text) (address : SocketAddr) → IsSocketText text address → socket_port address < 2 ^ 16
port_range text (Socket.V4 a) spelled = spelled.4.3
port_range text (Socket.V6 a) spelled = spelled.port_text.3

-- a local address is printed as it is spelled
pub is_printed : (text : Text) (address : SocketAddr) → IsAddress false text address → socket_text address ≡ text
unfolding digits
is_printed text address is =
    let own : SocketAddr = Socket.V4
    (record { ip = record { octets = 127 ∷ 0 ∷ 0 ∷ 1 ∷ [] }; port = socket_port address }) in
    let below : socket_port address < 2 ^ 16 = port_range text address is.spelled in
    let number = decimal_is_IsNumeral (socket_port address) (omega arith) in
    let loopback : IsDotted (codes "127.0.0.1") (127 ∷ 0 ∷ 0 ∷ 1 ∷ []) = record {
      a = 127;
      b = 0;
      c = 0;
      d = 1;
      fit = (omega arith, omega arith, omega arith, omega arith);
      value = refl;
      spelled = refl;
    } in
    let spells : IsSocketText text own = (
      codes "127.0.0.1",
      codes ":" ++ decimal (socket_port address),
      is.near refl,
      loopback,
      (decimal (socket_port address), refl, number, below),
    ) in
    ap socket_text (IsSocketText_unique text address own is.spelled spells) ∙ sym (is.near refl)
