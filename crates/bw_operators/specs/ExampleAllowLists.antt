-- Worked networks and names. Which addresses a network has: by the module `ipaddress` of CPython.
use Rattle.std.specs.Prelude.{◌≡◌, ℕ, true, false, [], ◌∷◌, codes, Some, None}
use Rattle.std.specs.declared.net.socket_addr.SocketAddr.{SocketAddr}
use Rattle.std.specs.declared.net.socket_addr.SocketAddr.TheVariants as Socket
use Rattle.bw_operators.specs.AllowLists.{AllowRules, AllowedNetwork, may_come, has_address, is_mapped}

-- 172.16.0.0/12, and the last address of it and the next one; 0.0.0.0/0; fe80::/10; 10.0.0.7 alone
abbrev pub NetworksExample : Type 0
NetworksExample =
    let private : AllowedNetwork = record { octets = 172 ∷ 16 ∷ 0 ∷ 0 ∷ []; bits = 12 } in
    let any : AllowedNetwork = record { octets = 0 ∷ 0 ∷ 0 ∷ 0 ∷ []; bits = 0 } in
    let alone : AllowedNetwork = record { octets = 10 ∷ 0 ∷ 0 ∷ 7 ∷ []; bits = 32 } in
    (has_address (172 ∷ 31 ∷ 255 ∷ 255 ∷ []) private ≡ true)
    × (has_address (172 ∷ 32 ∷ 0 ∷ 0 ∷ []) private ≡ false)
    × (has_address (203 ∷ 0 ∷ 113 ∷ 9 ∷ []) any ≡ true)
    × (has_address (0 ∷ 0 ∷ 0 ∷ 0 ∷ 0 ∷ 0 ∷ 0 ∷ 0 ∷ 0 ∷ 0 ∷ 0 ∷ 0 ∷ 0 ∷ 0 ∷
    0 ∷ 1 ∷ []) any ≡ false)
    × (has_address (10 ∷ 0 ∷ 0 ∷ 7 ∷ []) alone ≡ true)
    × (has_address (10 ∷ 0 ∷ 0 ∷ 6 ∷ []) alone ≡ false)

-- ::ffff:10.0.0.7, ::10.0.0.7 and 10.0.0.7
abbrev pub MappedExample : Type 0
MappedExample = (is_mapped (0 ∷ 0 ∷ 0 ∷ 0 ∷ 0 ∷ 0 ∷ 0 ∷ 0 ∷ 0 ∷ 0 ∷ 255 ∷ 255 ∷
    10 ∷ 0 ∷ 0 ∷ 7 ∷ []) ≡ true)
    × (is_mapped (0 ∷ 0 ∷ 0 ∷ 0 ∷ 0 ∷ 0 ∷ 0 ∷ 0 ∷ 0 ∷ 0 ∷ 0 ∷ 0 ∷ 10 ∷ 0 ∷ 0 ∷ 7 ∷
    []) ≡ false)
    × (is_mapped (10 ∷ 0 ∷ 0 ∷ 7 ∷ []) ≡ false)

-- a peer of IPv4
abbrev pub peer_from : ℕ → ℕ → ℕ → ℕ → SocketAddr
peer_from a b c d = Socket.V4 (record { ip = record { octets = a ∷ b ∷ c ∷ d ∷ [] }; port = 40_000 })

-- the same as `::ffff:a.b.c.d`
abbrev pub mapped_peer_from : ℕ → ℕ → SocketAddr
mapped_peer_from high low = Socket.V6 (record {
  ip = record { segments = 0 ∷ 0 ∷ 0 ∷ 0 ∷ 0 ∷ 65_535 ∷ high ∷ low ∷ [] };
  port = 40_000;
  flowinfo = 0;
  scope_id = 0;
})

-- `ixm-* 10.0.0.0/8`
abbrev pub one_rule : AllowRules
one_rule = Some (record {
  name = codes "ixm-";
  is_start = true;
  networks = record { octets = 10 ∷ 0 ∷ 0 ∷ 0 ∷ []; bits = 8 } ∷ [];
} ∷ [])

-- it allows `ixm-7` from 10.1.2.3, also if that comes as ::ffff:10.1.2.3, from no other network, and
-- no other name; no list allows all, and an empty one nothing
abbrev pub AllowExample : Type 0
AllowExample = (may_come one_rule (peer_from 10 1 2 3) (codes "ixm-7") ≡ true)
    × (may_come one_rule (mapped_peer_from 2_561 515) (codes "ixm-7") ≡ true)
    × (may_come one_rule (peer_from 11 1 2 3) (codes "ixm-7") ≡ false)
    × (may_come one_rule (peer_from 10 1 2 3) (codes "ix-7") ≡ false)
    × (may_come None (peer_from 11 1 2 3) (codes "ix-7") ≡ true)
    × (may_come (Some []) (peer_from 10 1 2 3) (codes "ixm-7") ≡ false)
