-- What is looked for name by name, and peer by peer.
use Rattle.std.proofs.Common.{◌≡◌, ◌∙◌, ◌<◌, ◌+◌, ℕ, true, false, List, length, get_or, drop, refl, sym, ap}
use Rattle.std.proofs.lemmas.List.{at_drop_more}
use Rattle.std.specs.Prelude.{Some}
use Rattle.std.specs.Str.{bytes_eq}
use Rattle.bw_serve.specs.declared.peer_slot.PeerSlot.{PeerSlot}
use Rattle.bw_operators.specs.AllowLists.{AllowRules}
use Rattle.bw_serve_status.specs.Takes.{is_peer_of, peer_of, replied_of}
use Rattle.bw_serve_status.specs.declared.name_tally.NameTally.{NameTally}

-- the counts at a place are another's
pub replied_later : (name : List ℕ) (ts : List NameTally) (i : ℕ) (t : NameTally) → i < length ts → t ≡ get_or ts i t →
    bytes_eq t.name name ≡ false → replied_of name (drop i ts) ≡ replied_of name (drop (i + 1) ts)
replied_later name ts i t less is other =
    at_drop_more (replied_of name) ts i t less
    ∙ rw (ap (λ y. bytes_eq y.name name) (sym is) ∙ other) refl

-- they are the name's
pub replied_here : (name : List ℕ) (ts : List NameTally) (i : ℕ) (t : NameTally) → i < length ts → t ≡ get_or ts i t →
    bytes_eq t.name name ≡ true → replied_of name (drop i ts) ≡ (t.refused, t.delayed)
replied_here name ts i t less is same =
    at_drop_more (replied_of name) ts i t less
    ∙ rw (ap (λ y. bytes_eq y.name name) (sym is) ∙ same) (ap (λ y. (y.refused, y.delayed)) (sym is))

-- the peer at a place isn't the name's
pub peer_later : (rules : AllowRules) (name : List ℕ) (ps : List PeerSlot) (i : ℕ) (p : PeerSlot) → i < length ps → p ≡
    get_or ps i p →
    is_peer_of rules name p ≡ false → peer_of rules name (drop i ps) ≡ peer_of rules name (drop (i + 1) ps)
peer_later rules name ps i p less is other =
    at_drop_more (peer_of rules name) ps i p less ∙ rw (ap (is_peer_of rules name) (sym is) ∙ other) refl

-- it is
pub peer_here : (rules : AllowRules) (name : List ℕ) (ps : List PeerSlot) (i : ℕ) (p : PeerSlot) → i < length ps → p ≡ get_or
    ps i p →
    is_peer_of rules name p ≡ true → peer_of rules name (drop i ps) ≡ Some p.address
peer_here rules name ps i p less is same =
    at_drop_more (peer_of rules name) ps i p less
    ∙ rw (ap (is_peer_of rules name) (sym is) ∙ same) (ap (λ y. Some y.address) (sym is))
