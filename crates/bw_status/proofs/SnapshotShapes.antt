-- A snapshot has no float as JSON, and few levels, so that its text is pinned and reads back.
use Rattle.std.proofs.Common.{◌≡◌, ℕ, suc, ◌≤◌, false, List, [], ◌∷◌, fold, map, Option, Some, None}
use Rattle.std.proofs.Common.{refl, arith, lit≤, Bool, true, ◌||◌, Ordering, Less, Equal, Greater}
use Rattle.std.specs.Ordering.{match_ordering}
use Rattle.std.proofs.Math.Nat.{max-le}
use Rattle.std.specs.declared.net.socket_addr.SocketAddr.{SocketAddr}
use Rattle.serde_json.specs.Data.{Data, Members, no_members, member, put, depth, items_depth, members_depth}
use Rattle.serde_json.specs.View.{items_of}
use Rattle.serde_json.specs.Written.{has_float, items_have_float, members_have_float}
use Rattle.bw_status.specs.declared.snapshot.Count.{Count}
use Rattle.bw_status.specs.declared.snapshot.LeftOutName.{LeftOutName}
use Rattle.bw_status.specs.declared.snapshot.Snapshot.{Snapshot}
use Rattle.bw_status.specs.declared.snapshot.SoundFormat.{SoundFormat}
use Rattle.bw_status.specs.declared.snapshot.TakeStatus.{TakeStatus}
use Rattle.bw_status.specs.Objects.{unsigned_or_null, format_number, peer_data, take_data, count_data}
use Rattle.bw_status.specs.Objects.{left_out_data, left_outs_data, kinds_data, snapshot_data, unsigned_data}

-- An object of numbers alone.

abbrev IsFlat : Members → Type 0
IsFlat ms = (members_have_float ms ≡ false) × (members_depth ms ≤ 0)

both_false : (a b : Bool) → (a || b) ≡ false → (a ≡ false) × (b ≡ false)
both_false false b is = (refl, is)
both_false true b is = absurd cc

flat_by_order : (o : Ordering) (a b c : Members) → IsFlat a → IsFlat b → IsFlat c → IsFlat (match_ordering o a b c)
flat_by_order Less a b c p q r = p
flat_by_order Equal a b c p q r = q
flat_by_order Greater a b c p q r = r

flat_before : (l : List ℕ) (d : Data) (ms : Members) → has_float d ≡ false → depth d ≤ 0 → IsFlat ms →
    IsFlat (member l d ms)
flat_before l d ms whole low is = (rw whole is.0, max-le low is.1)

flat_put : (k : List ℕ) (n : ℕ) (ms : Members) → IsFlat ms → IsFlat (put k (unsigned_data n) ms)
flat_put k n no_members is = (refl, lit≤ tt)
flat_put k n (member l d ms) is =
    let parts = both_false (has_float d) (members_have_float ms) is.0 in
    let low : depth d ≤ 0 = omega (arith, is.1) in
    let rest : IsFlat ms = (parts.1, omega (arith, is.1)) in
    flat_by_order _ (member k (unsigned_data n) (member l d ms)) (member l (unsigned_data n) ms)
    (member l d (put k (unsigned_data n) ms)) (flat_before k (unsigned_data n) (member l d ms) refl (lit≤ tt) is)
    (flat_before l (unsigned_data n) ms refl (lit≤ tt) rest)
    (flat_before l d (put k (unsigned_data n) ms) parts.0 low (flat_put k n ms rest))

abbrev pub with_count : Members → Count → Members
with_count members c = put c.kind.now (unsigned_data c.count) members

flat_counts : (cs : List Count) (ms : Members) → IsFlat ms → IsFlat (fold with_count ms cs)
flat_counts [] ms is = is
flat_counts (c ∷ cs) ms is = flat_counts cs (with_count ms c) (flat_put c.kind.now c.count ms is)

kinds_flat : (cs : List Count) → IsFlat (fold with_count no_members cs)
kinds_flat cs = flat_counts cs no_members (refl, lit≤ tt)

-- No float.

kinds : (cs : List Count) → members_have_float (fold with_count no_members cs) ≡ false
kinds cs = (kinds_flat cs).0

maybe_number : (n : Option ℕ) → has_float (unsigned_or_null n) ≡ false
maybe_number None = refl
maybe_number (Some n) = refl

maybe_format : (field : SoundFormat → ℕ) (f : Option SoundFormat) → has_float (format_number field f) ≡ false
maybe_format field None = refl
maybe_format field (Some f) = refl

maybe_peer : (p : Option SocketAddr) → has_float (peer_data p) ≡ false
maybe_peer None = refl
maybe_peer (Some p) = refl

one_take : (t : TakeStatus) → has_float (take_data t) ≡ false
unfolding take_data
one_take t = simp (maybe_number, maybe_format, maybe_peer)

takes : (ts : List TakeStatus) → items_have_float (items_of (map take_data ts)) ≡ false
takes [] = refl
takes (t ∷ ts) = simp (one_take, takes ts)

counts : (cs : List Count) → items_have_float (items_of (map count_data cs)) ≡ false
counts [] = refl
counts (c ∷ cs) = simp (counts cs)

left_outs : (ns : List LeftOutName) → items_have_float (items_of (map left_out_data ns)) ≡ false
left_outs [] = refl
left_outs (n ∷ ns) = simp (left_outs ns)

pub snapshot-has_float : (s : Snapshot) → has_float (snapshot_data s) ≡ false
snapshot-has_float s = simp (maybe_number, takes, counts, left_outs, kinds)

-- Few levels.

number_depth : (n : Option ℕ) → depth (unsigned_or_null n) ≡ 0
number_depth None = refl
number_depth (Some n) = refl

format_depth : (field : SoundFormat → ℕ) (f : Option SoundFormat) → depth (format_number field f) ≡ 0
format_depth field None = refl
format_depth field (Some f) = refl

peer_depth : (p : Option SocketAddr) → depth (peer_data p) ≡ 0
peer_depth None = refl
peer_depth (Some p) = refl

take_depth : (t : TakeStatus) → depth (take_data t) ≤ 1
unfolding take_data
take_depth t = simp (number_depth, format_depth, peer_depth) (lit≤ tt)

takes_depth : (ts : List TakeStatus) → items_depth (items_of (map take_data ts)) ≤ 1
takes_depth [] = omega arith
takes_depth (t ∷ ts) = max-le (take_depth t) (takes_depth ts)

counts_depth : (cs : List Count) → items_depth (items_of (map count_data cs)) ≤ 1
counts_depth [] = omega arith
counts_depth (c ∷ cs) =
    let one : depth (count_data c) ≤ 1 = lit≤ tt in
    max-le one (counts_depth cs)

left_outs_depth : (ns : List LeftOutName) → items_depth (items_of (map left_out_data ns)) ≤ 1
left_outs_depth [] = omega arith
left_outs_depth (n ∷ ns) =
    let one : depth (left_out_data n) ≤ 1 = lit≤ tt in
    max-le one (left_outs_depth ns)

flat : (n : ℕ) (d : Data) → depth d ≡ 0 → depth d ≤ n
flat n d is = rw is (omega arith)

below : (n : ℕ) → n ≤ 3 → suc n ≤ 127
below n h = omega (arith, h)

pub snapshot-depth : (s : Snapshot) → depth (snapshot_data s) ≤ 127
snapshot-depth s =
    let ms : items_depth (items_of (map count_data s.messages.items)) ≤ 1 = counts_depth s.messages.items in
    let ns : items_depth (items_of (map count_data s.notices.items)) ≤ 1 = counts_depth s.notices.items in
    let ts : items_depth (items_of (map take_data s.takes.items)) ≤ 1 = takes_depth s.takes.items in
    let vs : items_depth (items_of (map count_data s.verdicts.items)) ≤ 1 = counts_depth s.verdicts.items in
    let ls : items_depth (items_of (map left_out_data s.left_out.items)) ≤ 1 =
    left_outs_depth s.left_out.items in
    let es : members_depth (fold with_count no_members s.ended_by.items) ≤ 0 = (kinds_flat s.ended_by.items).1 in
    below _ (max-le (lit≤ tt) (max-le (lit≤ tt) (max-le (lit≤ tt) (max-le (omega (arith, es)) (max-le (lit≤ tt)
    (max-le (omega (arith, ls)) (max-le (lit≤ tt) (max-le (flat 3 _ (number_depth s.memory)) (max-le (omega (arith, ms))
    (max-le (omega (arith, ns)) (max-le (lit≤ tt) (max-le (lit≤ tt) (max-le (lit≤ tt) (max-le (omega (arith, ts))
    (max-le (lit≤ tt) (max-le (lit≤ tt) (max-le (omega (arith, vs)) (lit≤ tt))))))))))))))))))
