use Rattle.std.proofs.Common.{[], subst, sym, slice_index_or}
use Rattle.bw_wire.specs.BodyDigests.{IsDigestOf}
use Rattle.bw_connections.specs.HeldBodies.{body_held, no_body}
use Rattle.bw_connections.proofs.connections.Connections.hash_batch.Goals as goal

pub keep_digest-requires : goal.keep_digest-requires
keep_digest-requires g c =
    let lane = c.loop-lane.lane in
    let placed = slice_index_or c.args.batch.now.bodies lane no_body in
    let digest = slice_index_or c.in-Some.digests lane [] in
    subst (λ m. IsDigestOf (body_held m placed) digest) (sym c.loop-lane.invariant)
    (subst (λ bytes. IsDigestOf bytes digest) (c.bodies_of.ensures lane c.loop-lane-test.true)
    (c.in-Some.ensures.digests lane c.loop-lane-test.true))
