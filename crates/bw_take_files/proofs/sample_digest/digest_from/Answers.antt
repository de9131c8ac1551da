use Rattle.std.proofs.Common.{◌≡◌, ◌+◌, ℕ, length, take, drop, arith, rules, sym, ap, ◌∙◌, subst, IsTrue}
use Rattle.std.proofs.lemmas.List.{length-take-le}
use Rattle.sha2.specs.Hashers.{Holds256}
use Rattle.bw_disk.proofs.DiskChains.{stays_twice}
use Rattle.bw_take_files.proofs.SampleLemmas.{still_found}
use Rattle.bw_take_files.proofs.DigestLemmas.{all_there, cut_short, piece_follows, whole_digest}
use Rattle.bw_take_files.proofs.sample_digest.digest_from.Goals as goal

pub returns-then-count-wanted-clause-value : goal.returns-then-count-wanted-clause-value
returns-then-count-wanted-clause-value g c = λ honest found stands.
    let was = c.loop-done.invariant in
    let wanted : ℕ = c.min-wanted.result in
    let now = subst IsTrue (sym was.disk.honest) honest in
    let here = still_found g.D.Disk _ _ _ _ found was.disk was.path honest stands in
    let room : length (take wanted c.loop-done.piece) ≡ wanted =
    length-take-le wanted c.loop-done.piece (omega (arith, c.min-wanted.ensures, was.piece)) in
    let long : length c.read_from.new.room ≡ wanted = c.in_ok-count.ensures.room ∙ room in
    cut_short found c.read_from.new.room c.args.start c.loop-done.done wanted c.args.len c.in_ok-count.count
    (c.in_ok-count.ensures.read now found here
    ∙ ap (λ (n : ℕ). take n (drop (c.args.start + c.loop-done.done) found)) room)
    (omega (arith, c.in_ok-count.ensures.fits, room, long)) c.if-count-wanted.true
    (omega (arith, c.min-wanted.ensures, c.loop-done-test.true))

pub loop-done-preserved : goal.loop-done-preserved
loop-done-preserved g c =
    let was = c.loop-done.invariant in
    let wanted : ℕ = c.min-wanted.result in
    let room : length (take wanted c.loop-done.piece) ≡ wanted =
    length-take-le wanted c.loop-done.piece (omega (arith, c.min-wanted.ensures, was.piece)) in
    let long : length c.read_from.new.room ≡ wanted = c.in_ok-count.ensures.room ∙ room in
    let count : c.in_ok-count.count ≡ wanted =
    omega (arith, c.in_ok-count.ensures.fits, room, c.if-count-wanted.false) in
    record {
      failures = search rules;
      disk = stays_twice g.D.Disk _ _ _ was.disk c.in_ok-count.ensures.disk;
      path = c.in_ok-count.ensures.path ∙ was.path;
      within = omega (arith, c.min-wanted.ensures, c.loop-done-test.true);
      piece = search rules;
      held = λ honest found stands.
          let now = subst IsTrue (sym was.disk.honest) honest in
          let here = still_found g.D.Disk _ _ _ _ found was.disk was.path honest stands in
          let read : take wanted c.read_from.new.room ≡ take wanted (drop (c.args.start + c.loop-done.done) found) =
          ap (λ (n : ℕ). take n c.read_from.new.room) (sym count) ∙ c.in_ok-count.ensures.read now found here
          ∙ ap (λ (n : ℕ). take n (drop (c.args.start + c.loop-done.done) found)) room in
          let held = was.held honest found stands in (
            piece_follows (Holds256 c.update.new.self) found c.read_from.new.room _ _ _ _ long read
                (c.update.ensures _ held.0),
            all_there found c.read_from.new.room _ _ _ long read held.1
                (omega (arith, c.min-wanted.ensures, c.loop-done-test.true)),
          );
    }

pub returns-clause-value : goal.returns-clause-value
returns-clause-value g c = λ honest found stands.
    let was = c.loop-done.invariant in
    let held = was.held honest found stands in
    whole_digest found c.args.start c.loop-done.done c.args.len c.finalize.result
    (omega (arith, was.within, c.loop-done-test.false)) (c.finalize.ensures _ held.0) held.1
