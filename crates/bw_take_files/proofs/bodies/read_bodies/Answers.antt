use Rattle.std.proofs.Common.{arith, ◌≡◌, ◌≤◌, ◌<◌, ◌+◌, ◌*◌, ◌-◌, ℕ, List, ◌++◌, IsTrue, length}
use Rattle.std.proofs.Common.{slice_index, take, drop, inl, inr, refl, sym, ap, ◌∙◌, subst}
use Rattle.std.proofs.lemmas.Bool.{cases_lt}
use Rattle.std.proofs.lemmas.List.{get_or-set_same, get_or-set_other, length-set}
use Rattle.bw_disk.proofs.DiskChains.{stays_twice}
use Rattle.bw_take_files.specs.BlockDigests.{body_at}
use Rattle.bw_take_files.proofs.BodyLemmas.{part_stays, part_begins, part_length}
use Rattle.bw_take_files.proofs.SampleLemmas.{still_found}
use Rattle.bw_take_files.proofs.bodies.read_bodies.Goals as goal

pub loop-lane-preserved : goal.loop-lane-preserved
loop-lane-preserved g c =
    let was = c.loop-lane.invariant in
    let lane = c.loop-lane.lane in
    let room = c.loop-lane.room in
    let lens = c.loop-lane.lens in
    let part = c.read_body.new.room in
    let len = c.in_ok-len.len in
    let low : lane < 8 = c.loop-lane-test.true in
    let start = lane * 32806 in
    let rest : List ℕ = drop (start + 32806 - start) (drop start room) in
    let now : List ℕ = take start room ++ (part ++ rest) in
    let lanes : length lens ≡ 8 = was.lanes in
    let short : len ≤ 32806 = c.in_ok-len.ensures.short in
    let whole : length part ≡ 32806 = c.in_ok-len.ensures.room in
    let all : length room ≡ 262448 = was.room ∙ c.requires.room in
    let fits : start ≤ length room = omega (arith, low, all) in
    record {
      failures = c.in_ok-len.ensures.failures.quiet refl ∙ was.failures;
      disk = stays_twice g.D.Disk _ _ _ was.disk c.in_ok-len.ensures.disk;
      path = c.in_ok-len.ensures.path ∙ was.path;
      room = part_length room part start _ (omega (arith, low, all)) (omega (arith, whole)) ∙ was.room;
      lanes = length-set lens lane len ∙ lanes;
      short = λ j below. elim (cases_lt j lane) [
        | inl before ↦
            let other = get_or-set_other lens lane j len 0 (omega (arith, before)) in
            omega (arith, other, was.short j below)
        | inr after ↦ elim (cases_lt lane j) [
          | inl past ↦
              let other = get_or-set_other lens lane j len 0 (omega (arith, past)) in
              omega (arith, other, was.short j below)
          | inr here ↦
              let at : lane ≡ j = omega (arith, after, here) in
              let same = get_or-set_same lens lane len 0 (omega (arith, lanes, low)) in
              rw (← at) (omega (arith, same, short))
        ]
      ];
      read = λ honest found stands j before. elim (cases_lt j lane) [
        | inl earlier ↦
            let other = get_or-set_other lens lane j len 0 (omega (arith, earlier)) in
            let fit = was.short j (omega (arith, earlier, low)) in
            ap (λ (n : ℕ). take n (drop (j * 32806) now)) other
            ∙ part_stays room (part ++ rest) start (j * 32806) (slice_index lens j) fits (omega (arith, earlier, fit))
            ∙ was.read honest found stands j earlier
        | inr later ↦
            let at : lane ≡ j = omega (arith, later, before) in
            let same = get_or-set_same lens lane len 0 (omega (arith, lanes, low)) in
            rw (← at) (
            ap (λ (n : ℕ). take n (drop start now)) same
            ∙ part_begins room part rest start len fits (omega (arith, short, whole))
            ∙ c.in_ok-len.ensures.read (subst IsTrue (sym was.disk.honest) honest) found
            (still_found g.D.Disk _ _ _ _ found was.disk was.path honest stands)
            ∙ ap (body_at c.args.name.now found) c.block_in-block.ensures
            )
      ];
    }
