use Rattle.std.proofs.Common.{rules, ◌≡◌, ◌-◌, ◌<◌, ◌∙◌, ap, sym, arith, ℕ, [], ◌∷◌, length, refl}
use Rattle.std.specs.Prelude.{◌%◌}
use Rattle.bw_model.specs.Take.{Request, Close, block_align}
use Rattle.bw_send_file.specs.ComingRequests.{progress_of, sample_requests, size_of}
use Rattle.bw_send_file.specs.declared.followed_state.PcmStep.TheVariants as steps
use Rattle.bw_send_file.proofs.FollowedFeeds.{copy_fault, block_left, block_by, given_of_read, next_of_read, none_left}
use Rattle.bw_send_file.proofs.SampleSteps.{held_block, rest_block, close_left, some_size}
use Rattle.bw_send_file.proofs.followed_state.PcmRequests.give_samples.Goals as goal
use Rattle.bw_send_file.proofs.followed_state.PcmRequests.give_samples.Goals.{Then-part-held}

-- the whole frames among the bytes that are held
held_frames : (g : _) (c : Then-part-held g) →
    length c.bytes-held.result.now - length c.bytes-held.result.now % c.from.result
    ≡ length c.read_on.new.self.held
    - length c.read_on.new.self.held % block_align c.args.self.now.outline.format
held_frames g c =
    let align : c.from.result ≡ block_align c.args.self.now.outline.format = search rules in
    ap (λ (n : ℕ). n - n % c.from.result) (ap length c.bytes-held.ensures.value)
    ∙ ap (λ (n : ℕ). length c.read_on.new.self.held - length c.read_on.new.self.held % n) align

pub returns-in_default-read_on-clause-left : goal.returns-in_default-read_on-clause-left
returns-in_default-read_on-clause-left g c rest e =
    let m = c.read_on.ensures.read rest (c.has_ended.ensures.kept ∙ e) in
    (m.rest, m.left_is, ap (sample_requests (progress_of c.args.self.now)) (sym m.together))

pub returns-then-held-size-clause-left : goal.returns-then-held-size-clause-left
returns-then-held-size-clause-left g c rest e =
    let x = c.args.self.now in
    let p = progress_of x in
    let m = c.read_on.ensures.read rest (c.has_ended.ensures.kept ∙ e) in
    let count : length c.bytes-held.result.now ≡ size_of p =
    c.if-held-size.true ∙ c.size.ensures ∙ c.read_on.ensures.size ∙ x.whole in
    let full : length c.read_on.new.self.held ≡ size_of p = ap length (sym c.bytes-held.ensures.value) ∙ count in
    given_of_read p x.samples c.read_on.new.self rest c.give_block.result _ _ m
    (block_left g.F.Followed _ c.give_block.new.self (length c.bytes-held.result.now) c.give_block.result refl
    c.give_block.ensures.ok c.give_block.ensures.err m.rest m.left_is
    (held_block p c.read_on.new.self.held m.rest (length c.bytes-held.result.now) x.align (some_size p x.some x.align)
    count full))

pub returns-then-held-size-clause-by : goal.returns-then-held-size-clause-by
returns-then-held-size-clause-by g c =
    let x = c.args.self.now in
    let p = progress_of x in
    let count : length c.bytes-held.result.now ≡ size_of p =
    c.if-held-size.true ∙ c.size.ensures ∙ c.read_on.ensures.size ∙ x.whole in
    let full : length c.read_on.new.self.held ≡ size_of p = ap length (sym c.bytes-held.ensures.value) ∙ count in
    block_by g.F.Followed x _ c.give_block.new.self (length c.bytes-held.result.now) c.give_block.result
    (omega (arith, count, full)) c.give_block.ensures.ok c.give_block.ensures.err
    (λ rest e.
    let m = c.read_on.ensures.read rest (c.has_ended.ensures.kept ∙ e) in
    next_of_read p x.samples c.read_on.new.self rest _ _ _ m
    (held_block p c.read_on.new.self.held m.rest (length c.bytes-held.result.now) x.align (some_size p x.some x.align)
    count full)) refl

pub returns-then-not-is_complete-clause-left : goal.returns-then-not-is_complete-clause-left
returns-then-not-is_complete-clause-left g c rest e =
    let m = c.read_on.ensures.read rest (c.has_ended.ensures.kept ∙ e) in
    (m.rest, m.left_is, ap (sample_requests (progress_of c.args.self.now)) (sym m.together))

pub returns-then-part-held-clause-left : goal.returns-then-part-held-clause-left
returns-then-part-held-clause-left g c rest e =
    let x = c.args.self.now in
    let p = progress_of x in
    let m = c.read_on.ensures.read rest (c.has_ended.ensures.kept ∙ e) in
    let short : length c.read_on.new.self.held < c.read_on.new.self.size = search rules in
    let none = none_left m.rest _ m.left_is
    (c.in-Ok-read_on.ensures.end (search rules) short rest (c.has_ended.ensures.kept ∙ e)) in
    let sized : c.read_on.new.self.size ≡ size_of p = c.read_on.ensures.size ∙ x.whole in
    let few = held_frames g (goal.at.returns-then-part-held-clause-left g c).Then-part-held in
    let more = c.if-part-held.true in
    given_of_read p x.samples c.read_on.new.self rest c.give_block-then-part-held.result _ _ m
    (block_left g.F.Followed _ c.give_block-then-part-held.new.self _ c.give_block-then-part-held.result refl
    c.give_block-then-part-held.ensures.ok c.give_block-then-part-held.ensures.err m.rest m.left_is
    (rest_block p c.read_on.new.self.held m.rest
    (length c.bytes-held.result.now - length c.bytes-held.result.now % c.from.result) x.align
    (some_size p x.some x.align) (omega (arith, short, sized)) none few (omega (arith, more))))

pub returns-then-part-held-clause-by : goal.returns-then-part-held-clause-by
returns-then-part-held-clause-by g c =
    let x = c.args.self.now in
    let p = progress_of x in
    let held : length c.bytes-held.result.now ≡ length c.read_on.new.self.held = ap length c.bytes-held.ensures.value in
    let short : length c.read_on.new.self.held < c.read_on.new.self.size = search rules in
    let sized : c.read_on.new.self.size ≡ size_of p = c.read_on.ensures.size ∙ x.whole in
    let few = held_frames g (goal.at.returns-then-part-held-clause-by g c).Then-part-held in
    let more = c.if-part-held.true in
    block_by g.F.Followed x _ c.give_block-then-part-held.new.self
    (length c.bytes-held.result.now - length c.bytes-held.result.now % c.from.result) c.give_block-then-part-held.result
    (omega (arith, held)) c.give_block-then-part-held.ensures.ok c.give_block-then-part-held.ensures.err
    (λ rest e.
    let m = c.read_on.ensures.read rest (c.has_ended.ensures.kept ∙ e) in
    let none = none_left m.rest _ m.left_is
    (c.in-Ok-read_on.ensures.end (search rules) short rest (c.has_ended.ensures.kept ∙ e)) in
    next_of_read p x.samples c.read_on.new.self rest _ _ _ m
    (rest_block p c.read_on.new.self.held m.rest
    (length c.bytes-held.result.now - length c.bytes-held.result.now % c.from.result) x.align
    (some_size p x.some x.align) (omega (arith, short, sized)) none few (omega (arith, more)))) refl

pub returns-then-part-gt0-clause-left : goal.returns-then-part-gt0-clause-left
returns-then-part-gt0-clause-left g c rest e =
    let m = c.read_on.ensures.read rest (c.has_ended.ensures.kept ∙ e) in
    (m.rest, m.left_is, ap (sample_requests (progress_of c.args.self.now)) (sym m.together))

pub returns-in-Err-clause-left : goal.returns-in-Err-clause-left
returns-in-Err-clause-left g c rest e =
    let m = c.read_on.ensures.read rest (c.has_ended.ensures.kept ∙ e) in
    (m.rest, m.left_is, ap (sample_requests (progress_of c.args.self.now)) (sym m.together))

pub returns-in-Err-clause-by : goal.returns-in-Err-clause-by
returns-in-Err-clause-by g c =
    let x = c.args.self.now in
    let p = progress_of x in
    let held : length c.bytes-held.result.now ≡ length c.read_on.new.self.held = ap length c.bytes-held.ensures.value in
    let short : length c.read_on.new.self.held < c.read_on.new.self.size = search rules in
    let part = c.if-part-held.false in
    let zero_part = c.if-part-gt0.false in
    let nothing : length c.read_on.new.self.held ≡ 0 = omega (arith, held, part, zero_part) in
    copy_fault g.F.Followed steps.Samples x _ c.in-Err.fault (Close x.given) c.in-Err.ensures.err
    (λ rest e.
    let m = c.read_on.ensures.read rest (c.has_ended.ensures.kept ∙ e) in
    let none = none_left m.rest _ m.left_is
    (c.in-Ok-read_on.ensures.end (search rules) short rest (c.has_ended.ensures.kept ∙ e)) in
    next_of_read p x.samples c.read_on.new.self rest _ _ _ m
    (close_left p c.read_on.new.self.held m.rest x.align nothing none))

pub returns-clause-left : goal.returns-clause-left
returns-clause-left g c rest e =
    let x = c.args.self.now in
    let p = progress_of x in
    let m = c.read_on.ensures.read rest (c.has_ended.ensures.kept ∙ e) in
    let held : length c.bytes-held.result.now ≡ length c.read_on.new.self.held = ap length c.bytes-held.ensures.value in
    let short : length c.read_on.new.self.held < c.read_on.new.self.size = search rules in
    let part = c.if-part-held.false in
    let zero_part = c.if-part-gt0.false in
    let nothing : length c.read_on.new.self.held ≡ 0 = omega (arith, held, part, zero_part) in
    let none = none_left m.rest _ m.left_is
    (c.in-Ok-read_on.ensures.end (search rules) short rest (c.has_ended.ensures.kept ∙ e)) in (
      [],
      ap (sample_requests p) (sym m.together) ∙ close_left p c.read_on.new.self.held m.rest x.align nothing none
          ∙ ap (λ (r : Request). r ∷ []) (sym c.in-Ok-copy_of.ensures.ok),
      (m.rest, m.left_is, refl),
    )

pub returns-clause-by : goal.returns-clause-by
returns-clause-by g c = (
  λ ends.
      let held : length c.bytes-held.result.now ≡ length c.read_on.new.self.held = ap length c.bytes-held.ensures.value in
      let part = c.if-part-held.false in
      let zero_part = c.if-part-gt0.false in
      record {
        close = c.in-Ok-copy_of.ensures.ok;
        none = omega (arith, held, part, zero_part);
        complete = c.read_on.ensures.stays (search rules);
      },
  tt,
)
