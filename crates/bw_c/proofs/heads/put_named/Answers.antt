use Rattle.std.proofs.Common.{◌≡◌, ◌<◌, ◌≤◌, ◌++◌, length, List, ℕ, sym, ◌∙◌, subst, arith, refl}
use Rattle.bw_model.specs.Requests.{meaning, carried_bytes}
use Rattle.bw_wire.specs.EncodedFrames.{IsFrameOf, said}
use Rattle.bw_c.proofs.HeadLaws.{refuses_room, can_write, wrote_head, put_room, put_full}
use Rattle.bw_c.proofs.heads.put_named.Goals as goal

pub returns-then-len-eq0-clause-some : goal.returns-then-len-eq0-clause-some
returns-then-len-eq0-clause-some c =
    let x = c.args.sender.now in
    let r = meaning c.args.request.now in
    let head = c.head_of-head.result.items in
    let frame = subst (λ (name : List ℕ). IsFrameOf (said name x.offered r) (head ++ carried_bytes r))
    c.requires.named c.head_of-head.ensures.frame in
    let small = put_full head c.args.out.now _ _ c.put-len.ensures.room c.head_of-head.ensures.some c.if-len-eq0.true in (
      λ some. absurd (omega (arith, some)),
      λ w. absurd (refuses_room x r (length c.args.out.now) head frame small w),
    )

pub returns-then-len-eq0-clause-none : goal.returns-then-len-eq0-clause-none
returns-then-len-eq0-clause-none c = λ none.
    let small = put_full c.head_of-head.result.items c.args.out.now _ _ c.put-len.ensures.room c.head_of-head.ensures.some
    c.if-len-eq0.true in
    (refl, (c.put-len.ensures.full small).1)

pub returns-clause-wrote : goal.returns-clause-wrote
returns-clause-wrote c = λ some.
    let x = c.args.sender.now in
    let r = meaning c.args.request.now in
    let head = c.head_of-head.result.items in
    let frame = subst (λ (name : List ℕ). IsFrameOf (said name x.offered r) (head ++ carried_bytes r))
    c.requires.named c.head_of-head.ensures.frame in
    let fits = put_room head c.args.out.now _ _ c.put-len.ensures.full c.if-len-eq0.false in
    let put = c.put-len.ensures.room fits in
    wrote_head x r head c.args.out.now _ _ c.requires.place frame put.1 put.2

pub returns-clause-some : goal.returns-clause-some
returns-clause-some c =
    let x = c.args.sender.now in
    let r = meaning c.args.request.now in
    let head = c.head_of-head.result.items in
    let frame = subst (λ (name : List ℕ). IsFrameOf (said name x.offered r) (head ++ carried_bytes r))
    c.requires.named c.head_of-head.ensures.frame in
    let fits = put_room head c.args.out.now _ _ c.put-len.ensures.full c.if-len-eq0.false in
    let isnt = c.if-len-eq0.false in (
      λ some. can_write x r (length c.args.out.now) head c.requires.place frame fits,
      λ w. omega (arith, isnt),
    )

pub returns-clause-none : goal.returns-clause-none
returns-clause-none c = λ none. absurd (c.if-len-eq0.false none)
