use Rattle.std.proofs.Common.{◌≡◌, ◌∙◌, ◌-◌, ◌+◌, ◌==◌, true, false, suc, length, Bool, Some, None, ap, arith, sym, if◌then◌else◌, ℕ}
use Rattle.bw_contents.specs.Documents.{said_after_pieces}
use Rattle.bw_contents.specs.Pieces.{xml_piece_of}
use Rattle.bw_contents.proofs.Readings.{all_read, no_piece, piece_refused, piece_taken}
use Rattle.bw_contents.proofs.document.read_pieces.Goals as goal

pub returns-then-is_empty : goal.returns-then-is_empty
returns-then-is_empty c =
    let none : (length c.loop.rest.now == 0) ≡ true = sym c.is_empty.ensures ∙ c.if-is_empty.true in
    c.into_said.ensures
    ∙ sym (all_read (c.args.most - c.loop.counter) c.loop.elements c.loop.tag.now c.loop.rest.now none)
    ∙ c.loop.invariant

pub returns-in_default : goal.returns-in_default
returns-in_default c =
    let some : (length c.loop.rest.now == 0) ≡ false = sym c.is_empty.ensures ∙ c.if-is_empty.false in
    let left : c.args.most - c.loop.counter ≡ suc (c.args.most - (c.loop.counter + 1)) =
    omega (arith, c.loop-test.true) in
    sym (no_piece (c.args.most - (c.loop.counter + 1)) c.loop.elements c.loop.tag.now c.loop.rest.now some
    (sym c.in_default.ensures))
    ∙ sym (ap (λ (n : ℕ). said_after_pieces n c.loop.elements c.loop.tag.now c.loop.rest.now) left)
    ∙ c.loop.invariant

pub returns-then-not-branch : goal.returns-then-not-branch
returns-then-not-branch c =
    let some : (length c.loop.rest.now == 0) ≡ false = sym c.is_empty.ensures ∙ c.if-is_empty.false in
    let left : c.args.most - c.loop.counter ≡ suc (c.args.most - (c.loop.counter + 1)) =
    omega (arith, c.loop-test.true) in
    sym (piece_refused (c.args.most - (c.loop.counter + 1)) c.loop.elements c.loop.tag.now c.loop.rest.now
    (xml_piece_of c.in-Some.piece) some (sym c.in-Some.ensures)
    (sym c.in_ok-take.ensures ∙ ap (λ (b : Bool). if b then Some c.take.new.self else None) c.if-not-branch.true))
    ∙ sym (ap (λ (n : ℕ). said_after_pieces n c.loop.elements c.loop.tag.now c.loop.rest.now) left)
    ∙ c.loop.invariant

pub loop-preserved : goal.loop-preserved
loop-preserved c =
    let some : (length c.loop.rest.now == 0) ≡ false = sym c.is_empty.ensures ∙ c.if-is_empty.false in
    let left : c.args.most - c.loop.counter ≡ suc (c.args.most - (c.loop.counter + 1)) =
    omega (arith, c.loop-test.true) in
    sym (piece_taken (c.args.most - (c.loop.counter + 1)) c.loop.elements c.take.new.self c.loop.tag.now c.loop.rest.now
    (xml_piece_of c.in-Some.piece) some (sym c.in-Some.ensures)
    (sym c.in_ok-take.ensures ∙ ap (λ (b : Bool). if b then Some c.take.new.self else None) c.if-not-branch.false))
    ∙ sym (ap (λ (n : ℕ). said_after_pieces n c.loop.elements c.loop.tag.now c.loop.rest.now) left)
    ∙ c.loop.invariant
