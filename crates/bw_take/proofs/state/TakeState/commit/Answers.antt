use Rattle.std.proofs.Common.{◌≤◌, refl, arith, length, ap}
use Rattle.bw_model.specs.Limits.{longest_history}
use Rattle.bw_model.specs.Take.{Parts, Open, Mark, Block, SetField, Close}
use Rattle.bw_layout.specs.Formats.{format_of}
use Rattle.bw_take.specs.Kept.{parts_of}
use Rattle.bw_take.proofs.StoredLemmas.{opened_once, opened_by_allowed, set_without_fault, history_fits, some_where}
use Rattle.bw_take.proofs.StoredLemmas.{IsSound-parts_with, FollowsTakes-parts_with}
use Rattle.bw_take.proofs.state.TakeState.commit.Goals as goal

pub unwrap-requires : goal.unwrap-requires
unwrap-requires c =
    let stored = rw (← c.self.view_is, c.in-OpenTake.is) at c.requires.stored in
    let none = opened_once _ _ _ stored in
    let empty = ap (λ (p : Parts). length p.history) (c.self.invariant.sound.unopened none) in
    let room = rw (← c.self.view_is) at c.requires.room in
    let capacity = c.self.invariant.history none room in
    let fits : length c.in-OpenTake.history.now ≤ longest_history =
    history_fits (format_of c.in-OpenTake.rate c.in-OpenTake.channels c.in-OpenTake.bits) _
    (rw c.in-OpenTake.is at c.requires.fits) in
    c.extend_from_slice.ensures.succeeds (omega (arith, c.self.inside.history.ok.0))

pub invariant_of-self : goal.invariant_of-self
invariant_of-self c =
    let stored = rw (← c.self.view_is, c.in-OpenTake.is) at c.requires.stored in
    let fits = rw c.in-OpenTake.is at c.requires.fits in
    let none = opened_once _ _ _ stored in
    let format = some_where _ _ _ c.new-self-inside.ensures (opened_by_allowed _ _ _ stored) in
    let empty = ap (λ (p : Parts). p.history) (c.self.invariant.sound.unopened none) in
    let items = rw (c.unwrap.ensures, empty) at c.extend_from_slice.ensures.items in
    record {
      sound = rw (format, items)
          (IsSound-parts_with (parts_of c.self.inside) (Open _ _) c.self.invariant.sound stored fits
          (omega arith) c.self.invariant.sound.fields);
      history = λ none some. cc;
      markers = omega arith;
    }

pub returns-in-OpenTake-clause-parts : goal.returns-in-OpenTake-clause-parts
returns-in-OpenTake-clause-parts c =
    let stored = rw (← c.self.view_is, c.in-OpenTake.is) at c.requires.stored in
    let none = opened_once _ _ _ stored in
    let format = some_where _ _ _ c.new-self-inside.ensures (opened_by_allowed _ _ _ stored) in
    let empty = ap (λ (p : Parts). p.history) (c.self.invariant.sound.unopened none) in
    let items = rw (c.unwrap.ensures, empty) at c.extend_from_slice.ensures.items in
    rw (format, items, ← c.self.view_is, c.in-OpenTake.is) refl

pub returns-in-OpenTake-clause-takes : goal.returns-in-OpenTake-clause-takes
returns-in-OpenTake-clause-takes c =
    rw (returns-in-OpenTake-clause-parts c) (FollowsTakes-parts_with _ _ c.requires.stored)

pub unwrap-requires-in-SetField : goal.unwrap-requires-in-SetField
unwrap-requires-in-SetField c =
    let stored = rw (← c.self.view_is, c.in-SetField.is) at c.requires.stored in
    rw (c.set.ensures.reported, set_without_fault _ _ _ stored) refl

pub invariant_of-self-in-Block : goal.invariant_of-self-in-Block
invariant_of-self-in-Block c =
    let stored = rw (← c.self.view_is, c.in-Block.is) at c.requires.stored in
    let fits = rw c.in-Block.is at c.requires.fits in
    let bound = rw (← c.self.view_is, c.in-Block.is) at c.requires.samples in
    record {
      sound = IsSound-parts_with (parts_of c.self.inside)
          (Block _) c.self.invariant.sound stored fits bound c.self.invariant.sound.fields;
      history = λ none some. c.self.invariant.history none (omega arith);
      markers = omega arith;
    }

pub invariant_of-self-in-Mark : goal.invariant_of-self-in-Mark
invariant_of-self-in-Mark c =
    let stored = rw (← c.self.view_is, c.in-Mark.is) at c.requires.stored in
    let fits = rw c.in-Mark.is at c.requires.fits in
    record {
      sound = rw c.push_reserved.ensures.items
          (IsSound-parts_with (parts_of c.self.inside) (Mark _ _) c.self.invariant.sound stored fits
          (omega arith) c.self.invariant.sound.fields);
      history = λ none some. c.self.invariant.history none (omega arith);
      markers = omega arith;
    }

pub invariant_of-self-in-SetField : goal.invariant_of-self-in-SetField
invariant_of-self-in-SetField c =
    let stored = rw (← c.self.view_is, c.in-SetField.is) at c.requires.stored in
    let fits = rw c.in-SetField.is at c.requires.fits in
    let set = rw c.unwrap-in-SetField.ensures at c.set.ensures.ok in
    let widths = rw set at c.set.ensures.widths in
    record {
      sound = rw set (IsSound-parts_with (parts_of c.self.inside) (SetField _ _) c.self.invariant.sound stored fits
          (omega arith) widths);
      history = λ none some. c.self.invariant.history none (omega arith);
      markers = omega arith;
    }

pub invariant_of-self-in-CloseTake : goal.invariant_of-self-in-CloseTake
invariant_of-self-in-CloseTake c =
    let stored = rw (← c.self.view_is, c.in-CloseTake.is) at c.requires.stored in
    let fits = rw c.in-CloseTake.is at c.requires.fits in
    record {
      sound = IsSound-parts_with (parts_of c.self.inside) (Close _) c.self.invariant.sound stored fits
          (omega arith) c.self.invariant.sound.fields;
      history = λ none some. c.self.invariant.history none (omega arith);
      markers = omega arith;
    }
