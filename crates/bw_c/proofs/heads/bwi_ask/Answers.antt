use Rattle.std.proofs.Common.{◌≡◌, ◌<◌, ◌∙◌, length, List, ℕ, sym, subst, arith}
use Rattle.std.specs.Prelude.{IsTrue}
use Rattle.bw_model.specs.Wire.{Asks, is_name}
use Rattle.bw_wire.specs.EncodedFrames.{IsFrameOf}
use Rattle.bw_c.proofs.HeadLaws.{spelled_wrote, spelled_some, spelled_none, asks_named}
use Rattle.bw_c.specs.PlainSenders.{sender_name}
use Rattle.bw_c.proofs.heads.bwi_ask.Goals as goal

pub returns-in-Some-clause-wrote : goal.returns-in-Some-clause-wrote
returns-in-Some-clause-wrote c =
    spelled_wrote (Asks (sender_name c.args.sender.now) 0) c.ask_of.result.items _ _ _
    (subst (λ (name : List ℕ). IsFrameOf (Asks name 0) c.ask_of.result.items)
    (c.in-Some.ensures.1 ∙ c.name_bytes.ensures) c.ask_of.ensures.frame) c.put.ensures.room c.put.ensures.full

pub returns-in-Some-clause-some : goal.returns-in-Some-clause-some
returns-in-Some-clause-some c =
    spelled_some (Asks (sender_name c.args.sender.now) 0) c.ask_of.result.items _ _ _
    (subst (λ (name : List ℕ). IsFrameOf (Asks name 0) c.ask_of.result.items)
    (c.in-Some.ensures.1 ∙ c.name_bytes.ensures) c.ask_of.ensures.frame) c.ask_of.ensures.some c.put.ensures.room
    c.put.ensures.full

pub returns-in-Some-clause-none : goal.returns-in-Some-clause-none
returns-in-Some-clause-none c =
    spelled_none c.ask_of.result.items _ _ _ c.ask_of.ensures.some c.put.ensures.room c.put.ensures.full

pub returns-in-None-clause-some : goal.returns-in-None-clause-some
returns-in-None-clause-some c = (
  λ some. absurd (omega (arith, some)),
  λ w. absurd (c.in-None.ensures (subst (λ (b : List ℕ). IsTrue (is_name b)) (sym c.name_bytes.ensures)
      (asks_named (sender_name c.args.sender.now) (length c.args.out.now) w))),
)
