use Rattle.std.proofs.Common.{◌≡◌, List, ℕ, rules, sym, ◌∙◌, ap, subst}
use Rattle.std.specs.Prelude.{IsTrue, ◌≤◌, length}
use Rattle.sha2.specs.Sha256.{sha256}
use Rattle.bw_model.specs.Stream.{longest_body}
use Rattle.bw_wire.specs.Bodies.{is_message_body}
use Rattle.bw_wire.proofs.BodyLaws.{message_spelled}
use Rattle.bw_session.proofs.body.HeldBody.copy_to.Goals as goal

pub invariant_of-result : goal.invariant_of-result
invariant_of-result c =
    let b : List ℕ = c.args.message.now.body.now in
    let same : c.body.result.now ≡ b =
    c.body.ensures.spelled.spelled ∙ sym (message_spelled b c.args.message.now.spells).spelled in
    let copied : c.extend_from_slice.new.self.items ≡ c.body.result.now = search rules in
    let e : b ≡ c.extend_from_slice.new.self.items = sym (copied ∙ same) in
    record {
      message = subst (λ (x : List ℕ). IsTrue (is_message_body x)) e c.args.message.now.spells;
      length = subst (λ (x : List ℕ). length x ≤ longest_body) (sym copied) c.body.ensures.length;
      summed = c.requires.digest ∙ ap sha256 (sym (copied ∙ c.body.ensures.spelled.spelled));
    }
