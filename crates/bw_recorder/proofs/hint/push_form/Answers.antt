use Rattle.std.proofs.Common.{◌++◌, ℕ, List}
use Rattle.std.specs.Prelude.{codes}
use Rattle.bw_recorder.proofs.Joins.{joined}
use Rattle.bw_recorder.proofs.hint.push_form.Goals as goal

pub returns : goal.returns
returns c =
    let key : List ℕ = c.args.key.now in
    let last : List ℕ = codes " has another form: without --strict-texts it is cleaned or left out\n" in
    joined c.args.line.now.bytes (codes "hint: ") (key ++ last) c.push_str.ensures.bytes
    (joined c.push_str.new.self.bytes key last c.push_str-2.ensures.bytes c.push_str-3.ensures.bytes)
