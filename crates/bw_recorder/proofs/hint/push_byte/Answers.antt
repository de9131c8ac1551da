use Rattle.std.proofs.Common.{◌≡◌, ◌∙◌, ◌++◌, ℕ, List, ap}
use Rattle.std.specs.Prelude.{codes, decimal}
use Rattle.bw_recorder.proofs.Joins.{joined}
use Rattle.bw_recorder.proofs.hint.push_byte.Goals as goal

pub returns : goal.returns
returns c =
    let key : List ℕ = c.args.key.now in
    let byte : List ℕ = decimal c.args.byte in
    let offset : List ℕ = decimal c.args.offset in
    let last : List ℕ = codes ": without --strict-texts it is cleaned\n" in
    let from_offset : List ℕ = offset ++ last in
    let from_at : List ℕ = codes " at " ++ from_offset in
    let from_byte : List ℕ = byte ++ from_at in
    let from_has : List ℕ = codes " has byte " ++ from_byte in
    let x3 : List ℕ = c.push_str-3.new.self.bytes in
    let x5 : List ℕ = c.push_str-5.new.self.bytes in
    let is_byte : c.push_str-4.new.self.bytes ≡ x3 ++ byte = c.push_str-4.ensures.bytes
    ∙ ap (λ (z : List ℕ). x3 ++ z) (c.format.ensures.text ∙ ap decimal c.from.ensures) in
    let is_offset : c.push_str-6.new.self.bytes ≡ x5 ++ offset = c.push_str-6.ensures.bytes
    ∙ ap (λ (z : List ℕ). x5 ++ z) c.format-2.ensures.text in
    joined c.args.line.now.bytes (codes "hint: ") (key ++ from_has) c.push_str.ensures.bytes
    (joined c.push_str.new.self.bytes key from_has c.push_str-2.ensures.bytes
    (joined c.push_str-2.new.self.bytes (codes " has byte ") from_byte c.push_str-3.ensures.bytes
    (joined x3 byte from_at is_byte
    (joined c.push_str-4.new.self.bytes (codes " at ") from_offset c.push_str-5.ensures.bytes
    (joined x5 offset last is_offset c.push_str-7.ensures.bytes)))))
