use Rattle.std.proofs.Common.{arith, ◌≡◌, ◌∙◌, ◌+◌, ◌<◌, ℕ, List, [], ◌∷◌, take, drop, length, ap, sym}
use Rattle.std.proofs.lemmas.Grind.{common_steps}
use Rattle.std.proofs.lemmas.List.{take_rest, length-drop}
use Rattle.std.specs.List.{position_or_len}
use Rattle.std.specs.Io.BufRead.{strip_last}
use Rattle.bw_console.specs.Lines.{is_line_end}
use Rattle.bw_console.proofs.LineLemmas.{line_ended, line_rests, no_lines}
use Rattle.bw_console.proofs.input.first_line.Goals as goal

pub returns-then-end-bytes-clause-lines : goal.returns-then-end-bytes-clause-lines
returns-then-end-bytes-clause-lines c =
    let xs : List ℕ = c.args.bytes.now in
    let at : c.line_end-end.result ≡ position_or_len is_line_end xs = c.line_end-end.ensures.value in
    let below : position_or_len is_line_end xs < length xs = rw at at c.if-end-bytes.true in
    let line : c.without_return.result.now ≡ strip_last 13 (take (position_or_len is_line_end xs) xs) =
    rw at at c.without_return.ensures.value in
    rw (take_rest xs (c.line_end-end.result + 1), at, line) (line_ended [] xs below)

pub returns-else-end-bytes-clause-lines : goal.returns-else-end-bytes-clause-lines
returns-else-end-bytes-clause-lines c =
    let xs : List ℕ = c.args.bytes.now in
    let at : position_or_len is_line_end xs ≡ length xs = let v = c.line_end-end.ensures.value in let w =
    c.line_end-end.ensures.within in let f = c.if-end-bytes.false in omega arith in
    rw (take_rest xs c.line_end-end.result)
    (line_rests [] xs at c.requires
    ∙ ap (λ (z : List (List ℕ)). xs ∷ z)
    (sym (no_lines (drop c.line_end-end.result xs)
    (let f = c.if-end-bytes.false in let d = length-drop c.line_end-end.result xs in grind (arith, common_steps)))))
