use Rattle.std.proofs.Common.{◌≡◌, ◌≢◌, ◌+◌, ◌∙◌, ◌++◌, Option, Some, None, List, ℕ, ap, arith, codes, length, rules, sym}
use Rattle.std.proofs.lemmas.List.{length-append}
use Rattle.bw_ports.specs.Purposes.{line_of, purpose_text}
use Rattle.bw_ports.specs.declared.spool_purpose.Purpose.{Purpose}
use Rattle.bw_live.specs.BegunSpools.{moment_line}
use Rattle.bw_live.proofs.BegunLines.{line_head, line_parts, line_tail, moment_found, plain_parts}
use Rattle.bw_live.proofs.begun_spool.begun_in.Goals as goal

-- how many bytes come before a moment, and how many after it
before_moment : (p : Purpose) → length (line_head p) ≡ 12 + length p.name.now
before_moment p = omega (arith, length-append p.name.now (codes " began="))

after_moment : (p : Purpose) (plain : List ℕ) → plain ≡ line_of p
    → length plain ≡ 5 + length p.name.now + length (line_tail p)
after_moment p plain is =
    let whole : length plain ≡ length (codes "name=" ++ p.name.now) + length (line_tail p) =
    ap length (is ∙ plain_parts p) ∙ length-append (codes "name=" ++ p.name.now) (line_tail p) in
    omega (arith, whole, length-append (codes "name=") p.name.now)

pub returns-in_default : goal.returns-in_default
returns-in_default c ms small is =
    let p = c.args.purpose.now in
    let plain = after_moment p c.in_ok-plain.plain.items c.in_ok-plain.ensures in
    let after : length (line_tail p) ≡ c.saturating_sub-after.result =
    omega (arith, plain, c.saturating_sub-after.ensures, c.len.ensures, c.in_ok-plain.plain.ok) in
    let found = c.number_between.ensures ms small (line_head p) (line_tail p) (is ∙ line_parts p ms)
    (before_moment p) after in
    let bad : ◌≡◌ {A = Option ℕ} None (Some ms) = sym c.in_default.is ∙ found in cc

pub returns : goal.returns
returns c ms small is =
    let p = c.args.purpose.now in
    let plain = after_moment p c.in_ok-plain.plain.items c.in_ok-plain.ensures in
    let after : length (line_tail p) ≡ c.saturating_sub-after.result =
    omega (arith, plain, c.saturating_sub-after.ensures, c.len.ensures, c.in_ok-plain.plain.ok) in
    let found = c.number_between.ensures ms small (line_head p) (line_tail p) (is ∙ line_parts p ms)
    (before_moment p) after in
    let made : c.in_ok-line.line.items ≡ moment_line p (Some c.in-Some.moment) =
    c.in_ok-line.ensures ∙ ap (λ (l : List ℕ). purpose_text l p.rate p.channels p.bits p.skip)
    (c.as_slice.ensures.value ∙ c.in_ok-name.ensures) in
    let same = moment_found p c.args.text.now _ ms c.in-Some.moment small is (sym c.in-Some.is ∙ found) made in
    let different : c.in_ok-line.line.items ≢ c.args.text.now = search rules in different same
