use Rattle.std.proofs.Common.{◌≡◌, ◌∙◌, List, ℕ, inl, inr, refl, ap}
use Rattle.bw_console.specs.Prints.{IsOf}
use Rattle.bw_ports.specs.Kinds.{hint_words, kind_words, odd_line}
use Rattle.bw_ports.proofs.kind_refusing.refuse_kind.Goals as goal

pub returns-in_default : goal.returns-in_default
returns-in_default g c =
    let l = c.give_up.ensures.line in
    (l.0, inr (c.give_up.ensures.exit, l.1), l.2)

pub returns : goal.returns
returns g c =
    let l = c.print_diagnostic.ensures in
    let text : List ℕ =
    odd_line c.args.path.now (kind_words c.args.kind) (hint_words c.args.kind c.args.is_spool) in
    let is : c.as_bytes.result.now ≡ text =
    c.as_bytes.ensures.value ∙ c.as_str.ensures.value ∙ c.in-Ok.ensures
    ∙ ap (λ (w : List ℕ). odd_line c.args.path.now w c.hint.result.now) c.words.ensures
    ∙ ap (odd_line c.args.path.now (kind_words c.args.kind)) c.hint.ensures in
    let reported : IsOf text l.0 = rw is at l.1 in
    (l.0, inl (refl, reported), l.2)
