use Rattle.std.proofs.Common.{◌≡◌, ◌∙◌, ap, [], ℕ, ◌-◌, ◌/◌, List, Option, Some, drop, length, string_bytes}
use Rattle.std.proofs.lemmas.Result.{on_ok_weaker}
use Rattle.bw_ports.specs.StateReadings.{lines_after}
use Rattle.bw_live.specs.MarkLooks.{keeping_of}
use Rattle.bw_live.proofs.SeenSteps.{look_saw, look_saw_nothing, look_saw_some, none_then, on_any_error, on_error_weaker, sees_ended}
use Rattle.bw_live.proofs.SeenSteps.{sees_some_same, stays_from}
use Rattle.bw_live.proofs.keeper.MarkKeeper.look.Goals as goal

pub returns-then-self-clause-seen : goal.returns-then-self-clause-seen
returns-then-self-clause-seen g c = sees_ended g.F.MarkFiles g.E.Sink (keeping_of c.args.self.now) c.if-self.true

pub returns-in_err-bytes-clause-failed : goal.returns-in_err-bytes-clause-failed
returns-in_err-bytes-clause-failed g c = on_any_error _
    (sees_some_same g.F.MarkFiles g.E.Sink [] (keeping_of c.args.self.now) c.read.new.self c.read.ensures.kept)

pub returns-then-is_none-clause-seen : goal.returns-then-is_none-clause-seen
returns-then-is_none-clause-seen g c =
    look_saw_nothing g.F.MarkFiles g.E.Sink (keeping_of c.args.self.now) _ _ c.read.ensures.kept c.if-self.false
    (none_then _ _ c.if-is_none.ensures c.first_line.ensures.line)
    (λ b e. c.after_lines-new.ensures
    ∙ ap (λ (z : List ℕ). drop c.args.self.now.kept.lines (lines_after [] z))
    (c.as_slice.ensures.value
    ∙ c.in_ok-bytes.ensures.ok b
    (ap (g.F.MarkFiles.bytes_at c.args.self.now.files) c.as_str.ensures.value ∙ e)))

pub returns-in_err-len-clause-failed : goal.returns-in_err-len-clause-failed
returns-in_err-len-clause-failed g c = on_any_error _
    (sees_some_same g.F.MarkFiles g.E.Sink [] (keeping_of c.args.self.now) c.len.new.self
    (c.len.ensures.kept ∙ c.read.ensures.kept))

pub returns-clause-seen : goal.returns-clause-seen
returns-clause-seen g c =
    let self = c.args.self.now in
    on_ok_weaker c.take_all.result
    (look_saw g.F.MarkFiles g.E.Sink (keeping_of self) _ c.len.new.self _ _
    (c.len.ensures.kept ∙ c.read.ensures.kept) c.if-self.false
    (λ xs is.
    let len : c.in_ok-len.len ≡ length xs =
    c.in_ok-len.ensures.ok xs
    (ap (λ (z : List ℕ → Option (List ℕ)). z c.as_str-2.result.now) c.read.ensures.kept
    ∙ ap (g.F.MarkFiles.bytes_at self.files) c.as_str-2.ensures.value ∙ is) in
    ap (λ (n : ℕ). n / c.from.result) (c.saturating_sub.ensures ∙ ap (λ (n : ℕ). n - self.skip) len)
    ∙ ap (λ (n : ℕ). (length xs - self.skip) / n) (c.from.ensures ∙ c.max.ensures))
    (λ b e. c.after_lines-new.ensures
    ∙ ap (λ (z : List ℕ). drop self.kept.lines (lines_after [] z))
    (c.as_slice.ensures.value
    ∙ c.in_ok-bytes.ensures.ok b (ap (g.F.MarkFiles.bytes_at self.files) c.as_str.ensures.value ∙ e))))
    c.take_all.ensures.seen

pub returns-clause-failed : goal.returns-clause-failed
returns-clause-failed g c =
    let self = c.args.self.now in
    on_error_weaker c.take_all.result
    (look_saw_some g.F.MarkFiles g.E.Sink (keeping_of self) _ c.len.new.self _ _
    (c.len.ensures.kept ∙ c.read.ensures.kept) c.if-self.false
    (λ xs is.
    let len : c.in_ok-len.len ≡ length xs =
    c.in_ok-len.ensures.ok xs
    (ap (λ (z : List ℕ → Option (List ℕ)). z c.as_str-2.result.now) c.read.ensures.kept
    ∙ ap (g.F.MarkFiles.bytes_at self.files) c.as_str-2.ensures.value ∙ is) in
    ap (λ (n : ℕ). n / c.from.result) (c.saturating_sub.ensures ∙ ap (λ (n : ℕ). n - self.skip) len)
    ∙ ap (λ (n : ℕ). (length xs - self.skip) / n) (c.from.ensures ∙ c.max.ensures))
    (λ b e. c.after_lines-new.ensures
    ∙ ap (λ (z : List ℕ). drop self.kept.lines (lines_after [] z))
    (c.as_slice.ensures.value
    ∙ c.in_ok-bytes.ensures.ok b (ap (g.F.MarkFiles.bytes_at self.files) c.as_str.ensures.value ∙ e))))
    c.take_all.ensures.failed

pub returns-clause-stays : goal.returns-clause-stays
returns-clause-stays g c =
    stays_from g.F.MarkFiles g.E.Sink (keeping_of c.args.self.now) _ _ (c.len.ensures.kept ∙ c.read.ensures.kept) c.take_all.ensures.stays
