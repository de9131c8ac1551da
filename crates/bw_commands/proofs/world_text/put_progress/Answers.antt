use Rattle.std.proofs.Common.{sym, ◌∙◌, ap}
use Rattle.std.specs.Prelude.{List, ℕ, unwrap_or}
use Rattle.bw_model.specs.Book.{log_of}
use Rattle.bw_commands.specs.RehearsedWorlds.{no_contents}
use Rattle.bw_commands.proofs.WorldLemmas.{on_ok, done_reported, same_progress}
use Rattle.bw_commands.proofs.world_text.put_progress.Goals as goal

pub returns : goal.returns
returns c =
    on_ok c.put_progress_of.result c.put_progress_of.ensures (λ put w h named.
    put ∙ same_progress c.args.out.now.items _ _ _ _ _ _
    (c.unwrap_or-done.ensures ∙ ap (λ o. unwrap_or o 0) (c.done.ensures.value no_contents w.book h.held)
    ∙ done_reported w.book c.args.name.now ∙ ap (λ (n : List ℕ). (log_of w.book n).done) (sym named))
    (c.settled.ensures.value w.sender h.sender) (c.stored.ensures w.sender h.sender))
