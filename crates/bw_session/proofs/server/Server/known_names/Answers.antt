use Rattle.std.proofs.Common.{sym, ◌∙◌, ap, ◌++◌}
use Rattle.std.proofs.lemmas.List.{append-nil}
use Rattle.bw_session.specs.KnownNames.{is_known_in}
use Rattle.bw_session.proofs.ListingForms.{book_listed, keys_listed}
use Rattle.bw_session.proofs.server.Server.known_names.Goals as goal

pub returns-clause-kept : goal.returns-clause-kept
returns-clause-kept g c =
    keys_listed c.args.self.now.sessions c.loop-name.names.items
    (sym (append-nil _) ∙ ap (λ xs. c.loop-name.names.items ++ xs) (sym c.in-None.ensures.steps.0)
    ∙ c.loop-name.invariant)
    c.keys-name-items.ensures.unique

pub returns-clause-value : goal.returns-clause-value
returns-clause-value g c = λ first book h.
    book_listed book (is_known_in c.args.self.now.sessions) c.loop-name.names.items h.holds.names
    (returns-clause-kept g c)
