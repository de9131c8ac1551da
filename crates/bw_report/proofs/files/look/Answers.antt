use Rattle.std.proofs.Common.{rules, ◌≡◌, ◌∙◌, true, false, sym}
use Rattle.bw_report.proofs.LookLemmas.{chunks_unread, found_as_wanted, found_inside, found_unread}
use Rattle.bw_report.proofs.files.look.Goals as goal

pub returns-then-not-shows_contents-clause-found : goal.returns-then-not-shows_contents-clause-found
returns-then-not-shows_contents-clause-found g c =
    let hides : c.shows_contents.result ≡ false = search rules in
    found_as_wanted g.E.Sink _ _ c.args.wanted _ _ _ _ _ _ _
    (chunks_unread _ _ (sym c.shows_contents.ensures ∙ hides)) c.look_over-found.ensures.found

pub returns-in-Read-clause-found : goal.returns-in-Read-clause-found
returns-in-Read-clause-found g c =
    let shows : c.shows_contents.result ≡ true = search rules in
    found_inside g.E.Sink _ _ _ _ c.args.wanted c.args.path.now _ _ _ _ _ _ _ _ _ _ _ c.in-Read.is
    c.look_over-found.ensures.files c.look_over-found.ensures.stamps c.look_over-found.ensures.found
    (c.look_inside.ensures.found c.args.wanted (sym c.shows_contents.ensures ∙ shows))

pub returns-in-Faulty-clause-found : goal.returns-in-Faulty-clause-found
returns-in-Faulty-clause-found g c =
    found_unread g.E.Sink _ _ c.args.wanted _ _ _ _ _ _ _ c.in-Faulty.is (λ b read met. met)
    c.look_over-found.ensures.found

pub returns-in-Unopened-clause-found : goal.returns-in-Unopened-clause-found
returns-in-Unopened-clause-found g c =
    found_unread g.E.Sink _ _ c.args.wanted _ _ _ _ _ _ _ c.in-Unopened.is (λ b read met. met)
    c.look_over-found.ensures.found
