use Rattle.bw_session.proofs.OrderLaws.{waiting_in_order}
use Rattle.bw_kept.proofs.LeftFolders.{committed_books_are_covered, empty_servers_hold, left_books_lie_there}
use Rattle.bw_kept.proofs.laws.law_begins.Goals as goal

pub returns-clause-held : goal.returns-clause-held
returns-clause-held g c = empty_servers_hold g.S.TakeStore g.J.Journal

pub returns-clause-left : goal.returns-clause-left
returns-clause-left g c = left_books_lie_there

pub returns-clause-covered : goal.returns-clause-covered
returns-clause-covered g c = committed_books_are_covered _ _ (waiting_in_order _ _)
