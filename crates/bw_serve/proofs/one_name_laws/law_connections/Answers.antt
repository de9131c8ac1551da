use Rattle.bw_serve.proofs.Connecting.{each_answers}
use Rattle.bw_serve.proofs.one_name_laws.law_connections.Goals as goal

pub returns : goal.returns
returns g c m over trace keeps =
    each_answers _ g.L.Link (λ link bytes given. given) c.law_one_name.ensures m over trace
    (c.law_connections.ensures m over trace keeps)
