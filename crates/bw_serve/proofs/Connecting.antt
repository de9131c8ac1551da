-- What is answered over filtered links, from what is answered over any.
use Rattle.std.proofs.Common.{◌≡◌, ℕ, Bool, true, List, [], ◌∷◌, sym, ap, ◌∙◌}
use Rattle.std.specs.List.{AllByRecursion}
use Rattle.bw_model.specs.Wire.{Second}
use Rattle.bw_model.specs.Stream.{stream_of}
use Rattle.bw_exchange.specs.AnsweredFrames.{Answered}
use Rattle.bw_connections.specs.declared.connections.Closed.{Closed}
use Rattle.bw_connections.specs.declared.connections.Connections.{Connections}
use Rattle.bw_connections.specs.ConnectionTables.{Tagged, own}
use Rattle.bw_connections.specs.ConnectionBytes.{ServesConnection, EndsLink, ServesEachConnection}
use Rattle.bw_ports.specs.declared.link.Link.{Ghosts as LinkGhosts}
use Rattle.bw_serve.specs.Filters.{starting, filtered}
use Rattle.bw_serve.specs.FilteredBytes.{GivesFiltered}
use Rattle.bw_serve.specs.OneName.{OneNameIsLeft}
use Rattle.bw_serve.specs.OneNameAnswers.{AnswersOneName, EachAnswersOneName}
use Rattle.bw_serve.specs.declared.filtered_link.FilteredLink.{FilteredLink}

module _ {L : Type 0} (F : LinkGhosts (FilteredLink L)) (G : LinkGhosts L)
    (through : (link : FilteredLink L) (bytes : List ℕ) → F.given link bytes →
    GivesFiltered (G.given link.link) link.one_name link.filter bytes) (law : OneNameIsLeft) where
  one_connection : (link : FilteredLink L) (answered : List Answered) → ServesConnection F link answered →
      link.one_name ≡ true → AnswersOneName F G link answered
  one_connection link answered s on =
      let g = through link s.input s.exchanged.given in
      let input : s.input ≡ filtered (starting true) g.came =
      g.through ∙ ap (λ (b : Bool). filtered (starting b) g.came) on in
      record {
        came = g.came;
        by_link = g.by_link;
        later = s.exchanged.prefix.0;
        frames = λ fits. sym (law g.came fits).frames
            ∙ ap (λ (xs : List ℕ). (stream_of Second xs).0) (sym input) ∙ s.exchanged.prefix.1;
      }

  all_over : (trace : List Tagged) (over : List (Closed (FilteredLink L))) →
      AllByRecursion (λ x. EndsLink F x.end x.link (own x.number trace)) over
      → AllByRecursion (λ x. x.link.one_name ≡ true → AnswersOneName F G x.link (own x.number trace)) over
  all_over trace [] s = tt
  all_over trace (x ∷ xs) s = (one_connection x.link (own x.number trace) s.0.serves, all_over trace xs s.1)

  pub each_answers : (m : Connections (FilteredLink L)) (over : List (Closed (FilteredLink L))) (trace : List Tagged) →
      ServesEachConnection F m over trace → EachAnswersOneName F G m over trace
  each_answers m over trace s = record {
    stands = λ i c held. one_connection c.link (own c.number trace) (s.stands i c held);
    ended = all_over trace over s.ended;
  }
