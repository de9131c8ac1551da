-- The fields of each take that done numbers make.
use Rattle.std.proofs.Common.{◌≡◌, Bool, true, false, List, [], ◌∷◌, take, Option, Some, None, refl, subst, arith}
use Rattle.std.specs.List.{list_all}
use Rattle.std.proofs.lemmas.Bool.{and_parts, and_from}
use Rattle.bw_model.specs.Take.{Take, Request, AreFields}
use Rattle.bw_model.specs.Wire.{is_request}
use Rattle.bw_model.specs.Book.{Log, made}
use Rattle.bw_model.specs.ReadBack.{is_admitted}
use Rattle.bw_model.proofs.MadeTakes.{is_made}
use Rattle.bw_journal.specs.NotedJournals.{AdmitsDone, fits}
use Rattle.bw_journal.proofs.CutLaws.{made-cut}

false_true : false ≡ true → ⊥
false_true e = cc

admitted : (s : List (Option Request)) → list_all fits s ≡ true → list_all is_admitted s ≡ true
admitted [] h = refl
admitted (None ∷ s) h = absurd (false_true h)
admitted (Some r ∷ s) h =
    let both = and_parts (is_request r) (list_all fits s) h in
    and_from (is_request r) (list_all is_admitted s) both.0 (admitted s both.1)

pub made_fields : (taken : Bool) (log : Log) → AdmitsDone log → AreFields (made taken log.admitted log.done).fields
made_fields taken log h =
    subst (λ (t : Take). AreFields t.fields) (made-cut taken log.admitted log.done log.done (omega arith))
    (is_made taken (take log.done log.admitted) log.done (admitted (take log.done log.admitted) h.each)).fields
