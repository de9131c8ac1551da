-- What is asked of a store for a request, by whether its file has it already.
use Rattle.std.proofs.Common.{◌≡◌, Bool, true, false, cond, [], Ok, Err, refl, sym, ◌∙◌, ap, subst}
use Rattle.std.proofs.Common.{inl, inr, not, ◌&&◌, ◌||◌}
use Rattle.bw_model.specs.Take.{Parts, Request, Open, Block, Mark, SetField, Close, Verdict, judge, is_stored}
use Rattle.bw_model.specs.declared.verdict.Verdict.{Verdict as Judgement}
use Rattle.bw_store.specs.StoreSteps.{WasAsked, WasAskedFirst}
use Rattle.bw_store.specs.declared.store.StoreFault.{StoreFault}
use Rattle.bw_store.specs.declared.store.TakeStore.{Ghosts as StoreGhosts}
use Rattle.bw_store.proofs.Asked.{gets_none, gets_as, first_as}
use Rattle.bw_file.specs.GrowingFiles.{Growing}
use Rattle.bw_session.specs.RequestWrites.{request_plan}
use Rattle.bw_session.specs.Executions.{Touches, judged_plan, AsksJudged}
use Rattle.bw_session.specs.NextNumbers.{is_written}
use Rattle.bw_session.specs.WriteOrders.{IsCarriedOut}

no_false : {A : Type 0} → false ≡ true → A
no_false e = cc

module _ (g : Growing) (p : Parts) (r : Request) (made : Bool) where
  planned_ahead : g.ahead ≡ true → judged_plan g p r made ≡ []
  planned_ahead has =
      ap (λ (v : Bool). cond v [] (cond (is_stored (judge p r)) (request_plan g p r made) [])) has

  planned_level : g.ahead ≡ false → judged_plan g p r made ≡ cond (is_stored (judge p r)) (request_plan g p r made) []
  planned_level level =
      ap (λ (v : Bool). cond v [] (cond (is_stored (judge p r)) (request_plan g p r made) [])) level

  planned_refused : g.ahead ≡ false → is_stored (judge p r) ≡ false → judged_plan g p r made ≡ []
  planned_refused level refused =
      planned_level level ∙ ap (λ (v : Bool). cond v (request_plan g p r made) []) refused

  planned_stored : g.ahead ≡ false → is_stored (judge p r) ≡ true → judged_plan g p r made ≡ request_plan g p r made
  planned_stored level stored =
      planned_level level ∙ ap (λ (v : Bool). cond v (request_plan g p r made) []) stored

-- what was asked for a request that is judged first
module _ {X : Type 0} (S : StoreGhosts X) (g : Growing) (p : Parts) (r : Request) (made tried : Bool) where
  pub asks_ahead : (v : Judgement) (x : X) → g.ahead ≡ true → AsksJudged S (Ok v) g p r made tried x x
  asks_ahead v x has = record {
    refused = λ no. refl;
    order = gets_as (planned_ahead g p r made has) (gets_none (S.calls x) (S.asked x));
    begun = tt;
  }

  pub asks_refused : (v : Judgement) (x : X) → g.ahead ≡ false → is_stored (judge p r) ≡ false →
      AsksJudged S (Ok v) g p r made tried x x
  asks_refused v x level refused = record {
    refused = λ no. refl;
    order = gets_as (planned_refused g p r made level refused) (gets_none (S.calls x) (S.asked x));
    begun = tt;
  }

  pub asks_written : (v : Judgement) (x y : X) → g.ahead ≡ false → is_stored (judge p r) ≡ true →
      WasAsked S (request_plan g p r made) x y → AsksJudged S (Ok v) g p r made tried x y
  asks_written v x y level stored asked = record {
    refused = λ no. no_false (sym no ∙ stored);
    order = gets_as (planned_stored g p r made level stored) asked;
    begun = tt;
  }

  pub asks_first : (fault : StoreFault) (x y : X) → g.ahead ≡ false → is_stored (judge p r) ≡ true →
      WasAskedFirst S (request_plan g p r tried) x y → AsksJudged S (Err fault) g p r made tried x y
  asks_first fault x y level stored asked = record {
    refused = λ no. no_false (sym no ∙ stored);
    order = tt;
    begun = first_as (planned_stored g p r tried level stored) asked;
  }

-- another try of a request that is carried out asks for nothing
pub nothing_left : (g : Growing) (p : Parts) (r : Request) (made : Bool) → IsCarriedOut g p r →
    judged_plan g p r made ≡ []
nothing_left g p r made (inl has) = planned_ahead g p r made has
nothing_left g p r made (inr unwritten) = by_file g.ahead refl
  where
    by_kind : (q : Request) → q ≡ r → g.ahead ≡ false → judged_plan g p q made ≡ []
    by_kind (Open f history) e level = planned_refused g p (Open f history) made level
        (subst (λ (x : Request). is_written (judge p x) x ≡ false) (sym e) unwritten)
    by_kind (Block bytes) e level = planned_refused g p (Block bytes) made level
        (subst (λ (x : Request). is_written (judge p x) x ≡ false) (sym e) unwritten)
    by_kind (SetField tag value) e level = planned_refused g p (SetField tag value) made level
        (subst (λ (x : Request). is_written (judge p x) x ≡ false) (sym e) unwritten)
    by_kind (Close total) e level = planned_refused g p (Close total) made level
        (subst (λ (x : Request). is_written (judge p x) x ≡ false) (sym e) unwritten)
    by_kind (Mark id frame) e level = by_verdict (is_stored (judge p (Mark id frame))) refl
      where
        by_verdict : (v : Bool) → is_stored (judge p (Mark id frame)) ≡ v → judged_plan g p (Mark id frame) made ≡ []
        by_verdict true stored = planned_stored g p (Mark id frame) made level stored
        by_verdict false refused = planned_refused g p (Mark id frame) made level refused

    by_file : (b : Bool) → g.ahead ≡ b → judged_plan g p r made ≡ []
    by_file true has = planned_ahead g p r made has
    by_file false level = by_kind r refl level

-- A request whose note failed is carried out.
pub carried_by : (g g' : Growing) (p : Parts) (r : Request) (v : Verdict) → v ≡ judge p r →
    g' ≡ record g { dirty = is_written v r || g.dirty; ahead = is_written v r || g.ahead } → IsCarriedOut g' p r
carried_by g g' p r v judged marked = go (is_written v r) refl
  where
    go : (w : Bool) → is_written v r ≡ w → IsCarriedOut g' p r
    go true written =
        inl (ap (λ (x : Growing). x.ahead) marked ∙ ap (λ (w : Bool). w || g.ahead) written)
    go false unwritten = inr (ap (λ (x : Verdict). is_written x r) (sym judged) ∙ unwritten)

-- One that a call of the store stopped isn't.
pub not_carried : (g : Growing) (p : Parts) (r : Request) → Touches p r → g.ahead ≡ false → IsCarriedOut g p r → ⊥
not_carried g p r touches level (inl has) = no_false (sym level ∙ has)
not_carried g p r touches level (inr unwritten) =
    no_false (sym unwritten ∙ ap (λ (v : Verdict). is_written v r) touches.stored
    ∙ ap (λ (m : Bool). not m && true) touches.unmarked)
