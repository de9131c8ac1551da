-- Several recordings, one after the other.
use Rattle.std.proofs.Common.{◌≡◌, ◌≢◌, ◌∙◌, ◌∷◌, [], Bool, List, ap, arith, false, inl, inr, nat_lt, refl, subst, sym, true}
use Rattle.std.specs.Prelude.{if◌then◌else◌}
use Rattle.bw_console.specs.Exits.{status_of}
use Rattle.bw_console.specs.declared.exit.Exit.{Exit}
use Rattle.bw_console.specs.declared.exit.Exit.TheVariants.{Done, Refused, Usage, Device, Memory}
use Rattle.bw_program.specs.SeveralCommands.{DoesAfter, DoesInTurn}
use Rattle.bw_report.specs.FileFindings.{worse}

-- this was done after something that didn't lack memory
pub done_after : {W : Type 0} (does : Exit → W → W → Type 0) (said exit : Exit) (w w' : W) → said ≢ Memory →
    (done : Exit) × does done w w' × (exit ≡ worse said done) → DoesAfter does said exit w w'
done_after does Done exit w w' well done = done
done_after does Refused exit w w' well done = done
done_after does Usage exit w w' well done = done
done_after does Device exit w w' well done = done
done_after does Memory exit w w' well done = absurd (well refl)

-- nothing is better than success
pub worse_of_done : (exit : Exit) → worse Done exit ≡ exit
worse_of_done Done = refl
worse_of_done Refused = refl
worse_of_done Usage = refl
worse_of_done Device = refl
worse_of_done Memory = refl

pub done_is_best : (exit : Exit) → worse exit Done ≡ exit
done_is_best Done = refl
done_is_best Refused = refl
done_is_best Usage = refl
done_is_best Device = refl
done_is_best Memory = refl

-- nothing is worse than refused memory
pub memory_is_worst : (exit : Exit) → worse exit Memory ≡ Memory
memory_is_worst Done = refl
memory_is_worst Refused = refl
memory_is_worst Usage = refl
memory_is_worst Device = refl
memory_is_worst Memory = refl

by_tests : (one two three : Exit) (p q : Bool) → nat_lt (status_of one) (status_of two) ≡ p →
    nat_lt (status_of two) (status_of three) ≡ q → worse (worse one two) three ≡ worse one (worse two three)
by_tests one two three true true e f =
    let first : worse one two ≡ two = ap (λ (b : Bool). if b then two else one) e in
    let second : worse two three ≡ three = ap (λ (b : Bool). if b then three else two) f in
    let below : nat_lt (status_of one) (status_of three) ≡ true = grind arith in
    let both : worse one three ≡ three = ap (λ (b : Bool). if b then three else one) below in
    ap (λ (x : Exit). worse x three) first ∙ (second ∙ sym (ap (λ (x : Exit). worse one x) second ∙ both))
by_tests one two three true false e f =
    let first : worse one two ≡ two = ap (λ (b : Bool). if b then two else one) e in
    let second : worse two three ≡ two = ap (λ (b : Bool). if b then three else two) f in
    ap (λ (x : Exit). worse x three) first ∙ (second ∙ sym (ap (λ (x : Exit). worse one x) second ∙ first))
by_tests one two three false true e f =
    let first : worse one two ≡ one = ap (λ (b : Bool). if b then two else one) e in
    let second : worse two three ≡ three = ap (λ (b : Bool). if b then three else two) f in
    ap (λ (x : Exit). worse x three) first ∙ sym (ap (λ (x : Exit). worse one x) second)
by_tests one two three false false e f =
    let first : worse one two ≡ one = ap (λ (b : Bool). if b then two else one) e in
    let second : worse two three ≡ two = ap (λ (b : Bool). if b then three else two) f in
    let above : nat_lt (status_of one) (status_of three) ≡ false = grind arith in
    let both : worse one three ≡ one = ap (λ (b : Bool). if b then three else one) above in
    ap (λ (x : Exit). worse x three) first ∙ (both ∙ sym (ap (λ (x : Exit). worse one x) second ∙ first))

worse_of_three : (one two three : Exit) → worse (worse one two) three ≡ worse one (worse two three)
worse_of_three one two three = by_tests one two three _ _ refl refl

-- what is done with the rest goes on with what was done with those before, where this exit is the worst so far
abbrev pub GoesOn : {R W : Type 0} → (R → Exit → W → W → Type 0) → List R → List R → Exit → W → W → Type 0
GoesOn {R} {W} does all rest worst first now = (exit : Exit) (end : W) → DoesInTurn does rest exit now end →
    DoesInTurn does all (worse worst exit) first end

pub goes_on_at_first : {R W : Type 0} (does : R → Exit → W → W → Type 0) (all : List R) (w : W) →
    GoesOn does all all Done w w
goes_on_at_first does all w exit end done =
    subst (λ (e : Exit). DoesInTurn does all e w end) (sym (worse_of_done exit)) done

pub goes_on : {R W : Type 0} (does : R → Exit → W → W → Type 0) (all rest : List R) (r : R) (worst exit : Exit)
    (first now mid : W) → GoesOn does all (r ∷ rest) worst first now → does r exit now mid → exit ≢ Memory →
    GoesOn does all rest (worse worst exit) first mid
goes_on does all rest r worst exit first now mid before one well last end done =
    subst (λ (e : Exit). DoesInTurn does all e first end) (sym (worse_of_three worst exit last))
    (before (worse exit last) end (exit, mid, one, inr (well, (last, done, refl))))

pub stops_at_memory : {R W : Type 0} (does : R → Exit → W → W → Type 0) (all rest : List R) (r : R) (worst : Exit)
    (first now mid : W) → GoesOn does all (r ∷ rest) worst first now → does r Memory now mid →
    DoesInTurn does all Memory first mid
stops_at_memory does all rest r worst first now mid before one =
    subst (λ (e : Exit). DoesInTurn does all e first mid) (memory_is_worst worst)
    (before Memory mid (Memory, mid, one, inl (refl, refl, refl)))

pub ends_with_last : {R W : Type 0} (does : R → Exit → W → W → Type 0) (all : List R) (worst : Exit) (first now : W) →
    GoesOn does all [] worst first now → DoesInTurn does all worst first now
ends_with_last does all worst first now before =
    subst (λ (e : Exit). DoesInTurn does all e first now) (done_is_best worst) (before Done now (refl, refl))
