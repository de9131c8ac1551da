-- When a name grew last, place by place.
use Rattle.std.proofs.Common.{◌≡◌, ◌<◌, ◌∙◌, ℕ, zero, suc, true, false, List, [], ◌∷◌, length, get_or, drop, refl, sym, ap, arith}
use Rattle.std.specs.Prelude.{None}
use Rattle.std.specs.Str.{bytes_eq}
use Rattle.bw_serve_status.specs.declared.growth.Growth.{Growth}
use Rattle.bw_serve_status.specs.declared.name_tally.NameTally.{NameTally}
use Rattle.bw_serve_status.specs.Growths.{grown_at}

-- there is no growth of a name where there is none of any
pub grown_none : (name : List ℕ) (ts : List NameTally) (gs : List Growth) → gs ≡ [] → grown_at name ts gs ≡ None
grown_none name [] gs e = refl
grown_none name (t ∷ ts) gs e = rw e refl

-- nor of one that comes later, where the counts end
pub grown_past : (name : List ℕ) (ts : List NameTally) (gs : List Growth) → ts ≡ [] → grown_at name ts gs ≡ None
grown_past name ts gs e = rw e refl

other_first : (name : List ℕ) (t : NameTally) (g : Growth) (ts : List NameTally) (gs : List Growth) →
    bytes_eq t.name name ≡ false → grown_at name (t ∷ ts) (g ∷ gs) ≡ grown_at name ts gs
other_first name t g ts gs other = rw other refl

-- that of the first name is another's
pub grown_later : (name : List ℕ) (ts : List NameTally) (gs : List Growth) (i : ℕ) (t : NameTally) → i < length ts →
    i < length gs → t ≡ get_or ts i t → bytes_eq t.name name ≡ false →
    grown_at name (drop i ts) (drop i gs) ≡ grown_at name (drop (suc i) ts) (drop (suc i) gs)
grown_later name [] gs i t less lesser is other = absurd (omega (arith, less))
grown_later name (x ∷ ts) [] i t less lesser is other = absurd (omega (arith, lesser))
grown_later name (x ∷ ts) (g ∷ gs) zero t less lesser is other =
    other_first name x g ts gs (ap (λ y. bytes_eq y.name name) (sym is) ∙ other)
grown_later name (x ∷ ts) (g ∷ gs) (suc i) t less lesser is other =
    grown_later name ts gs i t (omega (arith, less)) (omega (arith, lesser)) is other

-- at the place of a name it is that of the name
pub grown_here : (name : List ℕ) (ts : List NameTally) (gs : List Growth) (i : ℕ) (t : NameTally) (g : Growth) →
    i < length ts → i < length gs → t ≡ get_or ts i t → g ≡ get_or gs i g → bytes_eq t.name name ≡ true →
    g.at ≡ grown_at name (drop i ts) (drop i gs)
grown_here name [] gs i t g less lesser is there same = absurd (omega (arith, less))
grown_here name (x ∷ ts) [] i t g less lesser is there same = absurd (omega (arith, lesser))
grown_here name (x ∷ ts) (y ∷ gs) zero t g less lesser is there same =
    rw (ap (λ z. bytes_eq z.name name) (sym is) ∙ same) (ap (λ z. z.at) there)
grown_here name (x ∷ ts) (y ∷ gs) (suc i) t g less lesser is there same =
    grown_here name ts gs i t g (omega (arith, less)) (omega (arith, lesser)) is there same
