-- What a write leaves of a content that is known in parts.
use Rattle.std.proofs.Common.{◌≡◌, ℕ, ◌+◌, ◌-◌, List, [], ◌∷◌, ◌++◌, length, take, drop, Option, Some, refl, sym, ◌∙◌}
use Rattle.std.proofs.Common.{ap, arith, append_assoc, length-append}
use Rattle.std.proofs.lemmas.List.{append-nil, drop_at, take_at}
use Rattle.std.proofs.Math.Seq.{drop-append-add}
use Rattle.bw_store.specs.Stores.{overwritten, Written}
use Rattle.bw_store.proofs.Tears.{written_is}

-- bytes written where others end
overwritten-append : (base rest bytes : List ℕ) (place : ℕ) → length base ≡ place →
    overwritten (base ++ rest) place bytes ≡ base ++ (bytes ++ drop (length bytes) rest)
overwritten-append base rest [] place e = refl
overwritten-append base rest (byte ∷ more) place e =
    let bytes = byte ∷ more in
    let long : length (base ++ rest) ≡ length base + length rest = length-append base rest in
    let gap : place - length (base ++ rest) ≡ 0 = omega (arith, long) in
    let prefix : take place (base ++ rest) ≡ base = take_at base rest place e in
    let back : drop (place + length bytes) (base ++ rest) ≡ drop (length bytes) rest =
    rw (sym e) (drop-append-add base rest (length bytes)) in
    rw (prefix, gap, back, append-nil base) (append_assoc base bytes (drop (length bytes) rest))

pub put_after : (before after : Option (List ℕ)) (base rest bytes : List ℕ) (place : ℕ) →
    before ≡ Some (base ++ rest) → length base ≡ place → Written before place bytes after →
    after ≡ Some (base ++ (bytes ++ drop (length bytes) rest))
put_after before after base rest bytes place e h w =
    written_is before after (base ++ rest) place bytes e w ∙ ap Some (overwritten-append base rest bytes place h)

-- bytes written over as many others
pub put_over : (before after : Option (List ℕ)) (base old tail bytes : List ℕ) (place : ℕ) →
    before ≡ Some (base ++ (old ++ tail)) → length base ≡ place → length old ≡ length bytes →
    Written before place bytes after → after ≡ Some (base ++ (bytes ++ tail))
put_over before after base old tail bytes place e h l w =
    put_after before after base (old ++ tail) bytes place e h w
    ∙ ap (λ (r : List ℕ). Some (base ++ (bytes ++ r))) (drop_at old tail (length bytes) l)
