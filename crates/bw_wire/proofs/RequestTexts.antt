-- A request that was read fits.
use Rattle.std.proofs.Common.{◌≡◌, ℕ, List, [], ◌∷◌, Bool, true, false, refl, ap, subst, arith, ◌&&◌, not, Result, Ok, Err}
use Rattle.std.specs.Prelude.{nat_le}
use Rattle.std.proofs.lemmas.Bool.{leb-true}
use Rattle.bw_model.specs.Bytes.{is_within, first_that_holds, unless}
use Rattle.bw_model.specs.Wire.{are_bytes, is_request, is_payload, request_of, decoded_request}
use Rattle.bw_model.specs.Wire.{Reason, Kind, Payload}
use Rattle.bw_model.proofs.Payloads.{payload_from_test}
use Rattle.bw_model.specs.Take.{Request}

abbrev ok_of : Request → Result Request Reason → Request
ok_of d (Ok x) = x
ok_of d (Err e) = d

ok_inj : (x y : Request) → ◌≡◌ {A = Result Request Reason} (Ok x) (Ok y) → x ≡ y
ok_inj x y e = ap (ok_of x) e

and_parts : (a b : Bool) → (a && b) ≡ true → (a ≡ true) × (b ≡ true)
and_parts true b h = (refl, h)
and_parts false b h = absurd (cc)

pub decoded_fits : (bytes : List ℕ) (r : Request) → are_bytes bytes ≡ true → decoded_request bytes ≡ Ok r →
    is_request r ≡ true
decoded_fits [] r fits e = absurd (cc)
decoded_fits (kind ∷ p) r fits e = go (is_within 1 5 kind) (is_payload kind p) refl refl e
  where
    go : (w y : Bool) → is_within 1 5 kind ≡ w → is_payload kind p ≡ y →
        unless (first_that_holds ((not w, Kind) ∷ (not y, Payload) ∷ [])) (request_of kind p) ≡ Ok r →
        is_request r ≡ true
    go true true w y e =
        let five = leb-true kind 5 (and_parts (nat_le 1 kind) (nat_le kind 5) w).1 in
        subst (λ (z : Request). is_request z ≡ true) (ok_inj (request_of kind p) r e)
        (payload_from_test kind p (and_parts _ (are_bytes p) fits).1 y (λ six. omega (arith, five, six))).fits
    go true false w y e = absurd (cc)
    go false y w x e = absurd (cc)
