-- Two readers that are printed one after the other.
use Rattle.std.proofs.Common.{◌≡◌, ◌∙◌, ℕ, List, [], ◌++◌, Option, Some, None, Result, Ok, Err, refl, sym, ap}
use Rattle.std.specs.Prelude.{unwrap_or}
use Rattle.std.proofs.lemmas.List.{append_assoc}
use Rattle.bw_stream.specs.Moves.{one_more}
use Rattle.bw_stream.specs.declared.sink.Sink.{Ghosts as Writer}
use Rattle.bw_model.proofs.Elements.{some_inj}
use Rattle.bw_repair.specs.JoinedPrints.{FailsToPrint, PrintsBytes, PrintsPrefix, PrintsWhole}
use Rattle.bw_repair.specs.JoinedPrints.{StopsPrint, both_left}
use Rattle.bw_repair.specs.declared.left_out.printing.PrintFault.{PrintFault}
use Rattle.bw_repair.specs.declared.left_out.printing.PrintFault.TheVariants.{Unread, Unwritable}
use Rattle.bw_repair.proofs.PrintLaws.{begins_more, begins_on, writes_on}

-- what both have left is what each has
of_both : (x y : Option (List ℕ)) (c : List ℕ) → both_left x y ≡ Some c →
    (a : List ℕ) × ((b : List ℕ) × ((x ≡ Some a) × ((y ≡ Some b) × (a ++ b ≡ c))))
of_both None y c e = absurd (cc)
of_both (Some a) None c e = absurd (cc)
of_both (Some a) (Some b) c e = (a, (b, (refl, (refl, some_inj e))))

-- all of the first, and then of the second
whole_whole : {W : Type 0} (w : Writer W) (x y : Option (List ℕ)) (old mid new : W) → PrintsWhole w x old mid →
    PrintsWhole w y mid new → PrintsWhole w (both_left x y) old new
whole_whole w x y old mid new f s = record {
  text = f.text ++ s.text;
  is = λ c e.
      let p = of_both x y c e in
      ap (λ (z : List ℕ). z ++ s.text) (f.is p.0 p.1.1.0) ∙ ap (λ (z : List ℕ). p.0 ++ z) (s.is p.1.0 p.1.1.1.0)
      ∙ p.1.1.1.1;
  wrote = writes_on (w.written old) (w.written mid) (w.written new) f.text s.text f.wrote s.wrote;
  counted = s.counted ∙ f.counted;
}

whole_part : {W : Type 0} (w : Writer W) (x y : Option (List ℕ)) (old mid new : W) → PrintsWhole w x old mid →
    PrintsPrefix w y mid new → PrintsPrefix w (both_left x y) old new
whole_part w x y old mid new f s = record {
  text = f.text ++ s.text;
  rest = s.rest;
  is = λ c e.
      let p = of_both x y c e in
      append_assoc f.text s.text s.rest ∙ ap (λ (z : List ℕ). z ++ (s.text ++ s.rest)) (f.is p.0 p.1.1.0)
      ∙ ap (λ (z : List ℕ). p.0 ++ z) (s.is p.1.0 p.1.1.1.0) ∙ p.1.1.1.1;
  wrote = writes_on (w.written old) (w.written mid) (w.written new) f.text s.text f.wrote s.wrote;
  counted = s.counted ∙ f.counted;
}

whole_fails : {W : Type 0} (w : Writer W) (x y : Option (List ℕ)) (old mid new : W) → PrintsWhole w x old mid →
    FailsToPrint w y mid new → FailsToPrint w (both_left x y) old new
whole_fails w x y old mid new f s = record {
  text = f.text ++ s.text;
  is = λ c e.
      let p = of_both x y c e in
      ap (λ (z : List ℕ). z ++ s.text) (f.is p.0 p.1.1.0) ∙ ap (λ (z : List ℕ). p.0 ++ z) (s.is p.1.0 p.1.1.1.0)
      ∙ p.1.1.1.1;
  begun = begins_on (w.written old) (w.written mid) (w.written new) f.text s.text f.wrote s.begun;
  counted = s.counted ∙ ap one_more f.counted;
}

pub second_printed : {W : Type 0} (w : Writer W) (x y : Option (List ℕ)) (r : Result (Unit {0}) PrintFault)
    (old mid new : W) → PrintsWhole w x old mid → PrintsBytes w y r mid new → PrintsBytes w (both_left x y) r old new
second_printed w x y (Ok z) old mid new f s = whole_whole w x y old mid new f s
second_printed w x y (Err (Unread at)) old mid new f s = whole_part w x y old mid new f s
second_printed w x y (Err Unwritable) old mid new f s = whole_fails w x y old mid new f s

-- the first stops
first_part : {W : Type 0} (w : Writer W) (x y : Option (List ℕ)) (old new : W) → PrintsPrefix w x old new →
    PrintsPrefix w (both_left x y) old new
first_part w x y old new f = record {
  text = f.text;
  rest = f.rest ++ unwrap_or y [];
  is = λ c e.
      let p = of_both x y c e in
      sym (append_assoc f.text f.rest (unwrap_or y []))
      ∙ ap (λ (z : List ℕ). z ++ unwrap_or y []) (f.is p.0 p.1.1.0)
      ∙ ap (λ (o : Option (List ℕ)). p.0 ++ unwrap_or o []) p.1.1.1.0 ∙ p.1.1.1.1;
  wrote = f.wrote;
  counted = f.counted;
}

first_fails : {W : Type 0} (w : Writer W) (x y : Option (List ℕ)) (old new : W) → FailsToPrint w x old new →
    FailsToPrint w (both_left x y) old new
first_fails w x y old new f = record {
  text = f.text ++ unwrap_or y [];
  is = λ c e.
      let p = of_both x y c e in
      ap (λ (z : List ℕ). z ++ unwrap_or y []) (f.is p.0 p.1.1.0)
      ∙ ap (λ (o : Option (List ℕ)). p.0 ++ unwrap_or o []) p.1.1.1.0 ∙ p.1.1.1.1;
  begun = begins_more (w.written old) (w.written new) f.text (unwrap_or y []) f.begun;
  counted = f.counted;
}

pub first_stopped : {W : Type 0} (w : Writer W) (x y : Option (List ℕ)) (fault : PrintFault) (old new : W) →
    StopsPrint w x fault old new → StopsPrint w (both_left x y) fault old new
first_stopped w x y (Unread at) old new f = first_part w x y old new f
first_stopped w x y Unwritable old new f = first_fails w x y old new f
