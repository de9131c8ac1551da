-- Two sizes that are written one after the other.
use Rattle.std.proofs.Common.{ℕ, ◌+◌, List, Option, Result, Ok, Err, lit≤}
use Rattle.std.specs.Prelude.{OnOk, OnErr}
use Rattle.bw_model.specs.Bytes.{le32}
use Rattle.bw_ports.specs.Rewrites.{Rewrites, RewritesInPart}
use Rattle.bw_repair.specs.Writes.{GivesSizes, GivesSizesInPart}
use Rattle.bw_repair.specs.declared.plan.SizePlan.{SizePlan}

pub both_written : {X E : Type 0} (r : Result X E) (p : SizePlan) (a b c : Option (List ℕ)) →
    Rewrites a (p.place + 4) (le32 p.new.«data») b → OnOk r (Rewrites b 4 (le32 p.new.form) c) →
    OnOk r (GivesSizes p a c)
both_written (Ok x) p a b c first second = λ xs e. second _ (first xs e)
both_written (Err e) p a b c first second = tt

pub first_written : {X E : Type 0} (r : Result X E) (p : SizePlan) (a b c : Option (List ℕ)) →
    Rewrites a (p.place + 4) (le32 p.new.«data») b → OnErr r (RewritesInPart b 4 (le32 p.new.form) c) →
    OnErr r (GivesSizesInPart p a c)
first_written (Ok x) p a b c first second = tt
first_written (Err e) p a b c first second = λ xs e.
    let part = second _ (first xs e) in record {
      size = 4;
      form = part.0;
      ordered = λ h. lit≤ tt;
      is = part.1;
    }
