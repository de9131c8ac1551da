-- How counts of failures follow from one another.
use Rattle.std.proofs.Common.{◌≡◌, ℕ, ◌<◌, ◌≤◌, ◌⊎◌, inl, inr, Bool, true, false, refl, sym, subst, arith}
use Rattle.std.proofs.lemmas.Bool.{cases_lt, false≢true}
use Rattle.bw_model.specs.Counts.{Counts, last_count}
use Rattle.bw_disk.specs.declared.reading.ReadFault.{ReadFault}
use Rattle.bw_disk.specs.declared.reading.ReadFault.TheVariants.{Memory}
use Rattle.bw_takes.specs.ReadCounts.{CountsFault, Rises}

-- a count never falls
pub counts_up : (before after : ℕ) (b : Bool) → Counts before after b → before ≤ after
counts_up before after false c = let e = c.quiet refl in omega (arith, e)
counts_up before after true c = go (cases_lt before last_count)
  where
    go : (before < last_count) ⊎ (last_count ≤ before) → before ≤ after
    go (inl below) = let e = c.rises refl below in omega (arith, e)
    go (inr past) = let e = c.stays past in omega (arith, e)

-- nothing happened yet
pub rises_none : (start : ℕ) → Rises start start false
rises_none start = record {
  quiet = λ _. refl;
  rises = λ e room. absurd (false≢true e);
  grows = omega arith;
}

-- what happens, whatever happened before it and happens after it
pub rises_after : (start before mid after : ℕ) (said : Bool) → Rises start before said →
    Counts before mid true → mid ≤ after → Rises start after true
rises_after start before mid after said so call more = record {
  quiet = λ e. absurd (false≢true (sym e));
  rises = λ _ room. risen said so (cases_lt before last_count) room;
  grows =
      let a = so.grows in
      let b = counts_up before mid true call in
      omega (arith, a, b, more);
}
  where
    risen : (x : Bool) → Rises start before x → (before < last_count) ⊎ (last_count ≤ before) →
        start < last_count → start < after
    risen x s (inl below) room =
        let a = s.grows in
        let b = call.rises refl below in
        omega (arith, a, b, more)
    risen x s (inr past) room =
        let b = counts_up before mid true call in
        omega (arith, past, room, b, more)

-- a read that memory was refused for, after calls of which none failed
pub refused_read : (before after : ℕ) (fault : ReadFault) → after ≡ before → fault ≡ Memory →
    CountsFault before after fault
refused_read before after fault same is = subst (λ (f : ReadFault). CountsFault before after f) (sym is)
    (omega (arith, same))
