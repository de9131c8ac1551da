-- A whole file.
use Rattle.std.proofs.Common.{◌≡◌, ℕ, ◌+◌, ◌^◌, ◌<◌, ◌≤◌, Bool, true, false, List, length, Option, Some, None, Result}
use Rattle.std.proofs.Common.{Ok, Err, refl, sym, ◌∙◌, arith, inl, inr}
use Rattle.std.specs.Prelude.{IfErr}
use Rattle.bw_model.specs.Bytes.{first_that_holds}
use Rattle.bw_model.specs.Reading as reading
use Rattle.bw_inspect.specs.declared.fault.InspectFault.{InspectFault}
use Rattle.bw_inspect.specs.declared.report.Report.{Report}
use Rattle.bw_inspect.specs.declared.walk.Walk.{Walk}
use Rattle.bw_inspect.specs.declared.walk.Form.{Form}
use Rattle.bw_inspect.specs.Faults.{is_failed_read, is_memory, is_of_bytes, bytes_fault}
use Rattle.bw_inspect.specs.Walks.{IsFaulted, form_by, seen_by}
use Rattle.bw_inspect.specs.Outers.{BeginsForm, IsOutside}
use Rattle.bw_inspect.specs.Readings.{HasReading, IsPadAbsent, IsReported, Refuses, GivesReport}
use Rattle.bw_inspect.proofs.Faults.{bytes_no_read, bytes_no_memory, not_both, reported_fault}
use Rattle.bw_inspect.proofs.Finish.{next_end}
use Rattle.bw_model.proofs.ReadingLaws.{no_fault}

-- the outer header's fault
pub outside_refused : (b : List ℕ) (f : InspectFault) (left : Option (List ℕ)) → IsOutside b f left → Refuses b f left
outside_refused b f left o = record {
  fault = λ g h. inl (o.fault g h);
  within = record { reached = o.halts.reached; within = o.halts.within; rest = o.halts.rest };
  there = λ t. absurd (let x = o.halts.there in omega arith);
  fails = o.halts.fails;
  memory = λ t.
      let m = o.halts.memory t in
      inl (record { place_is = m.0; wants = m.1 });
}

-- past the end of the bytes there is only the pad byte of the last chunk
pad_absent : (b : List ℕ) (form : Form) (w : Walk) (reached : ℕ) (left : Option (List ℕ)) → BeginsForm b form w left →
    length b < reached → reached ≡ reading.next_place (seen_by w) → IsPadAbsent b reached
pad_absent b form w reached left s past p =
    let near = s.stands.near in
    let place = s.stands.place in
    record {
      form = form_by form;
      entries = seen_by w;
      prefix = record { header = s.header; chunks = s.stands.chunks };
      wanted = p;
      one = omega arith;
    }

-- a chunk's fault
pub step_refused : (b : List ℕ) (form : Form) (w : Walk) (f : InspectFault) (left left' : Option (List ℕ)) →
    form.size ≤ 2 ^ 62 → BeginsForm b form w left → IsFaulted b (form_by form) (seen_by w) f left' → Refuses b f left'
step_refused b form w f left left' small s k =
    let prefix : reading.IsPrefix b (form_by form) (seen_by w) = record { header = s.header; chunks = s.stands.chunks } in
    record {
      fault = λ g h. inr (form_by form, (seen_by w, (prefix, k.fault g h)));
      within = record { reached = k.reached; within = let x = k.within in omega arith; rest = k.rest };
      there = λ t. pad_absent b form w k.reached left s t (k.there t);
      fails = k.fails;
      memory = λ t.
          let m = k.memory t in
          inr (record { form = form_by form; entries = seen_by w; prefix = prefix; place_is = m.0; wants = m.1 });
    }

-- a fault at the form's end
pub end_refused : (b : List ℕ) (form : Form) (w : Walk) (f : InspectFault) (left : Option (List ℕ)) →
    form.size ≤ 2 ^ 62 → BeginsForm b form w left → reading.form_end (form_by form) < w.place + 8 →
    is_of_bytes f.kind ≡ true →
    bytes_fault f ≡ first_that_holds (reading.end_faults (8 + form.size) (seen_by w)) → Refuses b f left
end_refused b form w f left small s past k e = record {
  fault = λ g h. inr (
    form_by form,
    (
      seen_by w,
      (
        record { header = s.header; chunks = s.stands.chunks },
        next_end b (form_by form) (seen_by w) w.place (Some g) s.stands.place (omega arith) (sym e ∙ h),
      ),
    ),
  );
  within = record { reached = s.stands.reached; within = let x = s.stands.within in omega arith; rest = s.stands.rest };
  there = λ t. pad_absent b form w s.stands.reached left s t (s.stands.there t ∙ s.stands.place);
  fails = λ t. absurd (not_both (is_failed_read f.kind) (bytes_no_read f.kind k) t);
  memory = λ t. absurd (not_both (is_memory f.kind) (bytes_no_memory f.kind k) t);
}

-- the report of the reading
pub reported : (b : List ℕ) (form : Form) (w : Walk) (r : Report) (left : Option (List ℕ)) → form.size ≤ 2 ^ 62 →
    BeginsForm b form w left → reading.form_end (form_by form) < w.place + 8 →
    IsReported b (form_by form) (seen_by w) r →
    GivesReport b r left
reported b form w r left small s past k = record {
  reading_is = record {
    form = form_by form;
    entries = seen_by w;
    reads = record {
      prefix = record { header = s.header; chunks = s.stands.chunks };
      ends = next_end b (form_by form) (seen_by w) w.place None s.stands.place (omega arith) k.free;
    };
  };
  reports = k.reports;
  reserved = k.reserved;
  within = record { reached = s.stands.reached; within = s.stands.within; rest = s.stands.rest };
  small = small;
}

pub err_both : {X : Type 0} (r : Result X InspectFault) (A B C : InspectFault → Type 0) → IfErr r A → IfErr r B →
    ((f : InspectFault) → A f → B f → C f) → IfErr r C
err_both (Ok x) A B C a b k = tt
err_both (Err f) A B C a b k = k f a b

refused_by : (b : List ℕ) (f : InspectFault) (left : Option (List ℕ)) (v : Bool) → is_of_bytes f.kind ≡ v →
    Refuses b f left → HasReading b → is_of_bytes f.kind ≡ false
refused_by b f left true e r h = let g =
    reported_fault f e in absurd (no_fault b h.form h.entries g.0 h.reads (r.fault g.0 g.1))
refused_by b f left false e r h = e

-- bytes with a reading are refused for none of their own faults
pub refused_outside : (b : List ℕ) (f : InspectFault) (left : Option (List ℕ)) → Refuses b f left → HasReading b →
    is_of_bytes f.kind ≡ false
refused_outside b f left r h = refused_by b f left (is_of_bytes f.kind) refl r h
