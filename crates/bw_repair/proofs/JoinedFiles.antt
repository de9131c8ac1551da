-- How joining ends, by what was read and printed.
use Rattle.std.proofs.Common.{◌≡◌, ◌∙◌, ◌⊎◌, ℕ, List, ◌++◌, Option, Some, refl, sym, ap, subst, inl, inr}
use Rattle.std.specs.declared.io.ErrorKind.{ErrorKind}
use Rattle.bw_stream.specs.Readers.{Of}
use Rattle.bw_stream.specs.declared.sink.Sink.{Ghosts as Writer}
use Rattle.bw_console.specs.FailedOpenings.{IsUnopened}
use Rattle.bw_console.specs.Outcomes.{Outcome, IsOutOfMemory}
use Rattle.bw_console.specs.Prints.{HasPrinted, HasStopped, IsOf, IsPrint, Print, Part, Whole}
use Rattle.bw_inspect.specs.Readings.{HasReading}
use Rattle.bw_inspect.specs.declared.report.Report.{Report}
use Rattle.bw_repair.specs.JoinedPrints.{PrintsAPart, PrintsIt, StopsIt, both_left}
use Rattle.bw_repair.specs.JoinFaults.{AreJoined, JoinsAll, JoinsAPart, RefusesToJoin, StopsJoining}
use Rattle.bw_repair.specs.Joinings.{IsJoinRefusal, Joins}
use Rattle.bw_repair.specs.JoinSections.{AreSections, IsUnfitToJoin}
use Rattle.bw_repair.specs.ReadReports.{HasChunkReport, IsUnfit, IsNotRead, IsUnreadAt}
use Rattle.bw_repair.specs.SectionBytes.{assembled}
use Rattle.bw_repair.specs.declared.left_out.section.Section.{Section}
use Rattle.bw_repair.specs.declared.conversions.fault.ConvertError.TheVariants.{Refused}
use Rattle.bw_repair.specs.declared.conversions.fault.ConvertFault.{ConvertFault}
use Rattle.bw_repair.specs.declared.conversions.fault.ConvertKind.{ConvertKind}
use Rattle.bw_repair.specs.declared.conversions.fault.ConvertKind.TheVariants.{Unread, Riff, SameForm, TooLong, Exists, Unwritten}
use Rattle.bw_repair.proofs.JoinLaws.{joins, unfit_to_join}

-- what both readers have left
both_some : (x y : Option (List ℕ)) (a b : List ℕ) → x ≡ Some a → y ≡ Some b → both_left x y ≡ Some (a ++ b)
both_some x y a b e f =
    ap (λ (o : Option (List ℕ)). both_left o y) e ∙ ap (λ (o : Option (List ℕ)). both_left (Some a) o) f

pub all_joined : {W : Type 0} (w : Writer W) (take left x y : Option (List ℕ)) (first second : List Section) (old new : W) →
    Of take (λ t. x ≡ Some (assembled first t)) → Of left (λ l. y ≡ Some (assembled second l)) →
    Of take (λ t. Of left (λ l. AreJoined first second t l)) → PrintsIt w (both_left x y) old new →
    JoinsAll w take left old new
all_joined w take left x y first second old new f s are p = record {
  text = p.text;
  right = λ t e l e'.
      subst (Joins t l)
      (sym (p.is (assembled first t ++ assembled second l)
      (both_some x y (assembled first t) (assembled second l) (f t e) (s l e')))) (are t e l e');
  prints = p.prints;
}

pub part_joined : {W : Type 0} (w : Writer W) (take left x y : Option (List ℕ)) (first second : List Section) (old new : W) →
    Of take (λ t. x ≡ Some (assembled first t)) → Of left (λ l. y ≡ Some (assembled second l)) →
    Of take (λ t. Of left (λ l. AreJoined first second t l)) → PrintsAPart w (both_left x y) old new →
    JoinsAPart w take left old new
part_joined w take left x y first second old new f s are p = record {
  text = p.text;
  right = λ t e l e'. record {
    text = assembled first t ++ assembled second l;
    rest = p.rest;
    whole = p.is (assembled first t ++ assembled second l)
        (both_some x y (assembled first t) (assembled second l) (f t e) (s l e'));
    joins = are t e l e';
  };
  prints = p.prints;
}

pub joining_stopped : {W : Type 0} (w : Writer W) (take left x y : Option (List ℕ)) (first second : List Section)
    (old new : W) → Of take (λ t. x ≡ Some (assembled first t)) → Of left (λ l. y ≡ Some (assembled second l)) →
    Of take (λ t. Of left (λ l. AreJoined first second t l)) → StopsIt w (both_left x y) old new →
    StopsJoining w take left old new
joining_stopped w take left x y first second old new f s are p = record {
  text = p.text;
  right = λ t e l e'.
      subst (Joins t l)
      (sym (p.is (assembled first t ++ assembled second l)
      (both_some x y (assembled first t) (assembled second l) (f t e) (s l e')))) (are t e l e');
  stops = p.stops;
}

-- the sections are those of both reports
pub are_joined : (t l : List ℕ) (first second : Report) (ss ts ss' ts' : List Section) → HasChunkReport t first →
    HasChunkReport l second → ss' ≡ ss → ts' ≡ ts → AreSections first second ss ts → AreJoined ss' ts' t l
are_joined t l first second ss ts ss' ts' a b e f are =
    joins t l first second ss' ts' a b
    (record { fit = are.fit; first_is = e ∙ are.first_is; second_is = f ∙ are.second_is })

-- the second file isn't read
left_at : (t l : List ℕ) (kind : ConvertKind) (offset : ℕ) → HasReading t → IsUnreadAt l kind offset →
    IsJoinRefusal t l kind offset
left_at t l (Unread kind) offset has is = inr (has, is)
left_at t l Riff offset has is = absurd is
left_at t l SameForm offset has is = absurd is
left_at t l TooLong offset has is = absurd is
left_at t l Exists offset has is = absurd is
left_at t l Unwritten offset has is = absurd is

pub left_refused : {W : Type 0} (w : Writer W) (take left : Option (List ℕ)) (f : ConvertFault) (old : W) →
    Of take (λ t. HasReading t) → Of left (λ l. IsNotRead l (Refused f)) → RefusesToJoin w take left f old old
left_refused w take left f old has is =
    record { right = λ t e l e'. left_at t l f.kind f.offset (has t e) (is l e'); kept = refl }

-- the chunks don't fit, or there is no memory
pub unfit_refused : (t l : List ℕ) (first second : Report) (f : ConvertFault) → HasChunkReport t first →
    HasChunkReport l second → IsUnfit (IsUnfitToJoin first second) f → IsJoinRefusal t l f.kind f.offset
unfit_refused t l first second f a b (inl e) =
    subst (λ (x : ConvertFault). IsJoinRefusal t l x.kind x.offset) (sym e) (inl (λ g none. absurd (cc)))
unfit_refused t l first second f a b (inr e) =
    subst (λ (x : ConvertFault). IsJoinRefusal t l x.kind x.offset) (sym e.1) (
      record {
        take_reading = a.reading_is;
        left_reading = b.reading_is;
        unfit = unfit_to_join t l first second a b e.0;
      },
      refl,
    )

-- what was done to the writer
pub part_print : {W : Type 0} (w : Writer W) (text : List ℕ) (old new : W) →
    HasPrinted w text old new ⊎ HasStopped w text old new →
    (print : Print) × (IsOf text print × IsPrint w print old new)
part_print w text old new (inl h) = (Whole text, (inl refl, h))
part_print w text old new (inr h) = (Part text, (inr refl, h))

pub take_unopened : (a b : List ℕ) (kind : ErrorKind) (did : Outcome) → IsUnopened a kind did ⊎ IsOutOfMemory did →
    IsUnopened a kind did ⊎ (IsUnopened b kind did ⊎ IsOutOfMemory did)
take_unopened a b kind did (inl u) = inl u
take_unopened a b kind did (inr m) = inr (inr m)
