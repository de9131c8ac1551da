-- A conversion by what was made of the file without its id.
use Rattle.std.proofs.Common.{◌≡◌, ◌∙◌, ◌⊎◌, ℕ, ◌≤◌, ◌<◌, Bool, false, List, Option, Some, length}
use Rattle.std.proofs.Common.{refl, sym, ap, subst, arith, inl, inr}
use Rattle.std.specs.Prelude.{IsTrue}
use Rattle.bw_stream.specs.Readers.{Of}
use Rattle.bw_disk.specs.declared.disk.Disk.{Ghosts}
use Rattle.bw_inspect.specs.declared.fault.InspectKind.{InspectKind}
use Rattle.bw_inspect.specs.declared.fault.InspectKind.TheVariants as kinds
use Rattle.bw_repair.specs.Checks.{RefusesBefore, RefusesConvertKind}
use Rattle.bw_repair.specs.Conversions.{Converts, LeavesError, LeavesFault}
use Rattle.bw_repair.specs.Copies.{IsCopyFault}
use Rattle.bw_repair.specs.ConvertFaults.{IsFaultOfFile, IsConvertRefusal, IsConvertRefusalAt, RefusesConvert, is_disk_cause}
use Rattle.bw_store.specs.Stores.{overwritten}
use Rattle.bw_repair.specs.Forms.{IsConvertible, id_of, unnamed}
use Rattle.bw_repair.specs.Makings.{IsMade, IsMadeOf, IsMakeFault, LeavesOut, LeavesUnread}
use Rattle.bw_repair.specs.DiskSteps.{IsStep}
use Rattle.bw_repair.specs.declared.conversions.fault.ConvertError.{ConvertError}
use Rattle.bw_repair.specs.declared.conversions.fault.ConvertError.TheVariants.{Unopened, Refused}
use Rattle.bw_repair.specs.declared.conversions.fault.ConvertFault.{ConvertFault}
use Rattle.bw_repair.specs.declared.conversions.fault.ConvertKind.{ConvertKind}
use Rattle.bw_repair.specs.declared.conversions.fault.ConvertKind.TheVariants.{Unread, Riff, SameForm, TooLong, Exists, Unwritten}
use Rattle.bw_repair.specs.declared.conversions.form.WideForm.{WideForm}
use Rattle.bw_repair.proofs.Leftovers.{long_enough, named_whole}
use Rattle.bw_repair.proofs.Overlaid.{unnamed_length}
use Rattle.bw_repair.proofs.StepLaws.{no_step}

-- a file that is converted has four bytes
pub four : (form : WideForm) (b : List ℕ) → IsConvertible form b → 4 ≤ length b
four form b is = let long : 12 ≤ length b = long_enough b is.reading_is in omega (arith, long)

pub made_whole : {D F : Type 0} (G : Ghosts D F) (b to : List ℕ) (form : WideForm) (id : List ℕ) (n : ℕ)
    (old new : D) (left : Option (List ℕ)) → IsConvertible form b → id ≡ id_of form → left ≡ Some (unnamed b) →
    Of left (λ w. IsMadeOf G to w id n old new) → Converts G b to form n old new
made_whole G b to form id n old new left is same e made =
    let m = made (unnamed b) e in record {
      right = is;
      counts = m.counts ∙ unnamed_length b (four form b is);
      makes = λ h. subst (λ (z : List ℕ). IsMade G to z old new)
          (ap (λ (i : List ℕ). overwritten (unnamed b) 0 i) same ∙ named_whole form b) (m.makes h);
    }

-- why it wasn't made is why the file is refused
refusal_at : (b : List ℕ) (form : WideForm) (kind : ConvertKind) (offset : ℕ) → IsConvertible form b →
    ((kind ≡ Exists) × (offset ≡ 0)) ⊎ IsCopyFault (unnamed b) kind → IsConvertRefusalAt b form kind offset
refusal_at b form (Unread k) offset is (inl e) = let bad : Unread k ≡ Exists = e.0 in absurd (cc)
refusal_at b form (Unread k) offset is (inr e) =
    subst (λ (x : InspectKind). IsFaultOfFile b (record { kind = x; offset = offset })) (sym e) (λ g none. absurd (cc))
refusal_at b form Riff offset is (inl e) = let bad : Riff ≡ Exists = e.0 in absurd (cc)
refusal_at b form Riff offset is (inr e) = absurd e
refusal_at b form SameForm offset is (inl e) = let bad : SameForm ≡ Exists = e.0 in absurd (cc)
refusal_at b form SameForm offset is (inr e) = absurd e
refusal_at b form TooLong offset is (inl e) = let bad : TooLong ≡ Exists = e.0 in absurd (cc)
refusal_at b form TooLong offset is (inr e) =
    (is, subst (λ (n : ℕ). 4611686018427387904 < n) (unnamed_length b (four form b is)) e)
refusal_at b form Exists offset is (inl e) = (is, e.1)
refusal_at b form Exists offset is (inr e) = absurd e
refusal_at b form Unwritten offset is e = is

pub refusal : (b : List ℕ) (form : WideForm) (f : ConvertFault) → IsConvertible form b → IsMakeFault (unnamed b) f →
    IsConvertRefusal b form f
refusal b form f is reason = refusal_at b form f.kind f.offset is reason

-- .. and why it isn't to be made
before_kind : (b : List ℕ) (form : WideForm) (kind : ConvertKind) (offset : ℕ) → RefusesConvertKind b form kind offset →
    IsConvertRefusalAt b form kind offset
before_kind b form (Unread kind) offset is = is
before_kind b form Riff offset is = is
before_kind b form SameForm offset is = is
before_kind b form TooLong offset is = absurd is
before_kind b form Exists offset is = absurd is
before_kind b form Unwritten offset is = absurd is

pub before_refuses : (b : List ℕ) (form : WideForm) (e : ConvertError) → RefusesBefore b form e →
    RefusesConvert b form e
before_refuses b form (Unopened error) is = tt
before_refuses b form (Refused f) is = before_kind b form f.kind f.offset is

-- what isn't touched is left
pub unread_leaves : (id w : List ℕ) (kind : InspectKind) (x : Option (List ℕ)) → LeavesUnread id w kind x x
unread_leaves id w kinds.NotWave x = refl
unread_leaves id w kinds.Truncated x = refl
unread_leaves id w kinds.NoDs64 x = refl
unread_leaves id w kinds.BadDs64 x = refl
unread_leaves id w kinds.NoSize x = refl
unread_leaves id w kinds.Twice x = refl
unread_leaves id w kinds.NoFmt x = refl
unread_leaves id w kinds.NoData x = refl
unread_leaves id w kinds.BadFmt x = refl
unread_leaves id w kinds.BadBext x = refl
unread_leaves id w kinds.BadCue x = refl
unread_leaves id w kinds.TooMany x = refl
unread_leaves id w kinds.TooLarge x = refl
unread_leaves id w kinds.Read x = inl refl
unread_leaves id w kinds.Memory x = refl

kind_leaves : (b : List ℕ) (form : WideForm) (kind : ConvertKind) (offset : ℕ) (x : Option (List ℕ)) →
    RefusesConvertKind b form kind offset → LeavesOut (id_of form) (unnamed b) kind x x
kind_leaves b form (Unread kind) offset x is = unread_leaves (id_of form) (unnamed b) kind x
kind_leaves b form Riff offset x is = refl
kind_leaves b form SameForm offset x is = refl
kind_leaves b form TooLong offset x is = absurd is
kind_leaves b form Exists offset x is = absurd is
kind_leaves b form Unwritten offset x is = absurd is

pub before_leaves : {D F : Type 0} (G : Ghosts D F) (file : Option (List ℕ)) (to : List ℕ) (form : WideForm)
    (e : ConvertError) (d : D) → Of file (λ b. RefusesBefore b form e) → LeavesError G file to form e d d
before_leaves G file to form (Unopened error) d is = refl
before_leaves G file to form (Refused f) d is = λ b e h.
    kind_leaves b form f.kind f.offset (G.contents d to) (is b e)

-- no call of the disk
pub no_call : {D F : Type 0} (G : Ghosts D F) (to : List ℕ) (e : ConvertError) (d : D) → is_disk_cause e ≡ false →
    IsStep G to (is_disk_cause e) d d
no_call G to e d is = subst (λ (fails : Bool). IsStep G to fails d d) (sym is) (no_step G to d)

-- what is left under this id
pub left_named : {D F : Type 0} (G : Ghosts D F) (b to : List ℕ) (form : WideForm) (id : List ℕ) (kind : ConvertKind)
    (old new : D) → id ≡ id_of form →
    (IsTrue (G.honest old) → LeavesOut id (unnamed b) kind (G.contents old to) (G.contents new to)) →
    LeavesFault G b to form kind old new
left_named G b to form id kind old new same leaves h =
    subst (λ (i : List ℕ). LeavesOut i (unnamed b) kind (G.contents old to) (G.contents new to)) same (leaves h)
