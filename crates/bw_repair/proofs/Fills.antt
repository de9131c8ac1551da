-- A file that is filled, and gets its id.
use Rattle.std.proofs.Common.{◌≡◌, ◌∙◌, ℕ, List, [], Option, Some, None, sym, ap, subst, inr, length, arith}
use Rattle.std.proofs.lemmas.List.{take_all}
use Rattle.std.specs.Prelude.{IsTrue}
use Rattle.bw_model.proofs.Elements.{some_inj}
use Rattle.bw_store.specs.Stores.{Written, overwritten}
use Rattle.bw_disk.specs.declared.disk.Disk.{Ghosts}
use Rattle.bw_inspect.specs.declared.fault.InspectKind.{InspectKind}
use Rattle.bw_repair.specs.Copies.{IsCopiedWhole, IsCopyFault, StopsCopy}
use Rattle.bw_repair.specs.Makings.{IsFilled, IsMadeOf, IsNamed, LeavesName, LeavesOut, LeavesUnread, MayLeaveOver}
use Rattle.bw_repair.specs.Makings.{Part, Named, StopsFilling, StopsMaking}
use Rattle.bw_repair.specs.declared.conversions.fault.ConvertFault.{ConvertFault}
use Rattle.bw_repair.specs.declared.conversions.fault.ConvertKind.{ConvertKind}
use Rattle.bw_repair.specs.declared.conversions.fault.ConvertKind.TheVariants.{Unread, Riff, SameForm, TooLong, Exists, Unwritten}

-- the id is written between two syncs
pub named_all : {D F : Type 0} (G : Ghosts D F) (path id : List ℕ) (d d1 d2 d3 : D) →
    G.honest d1 ≡ G.honest d → G.honest d2 ≡ G.honest d1 →
    (IsTrue (G.honest d) → (other : List ℕ) → G.contents d1 other ≡ G.contents d other) →
    (IsTrue (G.honest d1) → Written (G.contents d1 path) 0 id (G.contents d2 path)) →
    (IsTrue (G.honest d2) → (other : List ℕ) → G.contents d3 other ≡ G.contents d2 other) →
    LeavesName G path id d d3
named_all G path id d d1 d2 d3 first second kept written same = λ w h e.
    let h1 : IsTrue (G.honest d1) = subst IsTrue (sym first) h in
    let h2 : IsTrue (G.honest d2) = subst IsTrue (sym second) h1 in
    let put = written h1 in
    let was : put.0 ≡ w = some_inj (sym put.1 ∙ (kept h path ∙ e)) in (
      length id,
      same h2 path ∙ put.2 ∙ ap (λ (z : List ℕ). Some (overwritten z 0 id)) was
          ∙ ap (λ (z : List ℕ). Some (overwritten w 0 z)) (sym (take_all (length id) id (omega arith))),
    )

-- filled whole, and named
pub filled : {D F : Type 0} (G : Ghosts D F) (path at w id : List ℕ) (n : ℕ) (a b c : D) → at ≡ path →
    G.honest b ≡ G.honest a → IsCopiedWhole G path w n a b → IsNamed G at id b c → IsFilled G path w id n a c
filled G path at w id n a b c same honest copy named =
    let here : IsNamed G path id b c = subst (λ (p : List ℕ). IsNamed G p id b c) same named in record {
      counts = copy.counts;
      has = λ h e. (here w (subst IsTrue (sym honest) h) (copy.puts h e)).0;
      lasts = λ h e. (here w (subst IsTrue (sym honest) h) (copy.puts h e)).1;
    }

-- not filled whole
pub copy_stopped : {D F : Type 0} (G : Ghosts D F) (path w id : List ℕ) (kind : ConvertKind) (a b : D) →
    StopsCopy G path w 0 kind a b → StopsFilling G path w id kind a b
copy_stopped G path w id kind a b stops = record {
  reason = stops.reason;
  leaves = λ h e. let part = stops.part h e in Part part.0 part.1;
}

-- filled, but not named whole
pub name_stopped : {D F : Type 0} (G : Ghosts D F) (path at w id : List ℕ) (n : ℕ) (f : ConvertFault)
    (a b c : D) → at ≡ path → G.honest b ≡ G.honest a → IsCopiedWhole G path w n a b → LeavesName G at id b c →
    f ≡ record { kind = Unwritten; offset = 0 } → StopsFilling G path w id f.kind a c
name_stopped G path at w id n f a b c same honest copy named is =
    let here : LeavesName G path id b c = subst (λ (p : List ℕ). LeavesName G p id b c) same named in
    subst (λ (x : ConvertFault). StopsFilling G path w id x.kind a c) (sym is) (record {
      reason = tt;
      leaves = λ h e. let part = here w (subst IsTrue (sym honest) h) (copy.puts h e) in Named part.0 part.1;
    })

-- a new file is filled
pub made_of : {D F : Type 0} (G : Ghosts D F) (path to w id : List ℕ) (n : ℕ) (a b c : D) →
    G.honest b ≡ G.honest a → (IsTrue (G.honest a) → path ≡ to) →
    (IsTrue (G.honest a) → (G.contents a to ≡ None) × (G.contents b to ≡ Some [])) → IsFilled G path w id n b c →
    IsMadeOf G to w id n a c
made_of G path to w id n a b c honest at made fill = record {
  counts = fill.counts;
  makes = λ h.
      let there : IsFilled G to w id n b c = subst (λ (p : List ℕ). IsFilled G p w id n b c) (at h) fill in
      let h1 = subst IsTrue (sym honest) h in record {
        fresh = (made h).0;
        has = there.has h1 (made h).1;
        lasts = there.lasts h1 (made h).1;
      };
}

left_by : (id w : List ℕ) (kind : ConvertKind) (before after : Option (List ℕ)) → IsCopyFault w kind →
    MayLeaveOver id w before after → LeavesOut id w kind before after
left_by id w (Unread kind) before after reason may =
    subst (λ (k : InspectKind). LeavesUnread id w k before after) (sym reason) may
left_by id w Riff before after reason may = absurd reason
left_by id w SameForm before after reason may = absurd reason
left_by id w TooLong before after reason may = may
left_by id w Exists before after reason may = absurd reason
left_by id w Unwritten before after reason may = may

-- .. or isn't
pub unfilled : {D F : Type 0} (G : Ghosts D F) (path to w id : List ℕ) (f : ConvertFault) (a b c : D) →
    G.honest b ≡ G.honest a → (IsTrue (G.honest a) → path ≡ to) →
    (IsTrue (G.honest a) → (G.contents a to ≡ None) × (G.contents b to ≡ Some [])) →
    StopsFilling G path w id f.kind b c → StopsMaking G to w id f a c
unfilled G path to w id f a b c honest at made stops = record {
  reason = inr stops.reason;
  leaves = λ h.
      let there : StopsFilling G to w id f.kind b c =
      subst (λ (p : List ℕ). StopsFilling G p w id f.kind b c) (at h) stops in
      left_by id w f.kind (G.contents a to) (G.contents c to) stops.reason
      (inr ((made h).0, there.leaves (subst IsTrue (sym honest) h) (made h).1));
}
