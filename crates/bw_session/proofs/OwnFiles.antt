-- What the calls of a growing file leave under a name that did not exist at the start.
use Rattle.std.proofs.Common.{◌≡◌, ℕ, Bool, true, false, List, Option, Some, None, refl}
use Rattle.std.proofs.Common.{sym, ◌∙◌, ap, subst}
use Rattle.std.specs.Prelude.{IsTrue, IsSome, is_some}
use Rattle.std.specs.Bool.{MatchBool}
use Rattle.bw_model.specs.Take.{Take, Format, Request, Open, Block, Mark, SetField, Close, verdict, is_stored}
use Rattle.bw_model.specs.Take.{with_request}
use Rattle.bw_model.specs.File.{file_of}
use Rattle.bw_model.specs.Holds.{IsBetween, IsInTheMiddle}
use Rattle.bw_model.proofs.Elements.{some_inj}
use Rattle.bw_file.specs.GrowingFiles.{Growing, IsReady, IsBegun, AsksForName}
use Rattle.bw_session.specs.RequestWrites.{HasOwnFile, HasWholeFile}

no_false : {A : Type 0} → false ≡ true → A
no_false e = cc

abbrev of_format : Take → Option Format → Take
of_format t o = record t { format = o }

-- a take's file exists if it has a format
file-some : (t : Take) (limit : ℕ) → is_some (file_of t limit) ≡ is_some t.format
file-some t limit = go t.format
  where
    go : (o : Option Format) → is_some (file_of (of_format t o) limit) ≡ is_some o
    go None = refl
    go (Some f) = refl

-- a file between two files of an open take exists
none_between : (t : Take) (f : Format) (limit : ℕ) (r : Request) → IsBetween (of_format t (Some f)) limit r None → ⊥
none_between t f limit (Open g history) b = b
none_between t f limit (Block bytes) b = b
none_between t f limit (Mark id frame) b = b
none_between t f limit (SetField tag value) b = b
none_between t f limit (Close total) b = b

between-some : (t : Take) (f : Format) (limit : ℕ) (r : Request) (found : Option (List ℕ)) → t.format ≡ Some f →
    IsBetween t limit r found → is_some found ≡ true
between-some t f limit r (Some x) e b = refl
between-some t f limit r None e b =
    absurd (none_between t f limit r (subst (λ (o : Option Format). IsBetween (of_format t o) limit r None) e b))

pub ready : (t : Take) (r : Request) (g : Growing) (found : Option (List ℕ)) → HasOwnFile t r g found →
    IsReady g t r found
ready t r g found h = go g.dirty h.whole
  where
    go : (d : Bool) → MatchBool d (IsInTheMiddle t g.limit (Some r) found) (found ≡ file_of t g.limit) →
        MatchBool d (IsBetween t g.limit r found) (found ≡ file_of t g.limit)
    go true m = subst (λ (x : Request). IsBetween t g.limit x found) (some_inj (sym m.waiting)) m.between
    go false whole = whole

-- the file of an open take exists
stands : (t : Take) (f : Format) (r : Request) (g : Growing) (found : Option (List ℕ)) → t.format ≡ Some f →
    HasOwnFile t r g found → is_some found ≡ true
stands t f r g found e h = go g.dirty (ready t r g found h)
  where
    go : (d : Bool) → MatchBool d (IsBetween t g.limit r found) (found ≡ file_of t g.limit) → is_some found ≡ true
    go true b = between-some t f g.limit r found e b
    go false whole = ap is_some whole ∙ file-some t g.limit ∙ ap is_some e

-- after a call on an open take that succeeded
pub whole_after : (t : Take) (f : Format) (r : Request) (g g' : Growing) (before after : Option (List ℕ)) →
    t.format ≡ Some f → is_some (with_request t r).format ≡ true → g' ≡ record g { dirty = false; ahead = false } →
    HasOwnFile t r g before → after ≡ file_of (with_request t r) g.limit → HasWholeFile (with_request t r) g' after
whole_after t f r g g' before after e e' known h now = record {
  whole = now ∙ ap (λ (x : Growing). file_of (with_request t r) x.limit) (sym known);
  made_here = ap (λ (x : Growing). x.made) known ∙ h.made_here ∙ stands t f r g before e h
      ∙ sym (ap is_some now ∙ file-some (with_request t r) g.limit ∙ e');
  level = ap (λ (x : Growing). x.ahead) known;
}

-- that failed
pub own_after : (t : Take) (f : Format) (r : Request) (g g' : Growing) (before after : Option (List ℕ)) →
    t.format ≡ Some f → is_stored (verdict t r) ≡ true → g' ≡ record g { dirty = true; ahead = false } →
    HasOwnFile t r g before → IsBetween t g.limit r after → HasOwnFile t r g' after
own_after t f r g g' before after e stored known h between =
    subst (λ (x : Growing). HasOwnFile t r x after) (sym known) (record {
      whole = record { request = r; waiting = refl; to_store = stored; between = between };
      made_here = h.made_here ∙ stands t f r g before e h ∙ sym (between-some t f g.limit r after e between);
      ahead = λ a. no_false a;
    })

-- Opening.

none_some : {A : Type 0} (x : Option (List ℕ)) → x ≡ None → is_some x ≡ true → A
none_some x e h = no_false (ap is_some (sym e) ∙ h)

unopened-none : (t : Take) (limit : ℕ) → t.format ≡ None → file_of t limit ≡ None
unopened-none t limit e = subst (λ (o : Option Format). file_of (of_format t o) limit ≡ None) (sym e) refl

-- a name that is made was begun
pub begun : (t : Take) (f : Format) (history : List ℕ) (g : Growing) (found : Option (List ℕ)) → t.format ≡ None →
    HasOwnFile t (Open f history) g found → IsTrue g.made → IsBegun g t (Open f history) found
begun t f history g found e h made = (some, go g.dirty (ready t (Open f history) g found h))
  where
    some : is_some found ≡ true
    some = sym h.made_here ∙ made

    go : (d : Bool) → MatchBool d (IsBetween t g.limit (Open f history) found) (found ≡ file_of t g.limit) →
        IsBetween t g.limit (Open f history) found
    go true b = b
    go false whole = none_some found (whole ∙ unopened-none t g.limit e) some

nothing_between : (t : Take) (limit : ℕ) (f : Format) (history : List ℕ) → t.format ≡ None →
    IsBetween t limit (Open f history) None
nothing_between t limit f history e =
    subst (λ (o : Option Format). IsBetween (of_format t o) limit (Open f history) None) (sym e) tt

module _ (t : Take) (f : Format) (history : List ℕ) (g g' : Growing) (before after : Option (List ℕ))
    (unopened : t.format ≡ None) (h : HasOwnFile t (Open f history) g before)
    (name : AsksForName g.made g'.made before after) where
  pub opened_new : g' ≡ record g { made = true; dirty = false; ahead = false } →
      after ≡ file_of (with_request t (Open f history)) g.limit →
      HasWholeFile (with_request t (Open f history)) g' after
  opened_new known now = record {
    whole = now ∙ ap (λ (x : Growing). file_of (with_request t (Open f history)) x.limit) (sym known);
    made_here = ap (λ (x : Growing). x.made) known ∙ sym (ap is_some now);
    level = ap (λ (x : Growing). x.ahead) known;
  }

  -- its own name can't exist already
  pub never_existed : {A : Type 0} → g'.made ≡ false → IsSome before → A
  never_existed unmade existed = no_false (sym unmade ∙ name.keeps (h.made_here ∙ existed))

  pub opened_err : is_stored (verdict t (Open f history)) ≡ true → g' ≡ record g { made = g'.made; dirty = true; ahead = false } →
      (IsTrue g'.made → IsBegun g t (Open f history) after) → HasOwnFile t (Open f history) g' after
  opened_err stored known left =
      subst (λ (x : Growing). HasOwnFile t (Open f history) x after) (sym known) (go g'.made refl)
    where
      unmade : (m : Bool) → g.made ≡ m → g'.made ≡ false → m ≡ false
      unmade true e e' = no_false (sym e' ∙ name.keeps e)
      unmade false e e' = refl

      nothing : (x : Option (List ℕ)) → is_some x ≡ false → x ≡ None
      nothing None e = refl
      nothing (Some x) e = no_false (sym e)

      go : (m : Bool) → g'.made ≡ m → HasOwnFile t (Open f history) (record g { made = m; dirty = true; ahead = false }) after
      go true e = let b = left e in record {
        whole = record { request = Open f history; waiting = refl; to_store = stored; between = b.1 };
        made_here = sym b.0;
        ahead = λ a. no_false a;
      }
      go false e =
          let was : before ≡ None = nothing before (sym h.made_here ∙ unmade g.made refl e) in
          let none : after ≡ None = name.untouched e ∙ was in
          record {
            whole = record {
              request = Open f history;
              waiting = refl;
              to_store = stored;
              between = subst (IsBetween t g.limit (Open f history)) (sym none)
                  (nothing_between t g.limit f history unopened);
            };
            made_here = sym (ap is_some none);
            ahead = λ a. no_false a;
          }

-- A name that existed and isn't made is left as it was.
pub left_alone : (g g' : Growing) (before after : Option (List ℕ)) → AsksForName g.made g'.made before after →
    g.made ≡ false → IsSome before → (after ≡ before) × (g'.made ≡ false)
left_alone g g' before after name unmade existed = (name.untouched (still g'.made refl), still g'.made refl)
  where
    still : (m : Bool) → g'.made ≡ m → g'.made ≡ false
    still true e = none_some before (name.made unmade e) existed
    still false e = e
