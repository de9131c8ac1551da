-- What is synced stays so, and a note and what it speaks of are synced in order.
use Rattle.std.proofs.Common.{◌≡◌, ◌≢◌, ◌∙◌, ℕ, List, Bool, true, false, Option, refl, sym, ap, subst, inr, IsTrue}
use Rattle.std.specs.Prelude.{Result, Ok, Err, OnOk, IsSome}
use Rattle.std.specs.Str.{bytes_eq}
use Rattle.bw_model.proofs.BookLemmas.{same_name, name_refl}
use Rattle.bw_store.specs.Stores.{KeepsOthers}
use Rattle.bw_disk.specs.Disks.{Syncs}
use Rattle.bw_disk.specs.Volumes.{KeepsEach}
use Rattle.bw_disk.specs.declared.disk.Disk.{Ghosts}
use Rattle.bw_folder.specs.SyncOrders.{IsSyncedAt, KeepsSynced, SyncsInOrder}

abbrev Contents : Type 0
Contents = List ℕ → Option (List ℕ)

-- another path
apart_of : (path other : List ℕ) → bytes_eq path other ≡ false → other ≢ path
apart_of path other e same =
    let own : bytes_eq path other ≡ true = ap (bytes_eq path) same ∙ name_refl path in
    absurd (let no : true ≡ false = sym own ∙ e in cc)

-- A sync of one path leaves synced what was.
pub sync_stays : {T E : Type 0} (r : Result T E) (path : List ℕ) (before synced after synced_after : Contents) →
    Syncs r (before path) synced synced_after path → KeepsSynced before synced after synced_after
sync_stays r path before synced after synced_after syncs n same was some = go (bytes_eq path n) refl
  where
    stood : IsSome (before n)
    stood = subst IsSome same some

    at_path : {T E : Type 0} (r : Result T E) → Syncs r (before path) synced synced_after path → bytes_eq path n ≡ true →
        synced_after n ≡ after n
    at_path (Ok x) s e =
        subst (λ (k : List ℕ). synced_after k ≡ before k) (same_name path n e) s.reported ∙ sym same
    at_path (Err x) s e =
        subst (λ (k : List ℕ). synced_after k ≡ synced k) (same_name path n e) s.reported ∙ was stood ∙ sym same

    go : (b : Bool) → bytes_eq path n ≡ b → synced_after n ≡ after n
    go true e = at_path r syncs e
    go false e = syncs.others n (apart_of path n e) ∙ was stood ∙ sym same

-- What a note speaks of is synced first, then it is written, and its journal synced.
module _ {T E D F : Type 0} (G : Ghosts D F) (writes : Bool) (r : Result T E) (take journal : List ℕ) (old mid wrote new : D)
    (apart : take ≢ journal) (same : KeepsEach (G.contents old) (G.contents mid))
    (first : IsTrue writes → IsSyncedAt (G.contents old) (G.synced mid) take)
    (stays : KeepsSynced (G.contents old) (G.synced old) (G.contents mid) (G.synced mid))
    (others : KeepsOthers (G.contents mid) (G.contents wrote) journal)
    (unsynced : KeepsEach (G.synced mid) (G.synced wrote)) (kept : KeepsEach (G.contents wrote) (G.contents new))
    (syncs : Syncs r (G.contents wrote journal) (G.synced wrote) (G.synced new) journal) where
  take_same : G.contents new take ≡ G.contents old take
  take_same = kept take ∙ others take apart ∙ same take

  take_synced : IsTrue writes → IsSyncedAt (G.contents new) (G.synced new) take
  take_synced w some =
      syncs.others take apart ∙ unsynced take ∙ first w (subst IsSome take_same some) ∙ sym take_same

  on_any : {P : Type 0} (r : Result T E) → P → OnOk r P
  on_any (Ok x) p = p
  on_any (Err e) p = tt

  journal_synced : (r : Result T E) → Syncs r (G.contents wrote journal) (G.synced wrote) (G.synced new) journal →
      OnOk r (IsSyncedAt (G.contents new) (G.synced new) journal)
  journal_synced (Ok x) s = λ some. s.reported ∙ sym (kept journal)
  journal_synced (Err e) s = tt

  all_stays : KeepsSynced (G.contents old) (G.synced old) (G.contents new) (G.synced new)
  all_stays n is was some = go (bytes_eq journal n) refl
    where
      stood : IsSome (G.contents mid n)
      stood = subst IsSome (is ∙ sym (same n)) some

      before : G.synced new n ≡ G.synced wrote n → G.synced new n ≡ G.contents new n
      before e = e ∙ unsynced n ∙ stays n (same n) was stood ∙ same n ∙ sym is

      own : (r : Result T E) → Syncs r (G.contents wrote journal) (G.synced wrote) (G.synced new) journal →
          bytes_eq journal n ≡ true → G.synced new n ≡ G.contents new n
      own (Ok x) s e =
          subst (λ (k : List ℕ). G.synced new k ≡ G.contents new k) (same_name journal n e) (s.reported ∙ sym (kept journal))
      own (Err x) s e =
          before (subst (λ (k : List ℕ). G.synced new k ≡ G.synced wrote k) (same_name journal n e) s.reported)

      go : (b : Bool) → bytes_eq journal n ≡ b → G.synced new n ≡ G.contents new n
      go true e = own r syncs e
      go false e = before (syncs.others n (apart_of journal n e))

  pub in_order : SyncsInOrder G writes r take journal old new
  in_order = record {
    first = λ w. inr (take_synced w);
    take = λ w. on_any r (take_synced w);
    journal = journal_synced r syncs;
    stays = all_stays;
  }

-- what holds if a call succeeds, once it has
pub on_success : {T E P : Type 0} (r : Result T E) (x : T) → r ≡ Ok x → OnOk r P → P
on_success (Ok y) x e p = p
on_success (Err f) x e p = absurd (cc)
