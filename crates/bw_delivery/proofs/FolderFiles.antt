-- The file of a take whose requests were heard to be stored, one of them a CLOSE, in a folder.
use Rattle.std.proofs.Common.{◌≡◌, ℕ, Bool, true, false, List, Option, Some, None, refl, ◌∙◌, ap, subst}
use Rattle.std.specs.Prelude.{is_some}
use Rattle.bw_model.specs.Take.{Take, Stored, new_take}
use Rattle.bw_model.specs.File.{file_of}
use Rattle.bw_model.specs.Book.{Book, log_of, made_by}
use Rattle.bw_model.specs.Exchange.{take_in}
use Rattle.bw_store.specs.declared.store.TakeStore.{Ghosts as StoreGhosts}
use Rattle.bw_journal.specs.declared.journal.Journal.{Ghosts as JournalGhosts}
use Rattle.bw_session.specs.SeenServers.{server_limit}
use Rattle.bw_delivery.specs.FolderDeliveries.{IsFolderDelivery, ClosedTakesAreInFolders}
use Rattle.bw_delivery.proofs.ClosedLaws.{AreStored, stored_closes}
use Rattle.bw_delivery.proofs.FolderDeliveries.{folder_step, folder_deliveries_true, stored_folder_whole}
use Rattle.bw_delivery.proofs.WholeTakes.{whole_take, not_taken}

module _ {X Y : Type 0} (S : StoreGhosts X) (J : JournalGhosts Y) where
  pub closed_in_folder : ClosedTakesAreInFolders S J
  closed_in_folder first name requests links book old new s heard any =
      let existed : List ℕ → Bool = λ n. is_some (first n) in
      let later : Book = s.left.run.later in
      let d : IsFolderDelivery existed name requests links book later = record {
        all_done = s.all_done;
        had = s.had;
        trace = s.trace;
        before = _;
        after = _;
        went = s.left.run.turned;
        joined = s.joined;
      } in
      let h = folder_deliveries_true existed name requests links book later d in
      let same = stored_folder_whole existed name requests links book later d heard in
      let w = whole_take (existed name) requests (log_of later name)
      (folder_step existed name requests links book later d).sound same.0
      (λ n below. (h.verdicts n Stored (heard n below)).1) in
      let free : existed name ≡ false = not_taken (existed name) requests w.stored any in
      let closed : (made_by false requests).closed ≡ true =
      stored_closes (new_take false) requests (subst (λ (v : Bool). AreStored (new_take v) requests) free w.stored) any in
      let whole : take_in false later name ≡ made_by false requests =
      subst (λ (v : Bool). take_in v later name ≡ made_by v requests) free same.1 in
      s.left.closed name s.named (ap (λ (t : Take). t.closed) whole ∙ closed)
      ∙ content later (first name) free ∙ ap (λ (t : Take). file_of t (server_limit new)) whole
    where
      content : (later : Book) (o : Option (List ℕ)) → is_some o ≡ false →
          elim o [ Some bytes ↦ Some bytes | None ↦ file_of (take_in false later name) (server_limit new) ]
          ≡ file_of (take_in false later name) (server_limit new)
      content later None e = refl
      content later (Some bytes) e = absurd cc
