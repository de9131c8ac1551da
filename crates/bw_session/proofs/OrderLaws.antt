-- What the order that turns keep says of each number that waits.
use Rattle.std.proofs.Common.{◌≡◌, inl, inr, ℕ, Bool, true, false, List, ◌∷◌, ◌++◌, length, Option, Some, None}
use Rattle.std.proofs.Common.{refl, sym, ◌∙◌, ap, subst, append_assoc}
use Rattle.std.specs.Prelude.{IsTrue, IsSome, is_some, option_map, drop}
use Rattle.std.specs.Bool.{MatchBool}
use Rattle.std.proofs.lemmas.Bool.{false≢true}
use Rattle.std.proofs.lemmas.List.{drop_at}
use Rattle.sha2.specs.Sha256.{sha256}
use Rattle.bw_model.specs.Bytes.{at, le32}
use Rattle.bw_model.specs.Take.{Take, Parts, Request, Verdict, judge, parts}
use Rattle.bw_model.specs.File.{file_of}
use Rattle.bw_model.specs.Wire.{Message, kind, payload, payload_in, after_name, request_of, is_request, message_body}
use Rattle.bw_model.specs.Book.{Log, Book, log_of, is_known, made}
use Rattle.bw_model.specs.Holds.{IsInTheMiddle, body_of}
use Rattle.bw_model.specs.CountedTurn.{is_pending}
use Rattle.bw_model.proofs.Addresses.{after_name-cons}
use Rattle.bw_model.proofs.BookLemmas.{unknown_log}
use Rattle.bw_model.proofs.Elements.{some_inj}
use Rattle.bw_model.proofs.Payloads.{reads_request}
use Rattle.bw_file.specs.GrowingFiles.{Growing}
use Rattle.bw_store.specs.declared.store.TakeStore.{Ghosts as StoreGhosts}
use Rattle.bw_journal.specs.declared.journal.Journal.{Ghosts as JournalGhosts}
use Rattle.bw_wire.specs.Bodies.{body_request, message_in}
use Rattle.bw_session.specs.Books.{HoldsBook, NotesAwake, OrdersBook, QuietBooksAreInOrder}
use Rattle.bw_session.specs.Books.{WaitingNumbersAreInOrder}
use Rattle.bw_session.specs.Executions.{Touches}
use Rattle.bw_session.specs.Drains.{HoldsPart}
use Rattle.bw_session.specs.NextNumbers.{with_done, is_written}
use Rattle.bw_session.specs.WriteOrders.{IsInOrder, IsCarriedOut, file_due}
use Rattle.bw_session.specs.Prefixes.{take_done}
use Rattle.bw_session.specs.Servers.{store_since, kept_by}
use Rattle.bw_session.specs.Tables.{session_in}
use Rattle.bw_session.specs.declared.server.Server.{Server}
use Rattle.bw_session.specs.declared.session.Session.{Session}
use Rattle.bw_session.proofs.DrainForms.{admitted_fits, first_slot, prefix_of}
use Rattle.bw_session.proofs.LogSteps.{made_next}
use Rattle.bw_session.proofs.NumberForms.{unwritten_same}
use Rattle.bw_session.proofs.OrderForms.{no_next, not_short}
use Rattle.bw_session.proofs.OrderSteps.{quiet_ends}
use Rattle.bw_session.proofs.PlanForms.{not_carried}
use Rattle.bw_session.proofs.PrefixForms.{own_parts}
use Rattle.bw_session.proofs.ServerForms.{part_here}

-- the request that a message's body spells
spelled_request : (m : Message) → is_request m.request ≡ true → body_request (message_body m) ≡ m.request
unfolding body_request
spelled_request m fits =
    let more : List ℕ = le32 m.number ++ payload m.request in
    let rest : List ℕ = length m.name ∷ (m.name ++ more) in
    let after_is : after_name rest ≡ more =
    after_name-cons (length m.name) (m.name ++ more) ∙ drop_at m.name more (length m.name) refl in
    ap (λ (x : List ℕ). request_of (kind m.request) (payload_in (length m.name ∷ x)))
    (append_assoc m.name (le32 m.number) (payload m.request))
    ∙ ap (λ (x : List ℕ). request_of (kind m.request) (drop 4 x)) after_is
    ∙ ap (request_of (kind m.request)) (drop_at (le32 m.number) (payload m.request) 4 refl)
    ∙ (reads_request m.request fits).request_is

-- the file of a name whose next request is carried out
module _ (log : Log) (p : Parts) (finished : List (List ℕ × Verdict)) (w : List (Option (List ℕ))) (g : Growing)
    (r : Request) (here : at log.admitted log.done ≡ Some r)
    (again : IsTrue g.dirty → (body : List ℕ) → at w 0 ≡ Some body → Touches p (message_in body).request) where
  due : (first found : Option (List ℕ)) → HoldsPart first log p finished w g found → (body : List ℕ) →
      at w 0 ≡ Some body → IsCarriedOut g p (message_in body).request → found ≡ file_due first (with_done log) g.limit
  due (Some bytes) found h body held carried = h.file.0
  due None found h body held (inl has) =
      let a = h.ahead has in
      a.file ∙ ap (λ (t : Take). file_of t g.limit)
      (sym (made_next false log.admitted log.done a.request a.waits))
  due None found h body held (inr unwritten) =
      whole g.dirty refl h.file.whole
      ∙ sym (unwritten_same (take_done None log) g.limit r
      (ap (λ (q : Parts). is_written (judge q r) r) mine ∙ ap (λ (x : Request). is_written (judge p x) x) (sym read)
      ∙ unwritten))
      ∙ ap (λ (t : Take). file_of t g.limit) (sym (made_next false log.admitted log.done r here))
    where
      mine : parts (take_done None log) ≡ p
      mine = own_parts g.name log p finished (prefix_of None log p finished w g found h r here).memory

      read : (message_in body).request ≡ r
      read =
          ap body_request (some_inj (sym held ∙ first_slot None log p finished w g found h
          ∙ ap (option_map (body_of g.name log.done)) here))
          ∙ spelled_request (record { name = g.name; number = log.done; request = r })
          (admitted_fits log.admitted log.done r h.fits here)

      whole : (d : Bool) → g.dirty ≡ d →
          MatchBool d (IsInTheMiddle (take_done None log) g.limit (at log.admitted log.done) found)
          (found ≡ file_of (take_done None log) g.limit) → found ≡ file_of (take_done None log) g.limit
      whole false e file = file
      whole true e middle =
          let touches = again e body held in
          absurd (not_carried (record g { ahead = false }) p (message_in body).request touches refl (inr unwritten))

module _ {X Y : Type 0} (S : StoreGhosts X) (J : JournalGhosts Y) (asleep : List ℕ → Bool)
    (first : List ℕ → Option (List ℕ)) (s : Server X Y S J) (book : Book) (honest : IsTrue (S.honest s.stores.store))
    (h : HoldsBook S J first s book) (n : NotesAwake S J asleep first s book) (o : OrdersBook S J first s)
    (name : List ℕ) (awake : asleep name ≡ false) (waits : is_pending (log_of book name) ≡ true) where
  abbrev its_log : Log
  its_log = log_of book name

  in_order : (x : Session) → session_in s.sessions name ≡ Some x → (r : Request) → at its_log.admitted its_log.done ≡ Some r →
      IsInOrder (J.header s.stores.journal name) (first name) name its_log s.limit (J.notes s.stores.journal name)
      (S.contents s.stores.store name)
  in_order x e r here =
      let named = s.table.names name x e in
      let limited = s.table.limits name x e in
      let owner : x.progress.growing.name ≡ name = x.progress.same_name ∙ named in
      let part = part_here s.limit (store_since S first s.stores.store) (session_in s.sessions) book h honest name x e
      owner limited in
      let noted = n.known name x e in
      let order = o name x e in
      let memory = (prefix_of (first name) its_log x.progress.state.parts x.progress.ledger.outcomes x.window
      x.progress.growing (S.contents s.stores.store name) part r here).memory in
      record {
        begun = order.begun;
        noted = λ is. elim order.entered [
          | inl ends ↦ absurd (no_next (first name) (J.header s.stores.journal name) its_log x.progress.state.parts
              x.progress.ledger.outcomes r x.progress.growing.name name (sha256 (body_of name its_log.done r))
              (n.existed name awake) owner memory (record { here = here; digest_is = refl }) x.progress.noted
              (J.notes s.stores.journal name) noted.offset_is ends is)
          | inr carried ↦
              due its_log x.progress.state.parts x.progress.ledger.outcomes x.window x.progress.growing r here x.fits.again
              (first name) (S.contents s.stores.store name) part carried.0 carried.1 carried.2
              ∙ ap (file_due (first name) (with_done its_log)) limited
        ];
      }

  waiting : IsInOrder (J.header s.stores.journal name) (first name) name its_log s.limit (J.notes s.stores.journal name)
      (S.contents s.stores.store name)
  waiting = by_session (session_in s.sessions name) refl
    where
      by_request : (x : Session) → session_in s.sessions name ≡ Some x → (q : Option Request) →
          at its_log.admitted its_log.done ≡ q →
          IsInOrder (J.header s.stores.journal name) (first name) name its_log s.limit (J.notes s.stores.journal name)
          (S.contents s.stores.store name)
      by_request x e None none =
          absurd (false≢true (sym (ap (λ (y : Option Request). is_some y) none) ∙ waits))
      by_request x e (Some r) here = in_order x e r here

      by_session : (y : Option Session) → session_in s.sessions name ≡ y →
          IsInOrder (J.header s.stores.journal name) (first name) name its_log s.limit (J.notes s.stores.journal name)
          (S.contents s.stores.store name)
      by_session None e =
          let unknown : is_known book name ≡ false = h.holds.names name
          ∙ ap (λ (y : Option Session). is_some (option_map kept_by y)) e in
          absurd (false≢true (sym (ap (λ (l : Log). is_pending l) (unknown_log book name unknown)) ∙ waits))
      by_session (Some x) e = by_request x e (at its_log.admitted its_log.done) refl

pub waiting_in_order : {X Y : Type 0} (S : StoreGhosts X) (J : JournalGhosts Y) → WaitingNumbersAreInOrder S J
waiting_in_order S J asleep first s book honest h n o name awake waits =
    waiting S J asleep first s book honest h n o name awake waits

-- Where nothing waits, nothing was tried.

clean : (first : Option (List ℕ)) (log : Log) (p : Parts) (finished : List (List ℕ × Verdict))
    (w : List (Option (List ℕ))) (g : Growing) (found : Option (List ℕ)) → HoldsPart first log p finished w g found →
    (IsTrue g.dirty → IsSome (at w 0)) → is_pending log ≡ false → g.dirty ≡ false
clean first log p finished w g found h held quiet = go g.dirty refl
  where
    by_request : (o : Option Request) → at log.admitted log.done ≡ o → IsSome (at w 0) → is_pending log ≡ true
    by_request None e some =
        absurd (false≢true (sym (ap (λ (x : Option (List ℕ)). is_some x)
        (first_slot first log p finished w g found h ∙ ap (option_map (body_of g.name log.done)) e)) ∙ some))
    by_request (Some r) e some = ap (λ (x : Option Request). is_some x) e

    go : (d : Bool) → g.dirty ≡ d → g.dirty ≡ false
    go false e = e
    go true e =
        absurd (false≢true (sym quiet ∙ by_request (at log.admitted log.done) refl (held e)))

no_file : (log : Log) (limit : ℕ) → log.done ≡ 0 → file_of (take_done None log) limit ≡ None
unfolding made
no_file log limit e = ap (λ (n : ℕ). file_of (made false log.admitted n) limit) e

-- the file of a name of which nothing is done is what was there
untouched : (first : Option (List ℕ)) (log : Log) (p : Parts) (finished : List (List ℕ × Verdict))
    (w : List (Option (List ℕ))) (g : Growing) (found : Option (List ℕ)) → HoldsPart first log p finished w g found →
    g.dirty ≡ false → log.done ≡ 0 → found ≡ first
untouched (Some bytes) log p finished w g found h level none = h.file.0
untouched None log p finished w g found h level none =
    subst (λ (d : Bool). MatchBool d (IsInTheMiddle (take_done None log) g.limit (at log.admitted log.done) found)
    (found ≡ file_of (take_done None log) g.limit)) level h.file.whole ∙ no_file log g.limit none

pub quiet_in_order : {X Y : Type 0} (S : StoreGhosts X) (J : JournalGhosts Y) → QuietBooksAreInOrder S J
quiet_in_order S J asleep first s book honest h n quiet name x e =
    let log = log_of book name in
    let owner : x.progress.growing.name ≡ name = x.progress.same_name ∙ s.table.names name x e in
    let part = part_here s.limit (store_since S first s.stores.store) (session_in s.sessions) book h honest name x e
    owner (s.table.limits name x e) in
    let noted = n.known name x e in
    let level = clean (first name) log _ _ _ _ _ part x.fits.held (quiet name) in
    record {
      begun = λ short. elim noted.stands [
        | inl p ↦ untouched (first name) log _ _ _ _ _ part level p.0
        | inr entries ↦ absurd (not_short (J.header s.stores.journal name) name log _ (J.notes s.stores.journal name)
            entries.1 short)
      ];
      entered = inl (quiet_ends (J.header s.stores.journal name) name log x.progress.noted
          (J.notes s.stores.journal name) noted (quiet name));
    }
