use Rattle.std.proofs.Common.{◌≡◌, ℕ, ◌+◌, List, Option, length, IsTrue, is_some, false}
use Rattle.std.specs.List.{All}
use Rattle.bw_model.specs.Book.{Log}
use Rattle.bw_session.specs.NextNumbers.{KeepsBoth}
use Rattle.bw_session.specs.ConsecutiveCalls.{DoesConsecutively}
use Rattle.bw_session.specs.NameNotes.{IsNoted}
use Rattle.bw_session.specs.WriteOrders.{FileComesFirst, NextIsCarriedOut}
use Rattle.bw_session.specs.ServedReplies.{IsServing, IsTimely}
use Rattle.bw_session.specs.Sessions.{CallsFew, KeepsTake, part_of}
use Rattle.bw_session.specs.Runs.{with_more_done, HasDrained}
use Rattle.bw_session.proofs.session.Session.drain.Given as goal

abbrev pub invariant-loop-slot : goal.invariant-loop-slot
invariant-loop-slot g l = record {
  both : KeepsBoth g.S.TakeStore g.J.Journal false l.fn.self.progress.name l.fn.stores.store l.stores.store
      l.fn.stores.journal l.stores.journal;
  calls : CallsFew (g.S.TakeStore.calls l.fn.stores.store) (g.S.TakeStore.calls l.stores.store)
      (length l.fn.self.progress.ledger.outcomes) (length l.self.progress.ledger.outcomes) false;
  asked : (n : ℕ) × DoesConsecutively g.S.TakeStore n (part_of l.fn.self) l.fn.stores.store (part_of l.self) l.stores.store;
  reached : asked.0 + length l.fn.out.items ≡ l._slot;
  take : KeepsTake l.fn.self l.self;
  few : length l.out.items ≡ l._slot;
  served : All IsServing l.fn.out.items → All IsServing l.out.items;
  timely : All (IsTimely false) l.fn.out.items → All (IsTimely false) l.out.items;
  drained : IsTrue (g.S.TakeStore.honest l.fn.stores.store) → (first : Option (List ℕ)) (log : Log) →
      HasDrained first log l.fn.out.items (part_of l.fn.self) (g.S.TakeStore.contents l.fn.stores.store l.fn.self.progress.name) →
      HasDrained first log l.out.items (part_of l.self) (g.S.TakeStore.contents l.stores.store l.fn.self.progress.name);
  noted : IsTrue (g.S.TakeStore.honest l.fn.stores.store) → IsTrue (g.J.Journal.honest l.fn.stores.journal) →
      (first : Option (List ℕ)) (log : Log) →
      HasDrained first log l.fn.out.items (part_of l.fn.self) (g.S.TakeStore.contents l.fn.stores.store l.fn.self.progress.name) →
      (g.J.Journal.header l.fn.stores.journal l.fn.self.progress.name).existed ≡ is_some first →
      IsNoted (g.J.Journal.header l.fn.stores.journal l.fn.self.progress.name) l.fn.self.progress.name
      (with_more_done log (length l.fn.out.items)) l.fn.self.progress.noted
      (g.J.Journal.notes l.fn.stores.journal l.fn.self.progress.name) →
      IsNoted (g.J.Journal.header l.fn.stores.journal l.fn.self.progress.name) l.fn.self.progress.name
      (with_more_done log (length l.out.items)) l.self.progress.noted
      (g.J.Journal.notes l.stores.journal l.fn.self.progress.name);
  ordered : IsTrue (g.S.TakeStore.honest l.fn.stores.store) → IsTrue (g.J.Journal.honest l.fn.stores.journal) →
      (first : Option (List ℕ)) (log : Log) →
      HasDrained first log l.fn.out.items (part_of l.fn.self) (g.S.TakeStore.contents l.fn.stores.store l.fn.self.progress.name) →
      (g.J.Journal.header l.fn.stores.journal l.fn.self.progress.name).existed ≡ is_some first →
      IsNoted (g.J.Journal.header l.fn.stores.journal l.fn.self.progress.name) l.fn.self.progress.name
      (with_more_done log (length l.fn.out.items)) l.fn.self.progress.noted
      (g.J.Journal.notes l.fn.stores.journal l.fn.self.progress.name) →
      FileComesFirst (g.J.Journal.header l.fn.stores.journal l.fn.self.progress.name) first l.fn.self.progress.name
      l.fn.self.progress.noted (NextIsCarriedOut (part_of l.fn.self))
      (g.J.Journal.notes l.fn.stores.journal l.fn.self.progress.name)
      (g.S.TakeStore.contents l.fn.stores.store l.fn.self.progress.name) →
      FileComesFirst (g.J.Journal.header l.fn.stores.journal l.fn.self.progress.name) first l.fn.self.progress.name
      l.self.progress.noted (NextIsCarriedOut (part_of l.self))
      (g.J.Journal.notes l.stores.journal l.fn.self.progress.name)
      (g.S.TakeStore.contents l.stores.store l.fn.self.progress.name);
}
