-- Paths that are passed, and what is reported then: nothing.
use Rattle.std.proofs.Common.{◌≡◌, List, None, Ok, Option, Some, ap, refl, subst, sym, ℕ}
use Rattle.bw_stream.specs.declared.sink.Sink.{Ghosts as Writer}
use Rattle.bw_ports.specs.declared.file_kind.FileKind.{FileKind}
use Rattle.bw_queue.specs.QueueOpenings.{PassesKind}

module _ {E : Type 0} (kinds : List ℕ → FileKind → Type 0) (reported : Writer E) where
  pub passed_same : (path : Option (List ℕ)) (e e' : E) → PassesKind kinds reported path (Ok tt) e e' → e' ≡ e
  passed_same None e e' passes = passes.1
  passed_same (Some path) e e' passes = passes.2.1

  -- .. so it is passed by whoever reports nothing
  pub passed_still : (path : Option (List ℕ)) (e e' : E) → PassesKind kinds reported path (Ok tt) e e' →
      (f : E) → PassesKind kinds reported path (Ok tt) f f
  passed_still None e e' passes f = (refl, refl)
  passed_still (Some path) e e' passes f = (passes.0, passes.1, (passes.2.0, refl))
