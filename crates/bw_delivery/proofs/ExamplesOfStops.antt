-- The worked row computes.
use Rattle.std.proofs.Common.{inl, inr, Bool, true, false, cond, [], ◌∷◌, refl, arith}
use Rattle.std.specs.Str.{bytes_eq}
use Rattle.bw_model.proofs.Computing.{computing}
use Rattle.bw_model.specs.Take.{Stored}
use Rattle.bw_model.specs.Wire.{Says}
use Rattle.bw_model.specs.Replies.{Judged, Noticed, DelayedStore}
use Rattle.bw_model.specs.Book.{Log, log_of, no_log}
use Rattle.bw_model.specs.Exchange.{nothing_stands}
use Rattle.bw_model.specs.ExampleWords.{a1}
use Rattle.bw_session.specs.NextNumbers.{with_done}
use Rattle.bw_kept.specs.FolderRuns.{ServesFrame}
use Rattle.bw_kept.specs.LeftFolders.{DoesFewer, LeavesAtLeast}
use Rattle.bw_delivery.specs.ExamplesOfStops.{open_message, opened_book, StoppedTurnExample}
use Rattle.bw_delivery.proofs.ExamplesOfLives.{serves, fails}

-- the number that waited is done
noted : LeavesAtLeast [] (opened_book 0) (opened_book 1)
noted = record {
  numbers = record { names = λ name. refl; logs = λ name. go (bytes_eq a1 name) };
  done = λ name. omega arith;
}
  where
    old : Log
    old = log_of (opened_book 0) a1

    go : (v : Bool) → DoesFewer (cond v old no_log) (cond v (with_done old) no_log)
    go true = record { kept = 1; is = refl; most = inr (refl, refl) }
    go false = record { kept = 0; is = refl; most = inl (omega arith) }

-- the turn in which a call fails
dies : ServesFrame false nothing_stands 0 1 [] (Says open_message) (Noticed a1 0 DelayedStore 0 ∷ []) (opened_book 0)
unfolding computing
dies = fails (Says open_message) (Noticed a1 0 DelayedStore 0 ∷ []) [] (opened_book 0) refl refl refl

-- the next server's, in which it comes again
again : ServesFrame false nothing_stands 0 0 (opened_book 1) (Says open_message) (Judged a1 0 Stored ∷ []) (opened_book 1)
unfolding computing
again = serves (Says open_message) (Judged a1 0 Stored ∷ []) (opened_book 1) (opened_book 1) refl refl refl

pub stopped_turn : StoppedTurnExample
unfolding computing
stopped_turn = (
  (
    tt,
    (
      tt,
      ((
        ((inl (0, refl), tt), (_, inl (0, 1, false, dies), refl), noted),
        (
          tt,
          (
            ((inl (0, refl), tt), (_, inr (refl, refl), refl)),
            (((inl (0, refl), tt), (_, inl (0, 0, false, again), refl)), (tt, refl)),
          ),
        ),
      )),
    ),
  ),
  refl,
)
