-- What turns do to verdicts: a number's first verdict is its only one.
use Rattle.std.specs.Prelude.{◌≡◌, ◌<◌, ℕ, Bool, IsTrue, Some, List, flat_map}
use Rattle.std.specs.List.{Contains}
use Rattle.bw_model.specs.Bytes.{at}
use Rattle.bw_model.specs.Take.{Request, Verdict}
use Rattle.bw_model.specs.Wire.{Message, Frame, Says}
use Rattle.bw_model.specs.Replies.{Judged}
use Rattle.bw_model.specs.Book.{Book, log_of, verdict_at}
use Rattle.bw_model.specs.Turn.{Faults, turn, run, book_after, is_repeat}
use Rattle.bw_model.specs.BookRules.{IsBook}

-- What was admitted under a number is never replaced, whatever turns follow.
abbrev pub AdmittedStays : Type 0
AdmittedStays = (existed : List ℕ → Bool) (book : Book) (ts : List (Frame × Faults)) (name : List ℕ)
    (n : ℕ) (r : Request) →
    at (log_of book name).admitted n ≡ Some r →
    at (log_of (book_after existed book ts) name).admitted n ≡ Some r

-- A done number stays done, and keeps its verdict, whatever turns follow.
abbrev pub VerdictsStay : Type 0
VerdictsStay = (existed : List ℕ → Bool) (book : Book) (ts : List (Frame × Faults)) → IsBook book →
    (name : List ℕ) (n : ℕ) → n < (log_of book name).done →
    let later = log_of (book_after existed book ts) name in
    (n < later.done)
    × (verdict_at (existed name) later.admitted n
    ≡ verdict_at (existed name) (log_of book name).admitted n)

-- Each verdict that a turn gives is that of a number that is done after it.
abbrev pub VerdictsAreTrue : Type 0
VerdictsAreTrue = (existed : List ℕ → Bool) (book : Book) (f : Frame) (faults : Faults) →
    IsBook book →
    (name : List ℕ) (n : ℕ) (v : Verdict) →
    Contains (turn existed book f faults).0 (Judged name n v) →
    let later = log_of (turn existed book f faults).1 name in
    (n < later.done) × (v ≡ verdict_at (existed name) later.admitted n)

-- Whatever turns follow, a message with the body of a done number gets the verdict that the
-- number had, whatever fails then.
abbrev pub RepeatsAreReported : Type 0
RepeatsAreReported = (existed : List ℕ → Bool) (book : Book) (ts : List (Frame × Faults)) (m : Message)
    (faults : Faults) → IsBook book →
    let log = log_of book m.name in
    m.number < log.done → IsTrue (is_repeat log.admitted m) →
    Contains (turn existed (book_after existed book ts) (Says m) faults).0
    (Judged m.name m.number (verdict_at (existed m.name) log.admitted m.number))

-- In a run, whatever comes, two verdicts on the same number of a name are equal.
abbrev pub RunsReportOneVerdict : Type 0
RunsReportOneVerdict = (existed : List ℕ → Bool) (book : Book) (ts : List (Frame × Faults)) →
    IsBook book → (name : List ℕ) (n : ℕ) (v w : Verdict) →
    let replies = flat_map (λ t. t.replies) (run existed book ts) in
    Contains replies (Judged name n v) → Contains replies (Judged name n w) → v ≡ w
