-- Worked rows: a sender that is started again.
use Rattle.std.specs.Prelude.{◌≡◌, ℕ, Some, List, [], ◌∷◌, ◌++◌, length, map}
use Rattle.bw_model.specs.Book.{log_of}
use Rattle.bw_model.specs.Turn.{good}
use Rattle.bw_model.specs.Exchange.{nothing_stands}
use Rattle.bw_model.specs.ExampleWords.{a1, file_in, small_file}
use Rattle.bw_model.specs.ExamplesOfWorlds.{small_take}
use Rattle.bw_model.specs.World.{settled, stored}
use Rattle.bw_delivery.specs.Reruns.{Reruns, RerunEvent, Starts, Resumes, Offers, Sends, Delivers}
use Rattle.bw_delivery.specs.Reruns.{Brings, new_reruns, reruns_after}

-- the runs of the small take after these events, if nothing fails
abbrev pub reran : List RerunEvent → Reruns
reran events =
    reruns_after nothing_stands (new_reruns a1 small_take) (map (λ e. (e, good)) events)

-- how many messages were sent, replies written and numbers done, and how many each run has settled
abbrev pub rerun_counts : Reruns → List ℕ
rerun_counts x =
    length x.sent ∷ length x.replies ∷ (log_of x.book a1).done ∷ map settled x.runs

-- the first run hears one of two verdicts, and is killed
abbrev pub killed_run : List RerunEvent
killed_run =
    Starts ∷ Offers 0 ∷ Offers 0 ∷ Offers 0 ∷ Sends 0 0 ∷ Sends 0 1 ∷ Delivers 0 ∷ Delivers 1
    ∷ Brings 0 0 ∷ []

-- two numbers are done, of which it knows one
abbrev pub KilledRunExample : Type 0
KilledRunExample = rerun_counts (reran killed_run) ≡ 2 ∷ 2 ∷ 2 ∷ 1 ∷ []

-- the second run sends all three, from number 0 on, and hears their verdicts
abbrev pub second_run : List RerunEvent
second_run = killed_run
    ++ Starts ∷ Offers 1 ∷ Offers 1 ∷ Offers 1 ∷ Sends 1 0 ∷ Sends 1 1 ∷ Sends 1 2 ∷ Delivers 2
    ∷ Delivers 3 ∷ Delivers 4 ∷ Brings 1 2 ∷ Brings 1 3 ∷ Brings 1 4 ∷ []

-- the block is in the file once
abbrev pub SecondRunExample : Type 0
SecondRunExample =
    (rerun_counts (reran second_run) ≡ 5 ∷ 5 ∷ 3 ∷ 1 ∷ 3 ∷ [])
    × (map stored (reran second_run).runs ≡ 1 ∷ 3 ∷ [])
    × (file_in (reran second_run).book ≡ Some small_file)

-- the first message is delivered once more, and the replies to the second run reach the first and a
-- third, which began where the first was
abbrev pub late_replies : List RerunEvent
late_replies = second_run
    ++ Delivers 0 ∷ Resumes 0 ∷ Brings 0 3 ∷ Brings 0 5 ∷ Brings 2 4 ∷ Brings 2 1 ∷ []

-- each counts what it heard, and nothing changes
abbrev pub LateReplyExample : Type 0
LateReplyExample =
    (rerun_counts (reran late_replies) ≡ 5 ∷ 6 ∷ 3 ∷ 2 ∷ 3 ∷ 3 ∷ [])
    × (file_in (reran late_replies).book ≡ Some small_file)
