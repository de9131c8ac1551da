-- The text of a rehearsal with stops, a part at a time.
use Rattle.std.proofs.Common.{◌≡◌, ◌≤◌, ℕ, List, [], ◌++◌, append_assoc, length, sym, ◌∙◌, ap, subst}
use Rattle.bw_model.specs.Book.{log_of}
use Rattle.bw_model.specs.World.{World}
use Rattle.bw_console.specs.Input.{longest_input}
use Rattle.bw_console.specs.Lines.{lines_of}
use Rattle.bw_commands.specs.Rehearsals.{world_counts_line}
use Rattle.bw_delivery.specs.Machines.{ShowsNext}
use Rattle.bw_delivery.specs.declared.event.StopEvent.{StopEvent}
use Rattle.bw_delivery.specs.declared.machine.Life.{Life}
use Rattle.bw_delivery.specs.declared.machine.Machine.{Machine}
use Rattle.bw_delivery.specs.declared.machine.Machine.TheVariants as machines
use Rattle.bw_delivery.specs.ServerLines.{SayStopEvents}
use Rattle.bw_delivery.specs.StopTexts.{IsStopsText, IsStopsTextOfLines, progress_text}

pub same_counts : (a a' b b' c c' : ℕ) → a ≡ a' → b ≡ b' → c ≡ c' →
    world_counts_line a b c ≡ world_counts_line a' b' c'
same_counts a a' b b' c c' e f g =
    ap (λ (n : ℕ). world_counts_line n b c) e ∙ ap (λ (n : ℕ). world_counts_line a' n c) f
    ∙ ap (λ (n : ℕ). world_counts_line a' b' n) g

-- three parts, one after another
pub in_parts : (none first second whole a a' b c : List ℕ) → none ≡ [] → first ≡ none ++ a → a ≡ a' →
    second ≡ first ++ b → whole ≡ second ++ c → whole ≡ a' ++ b ++ c
in_parts none first second whole a a' b c empty put same more rest =
    rest ∙ ap (λ (z : List ℕ). z ++ c)
    (more ∙ ap (λ (z : List ℕ). z ++ b) (put ∙ ap (λ (z : List ℕ). z ++ a) empty ∙ same))

-- four parts, from the last one on
pub of_four : (a b c d : List ℕ) → a ++ (b ++ (c ++ d)) ≡ a ++ b ++ c ++ d
of_four a b c d = sym (append_assoc (a ++ b) c d ∙ append_assoc a b (c ++ d))

-- how far a server that runs got
pub while_it_runs : (machine : Machine) (life : Life) → machine ≡ machines.Runs life → (limit : ℕ) (w : World)
    (name : List ℕ) (done : ℕ) (prefix text : List ℕ) →
    (done ≡ (log_of w.book name).done → text ≡ prefix ++ progress_text (machines.Runs life) name w) →
    ShowsNext limit w name done machine → text ≡ prefix ++ progress_text machine name w
while_it_runs machine life is limit w name done prefix text runs =
    subst (λ (m : Machine). ShowsNext limit w name done m → text ≡ prefix ++ progress_text m name w) (sym is)
    (λ looked. runs looked.0)

-- the lines say the events that were played, and this is the text
pub of_lines : (name : List ℕ) (limit : ℕ) (input : List ℕ) (events played : List StopEvent) (text bytes : List ℕ) →
    length input ≤ longest_input → SayStopEvents (lines_of input) events → played ≡ events →
    IsStopsText name limit played text → bytes ≡ text → IsStopsTextOfLines name limit input bytes
of_lines name limit input events played text bytes within said same right is = record {
  within = within;
  events = played;
  said = subst (SayStopEvents (lines_of input)) (sym same) said;
  right = subst (IsStopsText name limit played) (sym is) right;
}
