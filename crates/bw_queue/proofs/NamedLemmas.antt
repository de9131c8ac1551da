-- Recordings with their names, one more at a time.
use Rattle.std.proofs.Common.{◌≡◌, ◌≢◌, ◌+◌, ◌<◌, ◌≤◌, ◌++◌, ◌∷◌, [], ◌∙◌, ℕ, Bool, List, ap, arith, false, true, get_or, length, map}
use Rattle.std.proofs.Common.{nat_eq, refl, rules, string_bytes, subst, sym, take}
use Rattle.std.specs.List.{All, AllPairs, Any}
use Rattle.std.proofs.lemmas.List.{get_or-map, length-map, map-append, take_all, take_more}
use Rattle.std.proofs.lemmas.List.Elements.{All-push}
use Rattle.std.proofs.lemmas.List.Quantifiers.{all_pairs_push}
use Rattle.bw_queue.specs.NamedRecordings.{AreNamedApart, AreNamed, IsNameFor, IsOneNamed, SaysNameless, queued_path}
use Rattle.bw_queue.specs.QueueFaults.{FaultSays}
use Rattle.bw_queue.specs.declared.fault.QueueFault.{QueueFault}
use Rattle.bw_queue.specs.declared.fault.QueueFault.TheVariants.{Refused, Unread, Memory}
use Rattle.bw_queue.specs.declared.recording.QueuedRecording.{QueuedRecording}

-- the same of one more path
pub named_more : (lines paths : List (List ℕ)) (recordings : List QueuedRecording) (path : List ℕ)
    (recording : QueuedRecording) → AreNamed lines paths recordings → queued_path recording ≡ path →
    IsNameFor lines path recording.name → AreNamed lines (paths ++ path ∷ []) (recordings ++ recording ∷ [])
named_more lines paths recordings path recording are located named = record {
  located = map-append queued_path recordings (recording ∷ [])
      ∙ (ap (λ (xs : List (List ℕ)). xs ++ queued_path recording ∷ []) are.located
      ∙ ap (λ (x : List ℕ). paths ++ x ∷ []) located);
  named = All-push (λ (r : QueuedRecording). IsNameFor lines (queued_path r) r.name) recordings recording are.named
      (subst (λ (p : List ℕ). IsNameFor lines p recording.name) (sym located) named);
}

-- the texts of one more of some values
pub texts_more : {X : Type 0} (text_of : X → List ℕ) (xs : List X) (place : ℕ) (item : X) (text : List ℕ) →
    place < length xs → item ≡ get_or xs place item → text ≡ text_of item →
    map text_of (take (place + 1) xs) ≡ map text_of (take place xs) ++ text ∷ []
texts_more text_of xs place item text inside is same =
    ap (map text_of) (take_more xs place item inside) ∙ (map-append text_of (take place xs) (get_or xs place item ∷ [])
    ∙ ap (λ (x : List ℕ). map text_of (take place xs) ++ x ∷ []) (ap text_of (sym is) ∙ sym same))

-- the text of one of some values
pub text_there : {X : Type 0} (text_of : X → List ℕ) (xs : List X) (place : ℕ) (item : X) (text : List ℕ) →
    place < length xs → item ≡ get_or xs place item → text ≡ text_of item →
    (place < length (map text_of xs)) × (get_or (map text_of xs) place text ≡ text)
text_there text_of xs place item text inside is same = (
  simp length-map inside,
  get_or-map text_of xs place item text inside ∙ (ap text_of (sym is) ∙ sym same),
)

-- what the line of a fault says, in other words
pub says_more : (refuses reads refuses' reads' : List ℕ → Type 0) → ((line : List ℕ) → refuses line → refuses' line) →
    ((line : List ℕ) → reads line → reads' line) → (fault : QueueFault) → FaultSays refuses reads fault →
    FaultSays refuses' reads' fault
says_more refuses reads refuses' reads' one other (Refused line) says = one (string_bytes line) says
says_more refuses reads refuses' reads' one other (Unread line) says = other (string_bytes line) says
says_more refuses reads refuses' reads' one other Memory says = tt

-- one more recording whose name none before it has
pub apart_more : (recordings : List QueuedRecording) (place : ℕ) (d : QueuedRecording) → place < length recordings →
    AreNamedApart (take place recordings) →
    All (λ recording. recording.name ≢ (get_or recordings place d).name) (take place recordings) →
    AreNamedApart (take (place + 1) recordings)
apart_more recordings place d inside apart none = subst AreNamedApart (sym (take_more recordings place d inside))
    (all_pairs_push (λ (first second : QueuedRecording). first.name ≢ second.name) (take place recordings)
    (get_or recordings place d) apart none)

-- none of those up to one more has the name
pub none_more : (recordings : List QueuedRecording) (place : ℕ) (d : QueuedRecording) (name : List ℕ) →
    place < length recordings → All (λ recording. recording.name ≢ name) (take place recordings) →
    (get_or recordings place d).name ≢ name → All (λ recording. recording.name ≢ name) (take (place + 1) recordings)
none_more recordings place d name inside none one =
    subst (All (λ (recording : QueuedRecording). recording.name ≢ name)) (sym (take_more recordings place d inside))
    (All-push (λ (recording : QueuedRecording). recording.name ≢ name) (take place recordings)
    (get_or recordings place d) none one)
