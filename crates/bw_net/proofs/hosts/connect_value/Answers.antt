use Rattle.std.proofs.Common.{◌≡◌, ℕ, List, ◌++◌, take, drop, Bool, true, false, Option, Some, None, refl, sym, ◌∙◌, ap}
use Rattle.std.proofs.Common.{Bor}
use Rattle.std.specs.Prelude.{codes, MatchOption, option_map, if◌then◌else◌}
use Rattle.std.specs.Cmp.Lexicographic.{same_text}
use Rattle.std.specs.Str.{bytes_eq}
use Rattle.std.specs.Str.Pattern.{FindsTextPrefix, StripsPrefix}
use Rattle.std.proofs.lemmas.List.{take-append-drop}
use Rattle.std.proofs.lemmas.Slice.Eq.{bytes_eq-Decides}
use Rattle.std.proofs.Math.Seq.{take-append_seam}
use Rattle.bw_net.specs.Hosts.{connect_value}
use Rattle.bw_net.proofs.hosts.connect_value.Goals as goal

abbrev option : List ℕ
option = codes "--connect="

-- what a test of the first bytes of a word chooses
abbrev chosen : List ℕ → Bool → Option (List ℕ)
chosen word begins = if begins then Some (drop 10 word) else None

none_chosen : (word : List ℕ) (begins : Bool) → begins ≡ bytes_eq (take 10 word) option →
    FindsTextPrefix option word None → None ≡ chosen word begins
none_chosen word false e lacks = refl
none_chosen word true e lacks = absurd (lacks (drop 10 word)
    (sym (take-append-drop 10 word) ∙ ap (λ (w : List ℕ). w ++ drop 10 word) (same_text (take 10 word) option e)))

stripped : (word : List ℕ) (r : Option (Bor (List ℕ))) →
    MatchOption r (FindsTextPrefix option word None) (λ x. StripsPrefix (FindsTextPrefix option) word x.now) →
    option_map (λ server. server.now) r ≡ connect_value word
stripped word (Some x) h =
    let begins : take 10 word ≡ option = ap (take 10) h.1.1 ∙ take-append_seam option (drop h.0 word) in
    ap (λ (l : List ℕ). Some l) (h.2 ∙ ap (λ (n : ℕ). drop n word) h.1.0)
    ∙ ap (chosen word) (sym ((bytes_eq-Decides (take 10 word) option).1 begins))
stripped word None h = none_chosen word (bytes_eq (take 10 word) option) refl h

pub returns : goal.returns
returns c = stripped c.args.word.now c.strip_prefix.result c.strip_prefix.ensures.cases
