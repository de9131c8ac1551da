-- Words that are known to be values, whatever they are: `clap`'s walk over them without its tests for a hyphen, so that
-- it computes.
use Rattle.std.proofs.Common.{◌≡◌, ℕ, List, [], ◌∷◌, ◌++◌, ◌&&◌, Bool, true, false, Option, Some, None}
use Rattle.std.proofs.Common.{refl, ap, sym, ◌∙◌, subst}
use Rattle.std.specs.Prelude.{⊤, map, if◌then◌else◌, find, fold, is_some, option_map, option_and_then}
use Rattle.std.specs.Option.{option_map_or}
use Rattle.std.specs.Str.{bytes_eq}
use Rattle.std.proofs.lemmas.Bool.{ne_eqb}
use Rattle.std.proofs.lemmas.List.{append-nil, append_assoc}
use Rattle.clap.specs.Lexer.{long_of, long_of_rest, short_of, short_of_rest, strip_byte}
use Rattle.clap.specs.Walk.{Held, Names, Row, Rule, Step, Text, Waiting, Walk, after_step, answers_to, finished}
use Rattle.clap.specs.Walk.{idle, option, positional, value, trailing, long_or_other, nothing_held, plain_word, settled}
use Rattle.clap.specs.Walk.{short_or_plain, walk, walk_from, walked, walked_from, word_met}
use Rattle.clap.specs.Kinds.{Kinds, or_else}
use Rattle.clap.specs.Faults.{bundle_fault, check_fault, defaults_fault, entered_fault, fault_of, flag_word_fault}
use Rattle.clap.specs.Faults.{level_fault, settle_fault, step_fault, turn_fault, walk_fault, word_fault}
use Rattle.clap.specs.Simple.{App, Shape, built, entered, label_of, names_of, rows_at, subcommand_of}
use Rattle.clap.proofs.OnLiterals.{clap_on_literals}
use Rattle.bw_args.specs.Commands.{command_line}
use Rattle.bw_args.specs.Forms.{IsPlain}
use Rattle.bw_args.specs.Lines.{AsksFor, IsWishOf, Wish}

-- a word of which only is known that it is a value, or one that is written out
pub data Word : Type 0 where
  unknown : Text → Word
  literal : Text → Word

abbrev pub text_of : Word → Text
text_of (unknown t) = t
text_of (literal t) = t

abbrev pub IsValue : Word → Type 0
IsValue (unknown t) = IsPlain t
IsValue (literal t) = ⊤

abbrev pub AreValues : List Word → Type 0
AreValues [] = ⊤
AreValues (word ∷ rest) = IsValue word × AreValues rest

-- ---- what such a word is to `clap`

no_hyphen_first : (t : Text) → IsPlain t → strip_byte 45 t ≡ None
no_hyphen_first [] is = refl
no_hyphen_first (d ∷ ds) is = ap (λ b. if b then Some ds else None) (ne_eqb d 45 is)

no_long : (t : Text) → IsPlain t → long_of t ≡ None
no_long t is =
    ap (λ o. option_and_then long_of_rest (option_and_then (strip_byte 45) o)) (no_hyphen_first t is)

no_short : (t : Text) → IsPlain t → short_of t ≡ None
no_short t is = ap (option_and_then short_of_rest) (no_hyphen_first t is)

no_dashes : (t : Text) → IsPlain t → bytes_eq t (45 ∷ 45 ∷ []) ≡ false
no_dashes [] is = refl
no_dashes (d ∷ ds) is = ap (λ b. b && bytes_eq ds (45 ∷ [])) (ne_eqb d 45 is)

other_met : (c : List Rule) (waiting : Waiting) (position : ℕ) (t : Text) (h : Held) → IsPlain t
    → (if bytes_eq t (45 ∷ 45 ∷ []) then (h, trailing position) else long_or_other c waiting t (long_of t) h)
    ≡ plain_word c waiting t h
other_met c waiting position t h is =
    ap (λ b. if b then (h, trailing position) else long_or_other c waiting t (long_of t) h) (no_dashes t is)
    ∙ ap (λ o. long_or_other c waiting t o h) (no_long t is)
    ∙ ap (λ o. short_or_plain c waiting t o h) (no_short t is)

abbrev value_met : List Rule → Bool → Waiting → Text → Held → Held × Step
value_met c is_trailing waiting t h = if is_trailing then (h, value) else plain_word c waiting t h

plain_met : (c : List Rule) (is_trailing : Bool) (waiting : Waiting) (position : ℕ) (t : Text) (h : Held) → IsPlain t
    → word_met c [] is_trailing waiting position t h ≡ value_met c is_trailing waiting t h
plain_met c true waiting position t h is = refl
plain_met c false idle position t h is = other_met c idle position t h is
plain_met c false (option id) position t h is = other_met c (option id) position t h is
plain_met c false positional position t h is = other_met c positional position t h is

other_fault_none : (c : List Rule) (again : Bool) (t : Text) (h : Held) → IsPlain t
    → (if bytes_eq t (45 ∷ 45 ∷ []) then [] else flag_word_fault c again (long_of t) t h) ≡ []
other_fault_none c again t h is =
    ap (λ b. if b then [] else flag_word_fault c again (long_of t) t h) (no_dashes t is)
    ∙ ap (λ o. flag_word_fault c again o t h) (no_long t is)
    ∙ ap (λ o. option_map_or (λ flags. bundle_fault c again flags h) o []) (no_short t is)

plain_fault : (s : Shape) (is_trailing : Bool) (waiting : Waiting) (t : Text) (h : Held) → IsPlain t
    → word_fault s [] is_trailing waiting t h ≡ []
plain_fault s true waiting t h is = refl
plain_fault s false idle t h is = other_fault_none s.rules s.args_override_self t h is
plain_fault s false (option id) t h is = other_fault_none s.rules s.args_override_self t h is
plain_fault s false positional t h is = other_fault_none s.rules s.args_override_self t h is

-- ---- the walk over such words

abbrev value_walked : List Rule → Option (Text × List Text) → Walk → Text → Walk
value_walked c (Some p) w t = record w { stopped = Some (p.0, p.1 ++ t ∷ []) }
value_walked c None w t =
    let met = value_met c w.is_trailing w.waiting t w.held in after_step c t w met.0 met.1

abbrev pub walked_by : List Rule → Walk → Word → Walk
walked_by c w (unknown t) = value_walked c w.stopped w t
walked_by c w (literal t) = walked c [] w t

value_walked_same : (c : List Rule) (stopped : Option (Text × List Text)) (w : Walk) (t : Text) → IsPlain t
    → walked_from c [] stopped w t ≡ value_walked c stopped w t
value_walked_same c (Some p) w t is = refl
value_walked_same c None w t is =
    ap (λ (met : Held × Step). after_step c t w met.0 met.1)
    (plain_met c w.is_trailing w.waiting w.position t w.held is)

walked_same : (c : List Rule) (w : Walk) (word : Word) → IsValue word
    → walked c [] w (text_of word) ≡ walked_by c w word
unfolding walked
walked_same c w (unknown t) is = value_walked_same c w.stopped w t is
walked_same c w (literal t) is = refl

walk_same : (c : List Rule) (words : List Word) → AreValues words → (w : Walk)
    → fold (walked c []) w (map text_of words) ≡ fold (walked_by c) w words
walk_same c [] are w = refl
walk_same c (word ∷ rest) are w =
    ap (λ v. fold (walked c []) v (map text_of rest)) (walked_same c w word are.0)
    ∙ walk_same c rest are.1 (walked_by c w word)

abbrev value_turn : Shape → Walk → Text → Kinds
value_turn s w t =
    let met = value_met s.rules w.is_trailing w.waiting t w.held in
    if is_some w.stopped then [] else step_fault s w.position met.0 met.1

abbrev turn_by : Shape → Walk → Word → Kinds
turn_by s w (unknown t) = value_turn s w t
turn_by s w (literal t) = turn_fault s [] w t

turn_same : (s : Shape) (w : Walk) (word : Word) → IsValue word → turn_fault s [] w (text_of word) ≡ turn_by s w word
turn_same s w (literal t) is = refl
turn_same s w (unknown t) is =
    ap (λ k. if is_some w.stopped then [] else or_else k
    (step_fault s w.position (word_met s.rules [] w.is_trailing w.waiting w.position t w.held).0
    (word_met s.rules [] w.is_trailing w.waiting w.position t w.held).1))
    (plain_fault s w.is_trailing w.waiting t w.held is)
    ∙ ap (λ (met : Held × Step). if is_some w.stopped then [] else step_fault s w.position met.0 met.1)
    (plain_met s.rules w.is_trailing w.waiting w.position t w.held is)

abbrev pub fault_by : Shape → Walk → List Word → Kinds
fault_by s w [] = []
fault_by s w (word ∷ rest) = or_else (turn_by s w word) (fault_by s (walked_by s.rules w word) rest)

fault_same : (s : Shape) (words : List Word) → AreValues words → (w : Walk)
    → walk_fault s [] w (map text_of words) ≡ fault_by s w words
unfolding walk_fault
fault_same s [] are w = refl
fault_same s (word ∷ rest) are w =
    ap (λ k. or_else k (walk_fault s [] (walked s.rules [] w (text_of word)) (map text_of rest)))
    (turn_same s w word are.0)
    ∙ ap (λ v. or_else (turn_by s w word) (walk_fault s [] v (map text_of rest))) (walked_same s.rules w word are.0)
    ∙ ap (or_else (turn_by s w word)) (fault_same s rest are.1 (walked_by s.rules w word))

-- ---- a command on such words

abbrev after_walk : Shape → Walk → Kinds
after_walk s w = or_else (settle_fault s.rules s.args_override_self w.held)
    (or_else (defaults_fault (settled s.rules w.held).rows s.rules) (check_fault s (finished s.rules w.held) false))

-- the fault of the words that follow its name
abbrev pub level_by : Shape → List Word → Kinds
level_by s words = or_else (fault_by s (walk_from nothing_held) words)
    (after_walk s (fold (walked_by s.rules) (walk_from nothing_held) words))

-- its rows
abbrev pub rows_by : Shape → List Word → List Row
rows_by s words = finished s.rules (fold (walked_by s.rules) (walk_from nothing_held) words).held

level_same : (s : Shape) (words : List Word) → AreValues words
    → level_fault s [] nothing_held (map text_of words) false [] ≡ level_by s words
level_same s words are =
    ap (λ k. or_else k (after_walk s (walk s.rules [] nothing_held (map text_of words))))
    (fault_same s words are (walk_from nothing_held))
    ∙ ap (λ w. or_else (fault_by s (walk_from nothing_held) words) (after_walk s w))
    (walk_same s.rules words are (walk_from nothing_held))

rows_same : (s : Shape) (words : List Word) → AreValues words
    → rows_at s (map text_of words) ≡ (s.name, rows_by s words)
rows_same s words are =
    ap (λ (w : Walk). (s.name, finished s.rules w.held)) (walk_same s.rules words are (walk_from nothing_held))

-- ---- the program on a command's name and such words

abbrev entering : Text → List Text → Walk
entering name words = record (walk_from nothing_held) { stopped = Some (name, words) }

-- the program enters this command at its name
pub record Enters (a : App) (name : Text) (s : Shape) : Type 0 where
  pub walks : walked a.top.rules (names_of a) (walk_from nothing_held) name ≡ entering name []
  pub takes : turn_fault a.top (names_of a) (walk_from nothing_held) name ≡ []
  pub finds : find (λ s. answers_to name (label_of s)) a.subs ≡ Some s

rest_kept : (c : List Rule) (names : Names) (name : Text) (words before : List Text)
    → fold (walked c names) (entering name before) words ≡ entering name (before ++ words)
unfolding walked
rest_kept c names name [] before = ap (entering name) (sym (append-nil before))
rest_kept c names name (word ∷ rest) before =
    rest_kept c names name rest (before ++ word ∷ []) ∙ ap (entering name) (append_assoc before (word ∷ []) rest)

rest_taken : (s : Shape) (names : Names) (name : Text) (words before : List Text)
    → walk_fault s names (entering name before) words ≡ []
unfolding walked walk_fault
rest_taken s names name [] before = refl
rest_taken s names name (word ∷ rest) before = rest_taken s names name rest (before ++ word ∷ [])

walk_enters : (a : App) (name : Text) (s : Shape) (words : List Text) → Enters a name s
    → walk a.top.rules (names_of a) nothing_held (name ∷ words) ≡ entering name words
walk_enters a name s words is =
    ap (λ w. fold (walked a.top.rules (names_of a)) w words) is.walks ∙ rest_kept a.top.rules (names_of a) name words []

name_taken : (a : App) (name : Text) (s : Shape) (words : List Text) → Enters a name s
    → walk_fault a.top (names_of a) (walk_from nothing_held) (name ∷ words) ≡ []
unfolding walk_fault
name_taken a name s words is =
    ap (λ k. or_else k (walk_fault a.top (names_of a)
    (walked a.top.rules (names_of a) (walk_from nothing_held) name) words)) is.takes
    ∙ ap (λ w. walk_fault a.top (names_of a) w words) is.walks ∙ rest_taken a.top (names_of a) name words []

-- what is looked at after the walk of the program
abbrev after_command : App → Option (Text × List Text) → Held → Kinds
after_command a stop end = or_else (settle_fault a.top.rules a.top.args_override_self end)
    (or_else (defaults_fault (settled a.top.rules end).rows a.top.rules)
    (check_fault a.top (finished a.top.rules end) (is_some (entered a stop))))

or_none : (k : Kinds) → or_else k [] ≡ k
or_none [] = refl
or_none (k ∷ ks) = refl

abbrev found_fault : Option Shape → List Text → Kinds
found_fault found words = option_map_or (λ s. level_fault s [] nothing_held words false []) found []

-- what the program looks at itself, where it has entered a command
abbrev IsContent : App → Type 0
IsContent a = or_else (settle_fault a.top.rules a.top.args_override_self nothing_held)
    (or_else (defaults_fault (settled a.top.rules nothing_held).rows a.top.rules)
    (check_fault a.top (finished a.top.rules nothing_held) true)) ≡ []

abbrev program_fault : App → List Text → Kinds
program_fault a words =
    let w = walk a.top.rules (names_of a) nothing_held words in
    or_else (walk_fault a.top (names_of a) (walk_from nothing_held) words)
    (or_else (entered_fault a w.stopped) (after_command a w.stopped w.held))

program_same : (a : App) (name : Text) (s : Shape) (words : List Word) → Enters a name s → IsContent a
    → AreValues words → program_fault a (name ∷ map text_of words) ≡ level_by s words
program_same a name s words is content are =
    let texts = map text_of words in
    let whole : List Text = name ∷ texts in
    ap (λ k. or_else k (or_else (entered_fault a (walk a.top.rules (names_of a) nothing_held whole).stopped)
    (after_command a (walk a.top.rules (names_of a) nothing_held whole).stopped
    (walk a.top.rules (names_of a) nothing_held whole).held))) (name_taken a name s texts is)
    ∙ ap (λ (w : Walk). or_else (entered_fault a w.stopped) (after_command a w.stopped w.held))
    (walk_enters a name s texts is)
    ∙ ap (λ (o : Option Shape). or_else (found_fault o texts)
    (or_else (settle_fault a.top.rules a.top.args_override_self nothing_held)
    (or_else (defaults_fault (settled a.top.rules nothing_held).rows a.top.rules)
    (check_fault a.top (finished a.top.rules nothing_held) (is_some (option_map (λ s. rows_at s texts) o))))))
    is.finds
    ∙ ap (or_else (level_fault s [] nothing_held texts false [])) content
    ∙ or_none (level_fault s [] nothing_held texts false []) ∙ level_same s words are

program_rows : (a : App) (name : Text) (s : Shape) (words : List Word) → Enters a name s → AreValues words
    → entered a (walk a.top.rules (names_of a) nothing_held (name ∷ map text_of words)).stopped
    ≡ Some (s.name, rows_by s words)
program_rows a name s words is are =
    ap (λ (w : Walk). entered a w.stopped) (walk_enters a name s (map text_of words) is)
    ∙ ap (option_map (λ s. rows_at s (map text_of words))) is.finds ∙ ap Some (rows_same s words are)

content : IsContent (built command_line)
unfolding clap_on_literals
content = refl

-- the fault of a command's name and such words
pub fault_of_values : {name : Text} {s : Shape} → Enters (built command_line) name s → (program : Text)
    (words : List Word) → AreValues words
    → fault_of command_line (program ∷ name ∷ map text_of words) ≡ level_by s words
fault_of_values is program words are = program_same (built command_line) _ _ words is content are

-- and its rows
pub rows_of_values : {name : Text} {s : Shape} → Enters (built command_line) name s → (program : Text)
    (words : List Word) → AreValues words
    → subcommand_of command_line (program ∷ name ∷ map text_of words) ≡ Some (s.name, rows_by s words)
rows_of_values is program words are = program_rows (built command_line) _ _ words is are

-- they ask for what the command's rows ask for, where it has no fault
pub values_ask : {name : Text} {s : Shape} {wish : Wish} → Enters (built command_line) name s → (program : Text)
    (words : List Word) → AreValues words → level_by s words ≡ [] → IsWishOf (Some (s.name, rows_by s words)) wish
    → AsksFor (program ∷ name ∷ map text_of words) wish
values_ask {wish = wish} is program words are taken asked = record {
  taken = fault_of_values is program words are ∙ taken;
  asked = subst (λ found. IsWishOf found wish) (sym (rows_of_values is program words are)) asked;
}
