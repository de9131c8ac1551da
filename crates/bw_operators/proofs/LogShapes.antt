-- A line of a log has no float as JSON, and few levels, so that its text is pinned and reads back.
use Rattle.std.proofs.Common.{◌≡◌, ◌≤◌, ℕ, Bool, true, false, List, codes, refl, lit≤, if◌then◌else◌}
use Rattle.std.specs.List.{after_first, before_first}
use Rattle.std.specs.Str.{bytes_eq}
use Rattle.serde_json.specs.Data.{Data, depth}
use Rattle.serde_json.specs.Written.{has_float}
use Rattle.bw_operators.specs.LogObjects.{has_space, is_space, line_data, said_at, said_of_peer, said_of_take}

-- of one of the three shapes of an object
abbrev shaped : Bool → Bool → Bool → Bool → Data → Data → Data → Data
shaped a b c d peer take plain =
    if a then (if b then (if c then peer else (if d then take else plain)) else plain) else plain

has_shape : (P : Data → Type 0) (a b c d : Bool) (peer take plain : Data) → P peer → P take → P plain →
    P (shaped a b c d peer take plain)
has_shape P true true true d peer take plain p t o = p
has_shape P true true false true peer take plain p t o = t
has_shape P true true false false peer take plain p t o = o
has_shape P true false c d peer take plain p t o = o
has_shape P false b c d peer take plain p t o = o

-- what holds of each shape holds of a line
of_line : (P : Data → Type 0) (time line : List ℕ) →
    ((said : List ℕ) → P (said_at time said)) → ((which said : List ℕ) → P (said_of_peer time which said)) →
    ((which said : List ℕ) → P (said_of_take time which said)) → P (line_data time line)
unfolding line_data
of_line P time line plain peer take =
    let others = after_first is_space line in
    let first = before_first is_space line in
    has_shape P (has_space line) (has_space others) (bytes_eq first (codes "peer")) (bytes_eq first (codes "take"))
    (said_of_peer time (before_first is_space others) (after_first is_space others))
    (said_of_take time (before_first is_space others) (after_first is_space others)) (said_at time line)
    (peer (before_first is_space others) (after_first is_space others))
    (take (before_first is_space others) (after_first is_space others)) (plain line)

pub line-has_float : (time line : List ℕ) → has_float (line_data time line) ≡ false
line-has_float time line = of_line (λ d. has_float d ≡ false) time line (λ said. refl) (λ which said. refl)
    (λ which said. refl)

pub line-depth : (time line : List ℕ) → depth (line_data time line) ≤ 127
line-depth time line = of_line (λ d. depth d ≤ 127) time line (λ said. lit≤ tt) (λ which said. lit≤ tt)
    (λ which said. lit≤ tt)
