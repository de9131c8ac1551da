-- What came over a link, counted.
use Rattle.std.specs.Prelude.{ℕ, ◌+◌, ◌-◌, ◌^◌, ◌||◌, if◌then◌else◌, nat_le}
use Rattle.std.specs.Prelude.{List, [], ◌∷◌, ◌++◌, length, min, fold}
use Rattle.std.specs.List.{list_any}
use Rattle.std.specs.Str.{bytes_eq}
use Rattle.bw_model.specs.Wire.{Frame, Says, Asks, Bye, message_body}

-- the messages among frames: how many, the bytes of their bodies, and their first names, each once
pub record Counted : Type 0 where
  pub messages : ℕ
  pub bytes : ℕ
  pub names : List (List ℕ)

-- this many names are reported
abbrev pub most_names : ℕ
most_names = 8

-- a count stays at the last one
abbrev pub up_to_last : ℕ → ℕ
up_to_last n = min n (2 ^ 64 - 1)

-- the names with one appended, if it is new and there is room
abbrev pub with_name : List (List ℕ) → List ℕ → List (List ℕ)
with_name names name =
    if list_any (λ n. bytes_eq n name) names || nat_le most_names (length names) then names
    else names ++ name ∷ []

-- one frame more
abbrev pub counting_frame : Counted → Frame → Counted
counting_frame c (Says m) = record {
  messages = up_to_last (c.messages + 1);
  bytes = up_to_last (c.bytes + length (message_body m));
  names = with_name c.names m.name;
}
counting_frame c (Asks name number) = c
counting_frame c Bye = c

-- no frame
abbrev pub none_counted : Counted
none_counted = record { messages = 0; bytes = 0; names = [] }

-- all frames of a link
abbrev pub message_count : List Frame → Counted
message_count frames = fold counting_frame none_counted frames
