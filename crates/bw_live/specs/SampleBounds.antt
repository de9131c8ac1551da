-- Which bytes of a file that is still written are known to be samples.
use Rattle.std.specs.Prelude.{ℕ, ◌+◌, Bool, true, false, not, ◌&&◌, ◌||◌, max, nat_le, Option, Some, None}
use Rattle.std.specs.Prelude.{if◌then◌else◌, is_some, unwrap_or}
use Rattle.bw_live.specs.declared.sample_bound.FileLook.{FileLook}
use Rattle.bw_live.specs.declared.sample_bound.SampleBound.{SampleBound}

-- nothing is known of samples that begin at a place
abbrev pub bound_at : ℕ → Bool → SampleBound
bound_at first by_path = record {
  first = first;
  by_path = by_path;
  seen = first;
  bound = first;
  is_last = false;
}

-- where the samples end, by a size that the file has reached
abbrev pub end_within : ℕ → ℕ → Option ℕ → Option ℕ
end_within first len None = None
end_within first len (Some size) = if nat_le (first + size) len then Some (first + size) else None

abbrev pub said_end : ℕ → FileLook → Option ℕ
said_end first look = end_within first look.len look.size

-- the recording has ended, and with it its samples: where the header says, or with the file
abbrev pub last_bound : FileLook → SampleBound → SampleBound
last_bound look b = record b {
  seen = look.len;
  bound = max (unwrap_or (said_end b.first look) look.len) b.first;
  is_last = true;
}

-- it goes on: what the header counts are samples, and without that what the look before saw
abbrev pub next_bound : FileLook → SampleBound → SampleBound
next_bound look b = record b {
  seen = look.len;
  bound = max b.bound (unwrap_or (said_end b.first look) b.seen);
}

-- what is known after one more look
abbrev pub bound_after : FileLook → SampleBound → SampleBound
bound_after look b = if b.is_last then b
    else (if look.has_ended || (not b.by_path && is_some (said_end b.first look))
    then last_bound look b else next_bound look b)
