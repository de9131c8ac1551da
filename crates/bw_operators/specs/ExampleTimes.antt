-- Worked times: by the command `date` of GNU coreutils, from seconds since 1970.
use Rattle.std.specs.Prelude.{codes}
use Rattle.bw_operators.specs.Times.{IsTimeText}

-- the start of 1970, a 29th of February, the last day of a year, a time with milliseconds, and the day
-- after the 28th of February of 2100, which has no 29th
abbrev pub TimesExample : Type 0
TimesExample = IsTimeText 0 (codes "1970-01-01T00:00:00.000Z")
    × IsTimeText 951_782_400_000 (codes "2000-02-29T00:00:00.000Z")
    × IsTimeText 1_798_761_599_999 (codes "2026-12-31T23:59:59.999Z")
    × IsTimeText 1_795_941_087_123 (codes "2026-11-29T08:31:27.123Z")
    × IsTimeText 4_107_542_400_000 (codes "2100-03-01T00:00:00.000Z")
