-- What spools are begun for.
use Rattle.std.specs.Prelude.{◌≡◌, ◌≢◌, ◌⊎◌, ◌++◌, ℕ, List, [], ◌∷◌, codes, decimal}
use Rattle.bw_ports.specs.declared.spool_purpose.Hold.{Hold}
use Rattle.bw_ports.specs.declared.spool_purpose.Hold.TheVariants as holds
use Rattle.bw_ports.specs.declared.spool_purpose.Purpose.{Purpose}

-- `name=NAME pcm=RATE,CHANNELS,BITS skip=BYTES`
abbrev pub purpose_text : List ℕ → ℕ → ℕ → ℕ → ℕ → List ℕ
purpose_text name rate channels bits skip = codes "name=" ++ name ++ codes " pcm=" ++ decimal rate
    ++ codes "," ++ decimal channels ++ codes "," ++ decimal bits ++ codes " skip=" ++ decimal skip
    ++ 10 ∷ []

-- the line that says this purpose
abbrev pub line_of : Purpose → List ℕ
line_of p = purpose_text p.name.now p.rate p.channels p.bits p.skip

-- a spool without bytes, or without a text at its side, is bound to a purpose; one with bytes is used
-- only if the text is the purpose's line
abbrev pub HoldsBy : Hold → ℕ → List ℕ → List ℕ → Type 0
HoldsBy holds.Begins len found line = (len ≡ 0) ⊎ (found ≡ [])
HoldsBy holds.GoesOn len found line = (len ≢ 0) × (found ≢ []) × (found ≡ line)
HoldsBy holds.Refuses len found line = (len ≢ 0) × (found ≢ []) × (found ≢ line)
