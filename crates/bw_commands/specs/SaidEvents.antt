-- Lines as the events of a rehearsal.
use Rattle.std.specs.Prelude.{◌≡◌, ℕ, ◌^◌, ◌<◌, ◌≤◌, List, ◌++◌, length, codes}
use Rattle.std.specs.Str.Parse.{IsNumeral, digits_value}
use Rattle.bw_model.specs.World.{Event, Offer, Send, Deliver, Bring, Ask, Foreign}
use Rattle.bw_wire.specs.RequestTexts.{IsRequestText, IsEven}

-- one to ten decimal digits of a number of 32 bits
abbrev pub IsIndexText : List ℕ → Type 0
IsIndexText text = IsNumeral 10 text × (length text ≤ 10) × (digits_value 10 text < 2 ^ 32)

-- the number that these digits write
abbrev pub index_written : List ℕ → ℕ
index_written text = digits_value 10 text

-- a text of this index
abbrev pub IsIndex : List ℕ → ℕ → Type 0
IsIndex text index = IsIndexText text × (index ≡ index_written text)

-- the line begins like an offer, and has an even number of digits after it
abbrev pub MayOffer : List ℕ → Type 0
MayOffer line = (text : List ℕ) × (line ≡ codes "offer " ++ text) × IsEven (length text)

-- the line says this event
abbrev pub SaysEvent : List ℕ → Event → Type 0
SaysEvent line (Offer r) =
    (text : List ℕ) × (line ≡ codes "offer " ++ text) × IsRequestText text r
SaysEvent line (Send i) = (text : List ℕ) × (line ≡ codes "send " ++ text) × IsIndex text i
SaysEvent line (Deliver k) = (text : List ℕ) × (line ≡ codes "deliver " ++ text) × IsIndex text k
SaysEvent line (Bring k) = (text : List ℕ) × (line ≡ codes "bring " ++ text) × IsIndex text k
SaysEvent line Ask = line ≡ codes "ask"
SaysEvent line (Foreign f) = ⊥
