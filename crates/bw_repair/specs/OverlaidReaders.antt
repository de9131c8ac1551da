-- What is seen of a reader whose bytes at one place are others.
use Rattle.std.specs.Prelude.{ℕ, List}
use Rattle.bw_repair.specs.declared.overlay.Overlay.{Overlay}

-- the reader itself
abbrev pub overlay_reader : {R : Type 0} → Overlay R → R
overlay_reader s = s.inner

-- how many bytes are still to come before the place
abbrev pub overlay_ahead : {R : Type 0} → Overlay R → ℕ
overlay_ahead s = s.ahead

-- the other bytes that are still to come
abbrev pub overlay_others : {R : Type 0} → Overlay R → List ℕ
overlay_others s = s.others.now
