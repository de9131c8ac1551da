-- The requests that bring a recording.
use Rattle.std.specs.Prelude.{ℕ, zero, suc, ◌*◌, ◌/◌, List, [], ◌∷◌, ◌++◌, length, map, take, drop}
use Rattle.bw_model.specs.Take.{Request, Open, Block, Mark, SetField, Close, block_align}
use Rattle.bw_plan.specs.Recordings.{Recording, piece_count}

-- so many pieces of so many bytes, the last one shorter
abbrev pub pieces : ℕ → ℕ → List ℕ → List (List ℕ)
pieces zero size bytes = []
pieces (suc n) size bytes = take size bytes ∷ pieces n size (drop size bytes)

-- a request for each field that has a value, by tag
abbrev pub field_requests : ℕ → List (List ℕ) → List Request
field_requests tag [] = []
field_requests tag ([] ∷ values) = field_requests (suc tag) values
field_requests tag ((c ∷ cs) ∷ values) = SetField tag (c ∷ cs) ∷ field_requests (suc tag) values

-- the samples, in blocks of so many bytes
abbrev pub block_requests : ℕ → List ℕ → List Request
block_requests size samples = map Block (pieces (piece_count size (length samples)) size samples)

-- a marker's request
abbrev pub mark_request : (ℕ × ℕ) → Request
mark_request m = Mark m.0 m.1

-- OPEN; what is known before the samples; the samples in blocks of so many frames; the markers,
-- which a server takes only up to the frames that it has; CLOSE
unfoldable pub plan : ℕ → Recording → List Request
plan frames r =
    let align = block_align r.outline.format in
    Open r.outline.format r.outline.history
    ∷ field_requests 1 r.outline.values
    ++ block_requests (frames * align) r.samples
    ++ map mark_request r.outline.markers
    ++ Close (length r.samples / align) ∷ []
