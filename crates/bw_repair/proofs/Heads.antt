-- The heads of chunks that are read.
use Rattle.std.proofs.Common.{◌≡◌, ℕ, ◌+◌, ◌-◌, ◌≤◌, ◌<◌, Bool, true, false, List, [], ◌∷◌, length, drop}
use Rattle.std.proofs.Common.{Option, Some, None, Result, Ok, Err, refl, sym, ◌∙◌, ap, arith, lit≤}
use Rattle.std.specs.Prelude.{IfOk, if◌then◌else◌, nat_le, not, ◌&&◌, slice_range, codes}
use Rattle.std.specs.Prelude.{◌==◌, nat_lt}
use Rattle.std.specs.Int.{w16, w32, from_le_bytes}
use Rattle.std.proofs.Common.{subst, lit<, add-zero, add_assoc}
use Rattle.bw_model.specs.Limits.{largest}
use Rattle.bw_model.specs.Bytes.{u16_at, u32_at, even_up, first_that_holds, unsaid}
use Rattle.bw_model.specs.Reading.{Fault, id_at, is_id, line, NoSize, BadFmt, Truncated, NoData, TooLarge}
use Rattle.bw_stream.specs.Readers.{Of}
use Rattle.bw_inspect.specs.Faults.{bytes_fault, is_failed_read}
use Rattle.bw_inspect.specs.Places.{AtPlace, IsGiven, IsMissed, IsPassed}
use Rattle.bw_inspect.specs.declared.fault.InspectFault.{InspectFault}
use Rattle.bw_inspect.proofs.PartialReads.{part_at}
use Rattle.bw_inspect.specs.declared.fault.InspectKind.TheVariants.{Truncated as Cut}
use Rattle.bw_inspect.proofs.Faults.{bytes_no_read, of_bytes}
use Rattle.bw_repair.specs.DataHeads.{place_following, entry_of_head, head_faults, is_data, is_riff_wave, passing_faults}
use Rattle.bw_repair.specs.DataHeads.{place_faults}
use Rattle.bw_repair.specs.Steps.{HasHead, HasPassed, IsDataAt, IsOtherAt, RefusesChunk, StopsAt}
use Rattle.bw_repair.specs.declared.search.ChunkAt.{ChunkAt}

short_no_wave : (b : List ℕ) → length b < 12 → is_riff_wave b ≡ false
short_no_wave b h =
    let short : nat_le 12 (length b) ≡ false = grind (arith) in rw short refl

-- a file without 12 bytes is no RIFF file
pub no_form_ok : (left : Option (List ℕ)) (f cut : InspectFault) (result : Result (Option ℕ) InspectFault)
    {left' : Option (List ℕ)} →
    result ≡ (if is_failed_read f.kind then Err f else Ok None) →
    AtPlace left 0 (λ b. IsMissed b 0 12 cut f left') →
    IfOk result (λ r. Of left (λ b. r ≡ (if is_riff_wave b then Some (u32_at b 4) else None)))
no_form_ok left f cut result {left'} is missed =
    rw is (by (is_failed_read f.kind) refl)
  where
    by : (failed : Bool) → is_failed_read f.kind ≡ failed →
        IfOk (if failed then Err f else Ok None)
        (λ r. Of left (λ b. r ≡ (if is_riff_wave b then Some (u32_at b 4) else None)))
    by true e = tt
    by false e = λ b h.
        let m = (missed b h).cuts (ap not e) in rw (short_no_wave b m.1) refl

pub no_form_left : (left : Option (List ℕ)) (f cut : InspectFault) (result : Result (Option ℕ) InspectFault)
    (new : Option (List ℕ)) {left' : Option (List ℕ)} →
    result ≡ (if is_failed_read f.kind then Err f else Ok None) →
    AtPlace left 0 (λ b. IsMissed b 0 12 cut f left') →
    IfOk result (λ r. Of left (λ b. is_riff_wave b ≡ true → new ≡ Some (drop 12 b)))
no_form_left left f cut result new {left'} is missed =
    rw is (by (is_failed_read f.kind) refl)
  where
    by : (failed : Bool) → is_failed_read f.kind ≡ failed →
        IfOk (if failed then Err f else Ok None)
        (λ (r : Option ℕ). Of left (λ b. is_riff_wave b ≡ true → new ≡ Some (drop 12 b)))
    by true e = tt
    by false e = λ b h w.
        let m = (missed b h).cuts (ap not e) in
        let no = short_no_wave b m.1 in absurd (cc)

-- the faults of a chunk that is passed over, by the numbers that decide them
abbrev by_numbers : ℕ → List ℕ → ℕ → ℕ → Option Fault
by_numbers len id size p = first_that_holds (
    line (size == unsaid) NoSize p
    ∷ line (is_id id (codes "fmt ") && nat_lt size 16) BadFmt p
    ∷ line (nat_lt len (p + 8 + even_up size)) Truncated p
    ∷ [])

as_numbers : (b : List ℕ) (c : ChunkAt) → HasHead b c →
    first_that_holds (passing_faults b (entry_of_head b c.place)) ≡ by_numbers (length b) c.id c.size c.place
as_numbers b c h =
    ap (λ (i : List ℕ). by_numbers (length b) i (u32_at b (c.place + 4)) c.place) (sym h.is)
    ∙ ap (λ (n : ℕ). by_numbers (length b) c.id n c.place) (sym h.sized)

fmt_by : (len : ℕ) (id : List ℕ) (size p : ℕ) → (size == unsaid) ≡ false → is_id id (codes "fmt ") ≡ true →
    nat_lt size 16 ≡ false →
    by_numbers len id size p
    ≡ (if nat_lt len (p + 8 + even_up size) then Some (record { kind = Truncated; offset = p }) else None)
fmt_by len id size p e f h = rw (e, f, h) refl

-- `fmt ` was passed over
pub fmt_passed : (b : List ℕ) (c : ChunkAt) (align value size : ℕ) (buf : List ℕ) (left left' : Option (List ℕ)) →
    HasHead b c → (c.size == unsaid) ≡ false → is_id c.id (codes "fmt ") ≡ true → nat_lt c.size 16 ≡ false →
    size ≡ even_up c.size → IsGiven b (c.place + 8) 16 buf left →
    IsPassed b (c.place + 24) (size - 16) left' → value ≡ u16_at buf 12 → HasPassed b c align value left'
fmt_passed b c align value size buf left left' h e f s z given passed v =
    let large : 16 ≤ c.size = grind (arith, s) in
    let wide : even_up c.size ≡ even_up (u32_at b (c.place + 4)) = ap even_up h.sized in
    let first : c.place + 8 + 16 ≤ length b = given.within (lit< tt) in
    let more = passed.within in
    let end : c.place + 24 + (size - 16) ≡ c.place + 8 + even_up c.size = omega (arith, z) in
    let there : c.place + 8 + even_up c.size ≤ length b = grind (arith, first, more, end, z) in
    let fits : nat_lt (length b) (c.place + 8 + even_up c.size) ≡ false = grind (arith, there) in
    let end' : c.place + 24 + (size - 16) ≡ place_following (entry_of_head b c.place) =
    end ∙ ap (λ (n : ℕ). c.place + 8 + n) wide in
    let named : is_id (id_at b c.place) (codes "fmt ") ≡ true =
    ap (λ (i : List ℕ). is_id i (codes "fmt ")) (sym h.is) ∙ f in
    let spelled : u16_at buf 12 ≡ u16_at b (c.place + 20) =
    ap (λ (x : List ℕ). u16_at x 12) given.bytes
    ∙ ap (from_le_bytes w16) (part_at b (c.place + 8) 16 12 14 (lit≤ tt) (lit≤ tt))
    ∙ ap (λ (k : ℕ). from_le_bytes w16 (slice_range b k (c.place + 8 + 14)))
    (let q : c.place + 8 + 12 ≡ c.place + 20 = omega arith in q)
    ∙ ap (λ (k : ℕ). from_le_bytes w16 (slice_range b (c.place + 20) k))
    (let q : c.place + 8 + 14 ≡ c.place + 20 + 2 = omega arith in q) in
    record {
      free = as_numbers b c h ∙ fmt_by (length b) c.id c.size c.place e f s ∙ rw fits refl;
      aligned = v ∙ spelled ∙ rw named refl;
      there = subst (λ (k : ℕ). k ≤ length b) end' (subst (λ (k : ℕ). k ≤ length b) (sym end) there);
      rest = passed.rest ∙ ap (λ (k : ℕ). Some (drop k b)) end';
    }

-- or the file ends in it
pub fmt_cut : (b : List ℕ) (c : ChunkAt) (size : ℕ) (f cut : InspectFault) (left : Option (List ℕ)) →
    (c.size == unsaid) ≡ false → is_id c.id (codes "fmt ") ≡ true → nat_lt c.size 16 ≡ false →
    size ≡ even_up c.size → cut ≡ record { kind = Cut; offset = c.place } →
    IsMissed b (c.place + 24) (size - 16) cut f left → RefusesChunk b c f
fmt_cut b c size f cut left e i s z k missed h g is =
    let large : 16 ≤ c.size = grind (arith, s) in
    let m = missed.cuts (ap not (bytes_no_read f.kind (of_bytes f g is))) in
    let short : length b < c.place + 24 + (size - 16) = m.1 in
    let ends : nat_lt (length b) (c.place + 8 + even_up c.size) ≡ true = grind (arith, short, large, z) in
    let fault : bytes_fault f ≡ Some (record { kind = Truncated; offset = c.place }) = ap bytes_fault (m.0 ∙ k) in
    as_numbers b c h ∙ fmt_by (length b) c.id c.size c.place e i s ∙ rw ends (sym fault ∙ is)

-- what a head of eight bytes says
pub head_says : (b : List ℕ) (p : ℕ) (buf id : List ℕ) (size : ℕ) (left : Option (List ℕ)) → IsGiven b p 8 buf left →
    id ≡ slice_range buf 0 (0 + 4) → size ≡ u32_at buf 4 →
    HasHead b (record { id = id; place = p; size = size })
head_says b p buf id size left given i s = record {
  is = i ∙ ap (λ (z : List ℕ). slice_range z 0 4) given.bytes ∙ part_at b p 8 0 4 (lit≤ tt) (lit≤ tt)
      ∙ ap (λ (k : ℕ). slice_range b k (p + 4)) (add-zero p);
  sized = s ∙ ap (λ (z : List ℕ). u32_at z 4) given.bytes
      ∙ ap (from_le_bytes w32) (part_at b p 8 4 8 (lit≤ tt) (lit≤ tt))
      ∙ ap (λ (k : ℕ). from_le_bytes w32 (slice_range b (p + 4) k)) (sym (add_assoc p 4 4));
  there = given.within (lit< tt);
}

-- the head of `data`
pub data_found : (b : List ℕ) (p size : ℕ) (id : List ℕ) (left : Option (List ℕ)) →
    HasHead b (record { id = id; place = p; size = size }) → is_id id (codes "data") ≡ true →
    left ≡ Some (drop (p + 8) b) → IsDataAt b p size left
data_found b p size id left h e r = record {
  there = h.there;
  named = ap (λ (i : List ℕ). is_id i (codes "data")) (sym h.is) ∙ e;
  sized = h.sized;
  rest = r;
}

-- another chunk has a fault
pub other_stops : (b : List ℕ) (p size : ℕ) (id : List ℕ) (f : InspectFault) →
    HasHead b (record { id = id; place = p; size = size }) → is_id id (codes "data") ≡ false →
    RefusesChunk b (record { id = id; place = p; size = size }) f → StopsAt b p f
other_stops b p size id f h e r g is =
    let named : is_data (entry_of_head b p) ≡ false = ap (λ (i : List ℕ). is_id i (codes "data")) (sym h.is) ∙ e in
    let there = h.there in
    let short : nat_lt (length b) (p + 8) ≡ false = grind (arith, there) in
    rw (short, named) (r h g is)

-- another chunk was passed over
pub other_passed : (b : List ℕ) (p size : ℕ) (id : List ℕ) (align align' p' : ℕ) (left : Option (List ℕ)) →
    HasHead b (record { id = id; place = p; size = size }) → is_id id (codes "data") ≡ false →
    HasPassed b (record { id = id; place = p; size = size }) align align' left → p' ≡ p + 8 + even_up size →
    IsOtherAt b p align p' align' left
other_passed b p size id align align' p' left h e r w =
    let named : is_data (entry_of_head b p) ≡ false = ap (λ (i : List ℕ). is_id i (codes "data")) (sym h.is) ∙ e in
    let at : p' ≡ place_following (entry_of_head b p) = w ∙ ap (λ (n : ℕ). p + 8 + even_up n) h.sized in
    record {
      passed = record { is = refl; other = named; free = r.free };
      place = at;
      aligned = r.aligned;
      there = subst (λ (k : ℕ). k ≤ length b) (sym at) r.there;
      rest = r.rest ∙ ap (λ (k : ℕ). Some (drop k b)) (sym at);
    }

two : (l t : Bool) (x n : Fault) (g : Fault) → (t ≡ true → l ≡ false) →
    (if t then Some n else None) ≡ Some g → (if l then Some x else (if t then Some n else None)) ≡ Some g
two l true x n g h i = rw (h refl) i
two l false x n g h i = absurd (cc)

by_data : (b : List ℕ) (p : ℕ) (g : Fault) (d : Bool) →
    first_that_holds (line (nat_lt (length b) (p + 8)) NoData p
    ∷ (if d then [] else passing_faults b (entry_of_head b p))) ≡ Some g →
    first_that_holds (line (d && nat_le (p + 8 + largest) (length b)) TooLarge p
    ∷ line (nat_lt (length b) (p + 8)) NoData p ∷ (if d then [] else passing_faults b (entry_of_head b p))) ≡ Some g
by_data b p g false i = i
by_data b p g true i =
    two (nat_le (p + 8 + largest) (length b)) (nat_lt (length b) (p + 8)) _ _ g (few (length b)) i
  where
    few : (n : ℕ) → nat_lt n (p + 8) ≡ true → nat_le (p + 8 + largest) n ≡ false
    few n t = let short : n < p + 8 = grind (arith, t) in grind (arith, short)

-- the fault of a head is that of its place
pub head_fault : (b : List ℕ) (count p : ℕ) (g : Fault) → count < 4096 →
    first_that_holds (head_faults b p) ≡ Some g → first_that_holds (place_faults b count p) ≡ Some g
head_fault b count p g few is =
    let some : nat_le 4096 count ≡ false = grind (arith, few) in
    rw some (by_data b p g (is_data (entry_of_head b p)) is)

-- too many bytes follow the head of `data`
pub rest_fault : (b : List ℕ) (count p : ℕ) → count < 4096 → is_data (entry_of_head b p) ≡ true →
    p + 8 + largest ≤ length b →
    first_that_holds (place_faults b count p) ≡ Some (record { kind = TooLarge; offset = p })
rest_fault b count p few named large =
    let some : nat_le 4096 count ≡ false = grind (arith, few) in
    let more : nat_le (p + 8 + largest) (length b) ≡ true = grind (arith, large) in
    rw (some, named, more) refl

-- the form's size was found or not
pub none_wave : (w : Bool) (v : ℕ) → None ≡ (if w then Some v else None) → w ≡ false
none_wave true v e = absurd (cc)
none_wave false v e = refl

pub some_wave : (w : Bool) (v f : ℕ) → Some f ≡ (if w then Some v else None) → (w ≡ true) × (f ≡ v)
some_wave true v f e = (refl, (cc))
some_wave false v f e = absurd (cc)

left_of : (p q : Bool) → (p && q) ≡ true → p ≡ true
left_of true q e = refl
left_of false q e = e

-- a RIFF file has its first 12 bytes
pub wave_long : (b : List ℕ) → is_riff_wave b ≡ true → 12 ≤ length b
wave_long b w =
    let t : nat_le 12 (length b) ≡ true = left_of (nat_le 12 (length b)) _ w in grind (arith, t)
