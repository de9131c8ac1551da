-- What the filter leaves of an exchange: the frames up to the first under another name.
use Rattle.std.proofs.Common.{◌≡◌, ◌≢◌, ◌<◌, ◌≤◌, ◌^◌, ℕ, suc, ◌+◌, ◌-◌, true, false, List, [], ◌∷◌, ◌++◌}
use Rattle.std.proofs.Common.{length, Some, Result, refl, sym, ap, subst, ◌∙◌, arith, inl, inr}
use Rattle.std.proofs.Common.{append_assoc, ◌⊎◌, nat_le, ◌&&◌, ◌%◌, ◌/◌, take, drop}
use Rattle.std.specs.List.{list_all}
use Rattle.std.specs.Int.{w32}
use Rattle.std.proofs.lemmas.Bool.{and_parts, and_from, cases_Bool}
use Rattle.std.proofs.lemmas.List.{length-append, take_at}
use Rattle.bw_model.specs.Bytes.{le32, u32_at, is_within}
use Rattle.bw_model.specs.Take.{Request, Open, Block, Mark, SetField, Close}
use Rattle.bw_model.specs.Wire.{Second, last_number, Frame, Says, Asks, Bye, Reason, Name, kind, payload, body, framed}
use Rattle.bw_model.specs.Wire.{is_name, is_request, decoded}
use Rattle.bw_model.specs.Stream.{End, BadFrame, before, end_at, end_by, is_turn, frames_bytes, stream_of, longest_body}
use Rattle.bw_model.proofs.ByteNumbers.{wide32, number_at-written}
use Rattle.bw_model.proofs.FrameLaws.{body_length, first_frame-body, HasBody}
use Rattle.bw_model.proofs.StreamLaws.{StreamAt, given, found}
use Rattle.bw_serve.specs.Filters.{Filter, allows, filtered, after_bytes}
use Rattle.bw_serve.specs.OneName.{frame_name, under_name, EndsAlike, OneNameIsLeft, one_name}
use Rattle.bw_serve.proofs.Passing.{heading, resting, filtered-append, filtered-resting}
use Rattle.bw_serve.proofs.Heads.{six, named-allowed, named-refused}
use Rattle.bw_serve.proofs.FirstFrames.{decoded-misnamed}
use Rattle.bw_serve.proofs.Ends.{ends-alike, within-other}

-- the body of a message or an ask: a kind, a name, and what follows it
record Named (f : Frame) : Type 0 where
  pub k : ℕ
  pub start : List ℕ
  pub last : ℕ
  pub tail : List ℕ
  pub body_is : body f ≡ k ∷ (length start + 1) ∷ ((start ++ last ∷ []) ++ tail)
  pub name_is : frame_name f ≡ start ++ last ∷ []
  pub within : is_within 1 6 k ≡ true

-- a list that isn't empty has a last element
last_of : (x : ℕ) (xs : List ℕ) → (start : List ℕ) × (last : ℕ) × (x ∷ xs ≡ start ++ last ∷ [])
last_of x [] = ([], x, refl)
last_of x (y ∷ ys) = let more = last_of y ys in (x ∷ more.0, more.1, ap (λ (r : List ℕ). x ∷ r) more.2)

name_last : (name : List ℕ) → is_name name ≡ true → (start : List ℕ) × (last : ℕ) × (name ≡ start ++ last ∷ [])
name_last [] e = absurd cc
name_last (x ∷ xs) e = last_of x xs

named : (f : Frame) (k : ℕ) (name tail : List ℕ) → body f ≡ k ∷ length name ∷ (name ++ tail) → frame_name f ≡ name →
    is_within 1 6 k ≡ true → is_name name ≡ true → Named f
named f k name tail spelled is within good =
    let l = name_last name good in
    let count : length name ≡ length l.0 + 1 = ap length l.2 ∙ length-append l.0 (l.1 ∷ []) in
    record {
      k = k;
      start = l.0;
      last = l.1;
      tail = tail;
      body_is = spelled ∙ ap (λ (n : ℕ). k ∷ n ∷ (name ++ tail)) count
          ∙ ap (λ (xs : List ℕ). k ∷ (length l.0 + 1) ∷ (xs ++ tail)) l.2;
      name_is = is ∙ l.2;
      within = within;
    }

kind_within : (r : Request) → is_within 1 6 (kind r) ≡ true
kind_within (Open f history) = refl
kind_within (Block bytes) = refl
kind_within (Mark id frame) = refl
kind_within (SetField tag value) = refl
kind_within (Close total) = refl

turn_named : (f : Frame) → is_turn Second f ≡ true → Named f
turn_named (Says m) e =
    let address = (and_parts (is_name m.name && nat_le m.number (last_number Second)) (is_request m.request) e).0 in
    named (Says m) (kind m.request) m.name (le32 m.number ++ payload m.request)
    (ap (λ (xs : List ℕ). kind m.request ∷ length m.name ∷ xs) (append_assoc m.name (le32 m.number) (payload m.request)))
    refl (kind_within m.request) (and_parts (is_name m.name) (nat_le m.number (last_number Second)) address).0
turn_named (Asks name number) e =
    named (Asks name number) 6 name (le32 number) refl refl refl
    (and_parts (is_name name) (nat_le number (last_number Second)) e).0
turn_named Bye e = absurd cc

turn_length : (f : Frame) → is_turn Second f ≡ true → (1 ≤ length (body f)) × (length (body f) ≤ longest_body)
turn_length (Says m) e = body_length Second (Says m) e
turn_length (Asks name number) e = body_length Second (Asks name number) e
turn_length Bye e = absurd cc

-- the bytes of the length before a body of this many bytes
abbrev sized : ℕ → ℕ → ℕ → List ℕ → List ℕ
sized size k n rest = six (size % 256) (size / 256 % 256) (size / 65536 % 256) (size / 16777216 % 256) k n rest

sized-is : (size k n : ℕ) (rest : List ℕ) → size < 2 ^ 32 → u32_at (sized size k n rest) 0 ≡ size
sized-is size k n rest small = number_at-written w32 (2 ^ 32) wide32 size (k ∷ n ∷ rest) small

-- a frame with a name, and what follows it
framed-named : (f : Frame) (t : Named f) (more : List ℕ)
    → framed (body f) ++ more
    ≡ sized (length (body f)) t.k (length t.start + 1) ((t.start ++ t.last ∷ []) ++ (t.tail ++ more))
framed-named f t more =
    ap (λ (xs : List ℕ). le32 (length (body f)) ++ (xs ++ more)) t.body_is
    ∙ ap (λ (xs : List ℕ). sized (length (body f)) t.k (length t.start + 1) xs)
    (append_assoc (t.start ++ t.last ∷ []) t.tail more)

body_size : (f : Frame) (t : Named f) → length (body f) ≡ length t.start + 3 + length t.tail
body_size f t =
    let whole = ap length t.body_is in
    omega (arith, whole, length-append (t.start ++ t.last ∷ []) t.tail, length-append t.start (t.last ∷ []))

after_name_passes : (name tail more : List ℕ) (left : ℕ) → left ≡ length tail →
    filtered (resting name left) (tail ++ more) ≡ tail ++ filtered (heading name []) more
after_name_passes name tail more left count =
    let rests = filtered-resting name left tail (omega arith) in
    let none : left - length tail ≡ 0 = omega arith in
    filtered-append (resting name left) tail more
    ∙ ap (λ (xs : List ℕ). xs ++ filtered (after_bytes (resting name left) tail) more) rests.0
    ∙ ap (λ (f : Filter). tail ++ filtered f more) (rests.1 ∙ ap (resting name) none)

-- a frame under an allowed name is given as it is, and then its name is the first
allowed_frame : (first : List ℕ) (f : Frame) (more : List ℕ) → is_turn Second f ≡ true →
    allows first (frame_name f) ≡ true
    → filtered (heading first []) (framed (body f) ++ more)
    ≡ framed (body f) ++ filtered (heading (frame_name f) []) more
allowed_frame first f more turn fine =
    let t = turn_named f turn in
    let size = length (body f) in
    let long = turn_length f turn in
    let name = t.start ++ t.last ∷ [] in
    let later = filtered (heading name []) more in
    let written = sized-is size 0 0 [] (omega (arith, long.1)) in
    filtered-is first f t more
    ∙ named-allowed first (size % 256) (size / 256 % 256) (size / 65536 % 256) (size / 16777216 % 256) t.k t.start
    t.last (t.tail ++ more) (ap (allows first) (sym t.name_is) ∙ fine)
    ∙ ap (λ (xs : List ℕ). sized size t.k (length t.start + 1) (name ++ xs))
    (after_name_passes name t.tail more _ (omega (arith, written, body_size f t)))
    ∙ sym (framed-named f t later)
    ∙ ap (λ (xs : List ℕ). framed (body f) ++ filtered (heading xs []) more) (sym t.name_is)
  where
    filtered-is : (first : List ℕ) (f : Frame) (t : Named f) (more : List ℕ)
        → filtered (heading first []) (framed (body f) ++ more)
        ≡ filtered (heading first []) (sized (length (body f)) t.k (length t.start + 1)
        ((t.start ++ t.last ∷ []) ++ (t.tail ++ more)))
    filtered-is first f t more = ap (filtered (heading first [])) (framed-named f t more)

-- bytes that begin with a body whose name ends with a byte 0
misnamed_ends : (place size k : ℕ) (start tail more : List ℕ) → size < 2 ^ 32 → size ≤ longest_body →
    size ≡ length start + 3 + length tail → is_within 1 6 k ≡ true
    → end_at Second place (sized size k (length start + 1) ((start ++ 0 ∷ []) ++ (tail ++ more)))
    ≡ Some (BadFrame Name place)
misnamed_ends place size k start tail more small short count within =
    let n = length start + 1 in
    let out = sized size k n ((start ++ 0 ∷ []) ++ (tail ++ more)) in
    let written = sized-is size k n ((start ++ 0 ∷ []) ++ (tail ++ more)) small in
    let inner : length (k ∷ n ∷ ((start ++ 0 ∷ []) ++ tail)) ≡ size =
    omega (arith, count, length-append (start ++ 0 ∷ []) tail, length-append start (0 ∷ [])) in
    let has : HasBody longest_body out = record {
      head = omega arith;
      some = omega (arith, written, count);
      short = omega (arith, written, short);
      whole = omega (
        arith,
        written,
        count,
        length-append (start ++ 0 ∷ []) (tail ++ more),
        length-append tail more,
        length-append start (0 ∷ []),
      );
    } in
    let body_is : take (u32_at out 0) (k ∷ n ∷ ((start ++ 0 ∷ []) ++ (tail ++ more)))
    ≡ k ∷ n ∷ ((start ++ 0 ∷ []) ++ tail) =
    ap (λ (m : ℕ). take m (k ∷ n ∷ ((start ++ 0 ∷ []) ++ (tail ++ more)))) written
    ∙ ap (λ (xs : List ℕ). take size (k ∷ n ∷ xs)) (sym (append_assoc (start ++ 0 ∷ []) tail more))
    ∙ take_at (k ∷ n ∷ ((start ++ 0 ∷ []) ++ tail)) more size inner in
    ap (end_by place) (first_frame-body Second out has)
    ∙ ap (λ (xs : List ℕ). end_by place (before (drop (4 + u32_at out 0) out) (decoded Second xs))) body_is
    ∙ ap (λ (r : Result Frame Reason). end_by place (before (drop (4 + u32_at out 0) out) r))
    (decoded-misnamed k start tail (within-other k within) within)

-- one under another name is bad for its name
refused_frame : (first : List ℕ) (place : ℕ) (f : Frame) (more : List ℕ) → is_turn Second f ≡ true →
    allows first (frame_name f) ≡ false
    → end_at Second place (filtered (heading first []) (framed (body f) ++ more)) ≡ Some (BadFrame Name place)
refused_frame first place f more turn bad =
    let t = turn_named f turn in
    let size = length (body f) in
    let long = turn_length f turn in
    let given = ap (filtered (heading first [])) (framed-named f t more)
    ∙ named-refused first (size % 256) (size / 256 % 256) (size / 65536 % 256) (size / 16777216 % 256) t.k t.start
    t.last (t.tail ++ more) (ap (allows first) (sym t.name_is) ∙ bad) in
    ap (end_at Second place) given
    ∙ misnamed_ends place size t.k t.start t.tail more (omega (arith, long.1)) long.1 (body_size f t) t.within

-- through a filter, from a place on, these frames are left
record LeftAt (kept : List Frame) (place : ℕ) (out : List ℕ) (fs : List Frame) (end : End) : Type 0 where
  pub end' : End
  pub stream : StreamAt Second place out kept end'
  pub other : kept ≢ fs → end' ≡ BadFrame Name (place + length (frames_bytes kept))
  pub alike : kept ≡ fs → EndsAlike (place + length (frames_bytes fs)) end end'

left_more : (name : List ℕ) (place : ℕ) (f : Frame) (fs : List Frame) (more : List ℕ) (end : End) →
    is_turn Second f ≡ true → allows name (frame_name f) ≡ true
    → LeftAt (under_name (frame_name f) fs) (place + length (framed (body f))) (filtered (heading (frame_name f) []) more) fs end
    → LeftAt (f ∷ under_name (frame_name f) fs) place (filtered (heading name []) (framed (body f) ++ more)) (f ∷ fs) end
left_more name place f fs more end turn fine l =
    let kept = under_name (frame_name f) fs in
    let size = length-append (framed (body f)) (frames_bytes kept) in
    let size' = length-append (framed (body f)) (frames_bytes fs) in
    record {
      end' = l.end';
      stream = record {
        rest = l.stream.rest;
        each = and_from (is_turn Second f) (list_all (is_turn Second) kept) turn l.stream.each;
        whole = allowed_frame name f more turn fine
            ∙ ap (λ (xs : List ℕ). framed (body f) ++ xs) l.stream.whole
            ∙ sym (append_assoc (framed (body f)) (frames_bytes kept) l.stream.rest);
        ends = ap (λ (n : ℕ). end_at Second n l.stream.rest) (omega (arith, size)) ∙ l.stream.ends;
      };
      other = λ differ. l.other (λ same. differ (ap (λ (gs : List Frame). f ∷ gs) same))
          ∙ ap (BadFrame Name) (omega (arith, size));
      alike = λ same. subst (λ (n : ℕ). EndsAlike n end l.end') (omega (arith, size'))
          (l.alike (ap (λ (gs : List Frame). tail_of gs) same));
    }
  where
    tail_of : List Frame → List Frame
    tail_of [] = []
    tail_of (g ∷ gs) = gs

left_none : (name : List ℕ) (place : ℕ) (f : Frame) (fs : List Frame) (more : List ℕ) (end : End) →
    is_turn Second f ≡ true → allows name (frame_name f) ≡ false
    → LeftAt [] place (filtered (heading name []) (framed (body f) ++ more)) (f ∷ fs) end
left_none name place f fs more end turn bad = record {
  end' = BadFrame Name place;
  stream = record {
    rest = filtered (heading name []) (framed (body f) ++ more);
    each = refl;
    whole = refl;
    ends = ap (λ (n : ℕ). end_at Second n (filtered (heading name []) (framed (body f) ++ more))) (omega arith)
        ∙ refused_frame name place f more turn bad;
  };
  other = λ differ. ap (BadFrame Name) (omega arith);
  alike = λ same. absurd cc;
}

left : (name : List ℕ) (place : ℕ) (bytes : List ℕ) (fs : List Frame) (end : End) → StreamAt Second place bytes fs end →
    LeftAt (under_name name fs) place (filtered (heading name []) bytes) fs end
left name place bytes [] end s =
    let ended = ends-alike name (place + length (frames_bytes [])) end bytes
    (ap (end_at Second (place + length (frames_bytes []))) s.whole ∙ s.ends) in
    record {
      end' = ended.0;
      stream = record { rest = filtered (heading name []) bytes; each = refl; whole = refl; ends = ended.1 };
      other = λ differ. absurd (differ refl);
      alike = λ same. ended.2;
    }
left name place bytes (f ∷ fs) end s =
    let tests = and_parts (is_turn Second f) (list_all (is_turn Second) fs) s.each in
    let more = frames_bytes fs ++ s.rest in
    let whole : bytes ≡ framed (body f) ++ more = s.whole ∙ append_assoc (framed (body f)) (frames_bytes fs) s.rest in
    let size = length-append (framed (body f)) (frames_bytes fs) in
    let later : StreamAt Second (place + length (framed (body f))) more fs end = record {
      rest = s.rest;
      each = tests.1;
      whole = refl;
      ends = ap (λ (n : ℕ). end_at Second n s.rest) (omega (arith, size)) ∙ s.ends;
    } in
    subst (λ (xs : List ℕ). LeftAt (under_name name (f ∷ fs)) place (filtered (heading name []) xs) (f ∷ fs) end)
    (sym whole)
    (go tests.0 more (left (frame_name f) (place + length (framed (body f))) more fs end later)
    (cases_Bool (allows name (frame_name f))))
  where
    go : is_turn Second f ≡ true → (more : List ℕ)
        → LeftAt (under_name (frame_name f) fs) (place + length (framed (body f)))
        (filtered (heading (frame_name f) []) more) fs end
        → (allows name (frame_name f) ≡ true) ⊎ (allows name (frame_name f) ≡ false)
        → LeftAt (under_name name (f ∷ fs)) place (filtered (heading name []) (framed (body f) ++ more)) (f ∷ fs) end
    go turn more l (inl fine) = rw fine (left_more name place f fs more end turn fine l)
    go turn more l (inr bad) = rw bad (left_none name place f fs more end turn bad)

pub one_name_is_left : OneNameIsLeft
unfolding stream_of
one_name_is_left bytes fits =
    let s = stream_of Second bytes in
    let l = left [] 0 bytes s.0 s.1 (found (suc (length bytes)) Second 0 bytes s.0 s.1 (omega arith) fits refl) in
    let out = one_name bytes in
    let t : stream_of Second out ≡ (under_name [] s.0, l.end') =
    given (suc (length out)) Second 0 out (under_name [] s.0) l.end' (omega arith) l.stream in
    rw t (record {
      frames = refl;
      other = λ differ. l.other differ ∙ ap (BadFrame Name) (omega arith);
      alike = λ same. subst (λ (n : ℕ). EndsAlike n s.1 l.end') (omega arith) (l.alike same);
    })
