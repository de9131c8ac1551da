-- The moment is read back from a spool's line.
use Rattle.std.proofs.Common.{◌≡◌, ◌≢◌, ◌<◌, ◌^◌, ◌+◌, ◌-◌, ◌∙◌, ℕ, List, [], ◌∷◌, ◌++◌, Option, Some, None, ap, sym, refl, arith}
use Rattle.std.proofs.Common.{drop, length, take}
use Rattle.std.specs.Prelude.{codes, decimal}
use Rattle.std.specs.Str.Parse.{digits_value}
use Rattle.std.proofs.Math.Seq.{drop-append_seam, take-append_seam}
use Rattle.std.proofs.lemmas.Fmt.{decimal_is_IsNumeral}
use Rattle.std.proofs.lemmas.List.{append_assoc, append_cancel_left, append_cancel_right, length-append}
use Rattle.bw_ports.specs.Purposes.{line_of}
use Rattle.bw_ports.specs.declared.spool_purpose.Purpose.{Purpose}
use Rattle.bw_live.specs.BegunSpools.{IsBegunBy, SaysBegun, moment_line}
use Rattle.bw_live.specs.ExamplesOfDefaults.{RerunsAgree}

-- what lies between two parts of known lengths
pub part_between : (text head part tail : List ℕ) (before after : ℕ) → text ≡ head ++ part ++ tail
    → length head ≡ before → length tail ≡ after
    → take (length text - after - before) (drop before text) ≡ part
part_between text head part tail before after is h t =
    let whole : text ≡ head ++ (part ++ tail) = is ∙ append_assoc head part tail in
    let size : length text ≡ length head + (length part + length tail) =
    ap length whole ∙ length-append head (part ++ tail) ∙ ap (λ n. length head + n) (length-append part tail) in
    let count : length text - after - before ≡ length part = omega (arith, size, h, t) in
    let rest : drop before text ≡ part ++ tail =
    ap (λ n. drop n text) (sym h) ∙ ap (drop (length head)) whole ∙ drop-append_seam head (part ++ tail) in
    ap (λ n. take n (drop before text)) count ∙ ap (take (length part)) rest ∙ take-append_seam part tail

-- what comes before the moment in a line, and after it
abbrev pub line_head : Purpose → List ℕ
line_head p = codes "name=" ++ (p.name.now ++ codes " began=")

abbrev pub line_tail : Purpose → List ℕ
line_tail p = codes " pcm=" ++ decimal p.rate ++ codes "," ++ decimal p.channels ++ codes "," ++ decimal p.bits
    ++ codes " skip=" ++ decimal p.skip ++ 10 ∷ []

-- one part more
more : (x t y c : List ℕ) → y ≡ x ++ t → y ++ c ≡ x ++ (t ++ c)
more x t y c e = ap (λ l. l ++ c) e ∙ append_assoc x t c

-- what follows the text before it, at once
gathered : (p : Purpose) (x : List ℕ) → x ++ codes " pcm=" ++ decimal p.rate ++ codes "," ++ decimal p.channels
    ++ codes "," ++ decimal p.bits ++ codes " skip=" ++ decimal p.skip ++ 10 ∷ [] ≡ x ++ line_tail p
gathered p x = more x _ _ (10 ∷ []) (more x _ _ (decimal p.skip) (more x _ _ (codes " skip=")
    (more x _ _ (decimal p.bits) (more x _ _ (codes ",") (more x _ _ (decimal p.channels)
    (more x _ _ (codes ",") (more x (codes " pcm=") _ (decimal p.rate) refl)))))))

pub line_parts : (p : Purpose) (ms : ℕ) → moment_line p (Some ms) ≡ line_head p ++ decimal ms ++ line_tail p
line_parts p ms = gathered p (line_head p ++ decimal ms)

pub plain_parts : (p : Purpose) → line_of p ≡ codes "name=" ++ p.name.now ++ line_tail p
plain_parts p = gathered p (codes "name=" ++ p.name.now)

decimals_differ : (m n : ℕ) → m < 2 ^ 64 → n < 2 ^ 64 → decimal m ≡ decimal n → m ≡ n
decimals_differ m n h k e =
    sym (decimal_is_IsNumeral m h).1 ∙ ap (digits_value 10) e ∙ (decimal_is_IsNumeral n k).1

-- two moments in the same line
pub same_moment : (p : Purpose) (m n : ℕ) → m < 2 ^ 64 → n < 2 ^ 64
    → moment_line p (Some m) ≡ moment_line p (Some n) → m ≡ n
same_moment p m n h k e =
    let parts : line_head p ++ (decimal m ++ line_tail p) ≡ line_head p ++ (decimal n ++ line_tail p) =
    sym (append_assoc (line_head p) (decimal m) (line_tail p)) ∙ sym (line_parts p m) ∙ e ∙ line_parts p n
    ∙ append_assoc (line_head p) (decimal n) (line_tail p) in
    let later : decimal m ++ line_tail p ≡ decimal n ++ line_tail p =
    append_cancel_left (line_head p) (decimal m ++ line_tail p) (decimal n ++ line_tail p) parts in
    decimals_differ m n h k (append_cancel_right (decimal m) (decimal n) (line_tail p) later)

pub reruns_agree : RerunsAgree
reruns_agree p began now c held None small says = absurd (says began small refl)
reruns_agree p began now c held (Some ms) small says =
    ap Some (sym (same_moment p began ms small says.0 says.1))

-- a spool that holds nothing is begun now
pub begins_now : (p : Purpose) (now : ℕ) (held text items : List ℕ) → items ≡ take 1 held → length items ≡ 0
    → IsBegunBy p now held text (Some now)
begins_now p now [] text items is none = refl
begins_now p now (c ∷ cs) text items is none = let one : length items ≡ 1 = ap length is in
    absurd (omega (arith, one, none))

-- of one that holds something the text says when
pub goes_on : (p : Purpose) (now : ℕ) (held text items : List ℕ) (found : Option ℕ) → items ≡ take 1 held
    → items ≢ [] → SaysBegun p text found → IsBegunBy p now held text found
goes_on p now [] text items found is some says = absurd (some is)
goes_on p now (c ∷ cs) text items found is some says = says

-- the moment that a line of the same purpose says
pub moment_found : (p : Purpose) (text line : List ℕ) (ms moment : ℕ) → ms < 2 ^ 64 → text ≡ moment_line p (Some ms)
    → ◌≡◌ {A = Option ℕ} (Some moment) (Some ms) → line ≡ moment_line p (Some moment) → line ≡ text
moment_found p text line ms moment small is same made =
    let one : moment ≡ ms = cc in made ∙ ap (λ n. moment_line p (Some n)) one ∙ sym is
