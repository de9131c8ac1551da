-- What a line of a file of receipts is.
use Rattle.std.proofs.Common.{◌≡◌, ◌≢◌, ◌∙◌, ℕ, Bool, true, false, List, [], Option, Some, None, ap, inl, inr, subst, sym}
use Rattle.std.specs.Prelude.{◌==◌, IsTrue, MatchOption, length}
use Rattle.std.proofs.lemmas.Bool.{false≢true}
use Rattle.hex.specs.Hex.{decode_sized}
use Rattle.bw_model.specs.Wire.{is_name}
use Rattle.std.specs.Str.{IsUtf8}
use Rattle.serde_json.specs.Data.{Data, null}
use Rattle.serde_json.specs.Read.{read}
use Rattle.bw_take_files.specs.ReceiptFiles.{SaysReceipt}
use Rattle.bw_take_files.specs.Receipts.{HasReceiptWords, IsReceiptData, IsReceiptLine, IsReceiptObject, IsReceiptText}
use Rattle.bw_take_files.specs.Receipts.{SaysCount, SaysTake, parts_at, cut_word}
use Rattle.bw_take_files.specs.declared.receipts.receipt.Receipt.{Receipt}

-- the parts of a pair that is there
abbrev first_part : Option (List ℕ × List ℕ) → List ℕ
first_part None = []
first_part (Some p) = p.0

abbrev second_part : Option (List ℕ × List ℕ) → List ℕ
second_part None = []
second_part (Some p) = p.1

-- the words of a line are these alone
pub record SameWords (name count digits name' count' digits' : List ℕ) : Type 0 where
  pub names : name ≡ name'
  pub counts : count ≡ count'
  pub all_digits : digits ≡ digits'

pub same_words : (line n c d n' c' d' : List ℕ) → HasReceiptWords line n c d → HasReceiptWords line n' c' d' →
    SameWords n c d n' c' d'
same_words line n c d n' c' d' x y =
    let one : x.after_word ≡ y.after_word = ap second_part (sym x.begins ∙ y.begins) in
    let two : Some (n, x.after_name) ≡ Some (n', y.after_name) = sym x.name_next ∙ ap cut_word one ∙ y.name_next in
    let three : Some (c, x.after_count) ≡ Some (c', y.after_count) =
    sym x.count_next ∙ ap cut_word (ap second_part two) ∙ y.count_next in
    let four : x.after_label ≡ y.after_label =
    ap second_part (sym x.label_next ∙ ap (parts_at 61) (ap second_part three) ∙ y.label_next) in
    let five : Some (d, x.after_digits) ≡ Some (d', y.after_digits) =
    sym x.digits_next ∙ ap cut_word four ∙ y.digits_next in
    record { names = ap first_part two; counts = ap first_part three; all_digits = ap first_part five }

-- a line without the words
pub no_words : (line : List ℕ) → ((n c d : List ℕ) → HasReceiptWords line n c d → ⊥) → (r : Receipt) →
    IsReceiptText line r → ⊥
no_words line bad r x = bad x.name x.count x.digits x.words

-- words whose count is no number
pub no_count : (line n c d : List ℕ) → HasReceiptWords line n c d → ((count : ℕ) → SaysCount c count → ⊥) →
    (r : Receipt) → IsReceiptText line r → ⊥
no_count line n c d words bad r x =
    let same = same_words line x.name x.count x.digits n c d x.words words in
    bad r.frames (subst (λ (t : List ℕ). SaysCount t r.frames) same.counts x.counts)

-- digits of one number
pub same_count : (c : List ℕ) (a b : ℕ) → SaysCount c a → SaysCount c b → a ≡ b
same_count c a b x y = sym x.value ∙ y.value

-- what words say of a take
pub text_says : (line n c d : List ℕ) (count : ℕ) (found : Option Receipt) → HasReceiptWords line n c d →
    SaysCount c count → MatchOption found ((r : Receipt) → SaysTake n count d r → ⊥) (SaysTake n count d) →
    MatchOption found ((r : Receipt) → IsReceiptText line r → ⊥) (IsReceiptText line)
text_says line n c d count None words counts m = λ r x.
    let same = same_words line x.name x.count x.digits n c d x.words words in
    let counted : r.frames ≡ count =
    same_count c r.frames count (subst (λ (t : List ℕ). SaysCount t r.frames) same.counts x.counts) counts in
    m r (record {
      named = x.says.named ∙ same.names;
      is_name = subst (λ (t : List ℕ). IsTrue (is_name t)) same.names x.says.is_name;
      counted = counted;
      hashed = ap (λ (t : List ℕ). decode_sized t 32) (sym same.all_digits) ∙ x.says.hashed;
    })
text_says line n c d count (Some r) words counts m = record {
  name = n;
  count = c;
  digits = d;
  words = words;
  counts = subst (λ (k : ℕ). SaysCount c k) (sym m.counted) counts;
  says = subst (λ (k : ℕ). SaysTake n k d r) (sym m.counted) m;
}

-- a value that is there
abbrev value_or_null : Option Data → Data
value_or_null None = null
value_or_null (Some d) = d

-- what the object of a line says
pub object_says : (line : List ℕ) (d : Data) (found : Option Receipt) → read line ≡ Some d →
    MatchOption found ((r : Receipt) → IsReceiptData d r → ⊥) (IsReceiptData d) →
    MatchOption found ((r : Receipt) → IsReceiptObject line r → ⊥) (IsReceiptObject line)
object_says line d None is m = λ r x.
    m r (subst (λ (e : Data). IsReceiptData e r) (ap value_or_null (sym x.read ∙ is)) x.is)
object_says line d (Some r) is m = record { value = d; read = is; is = m }

-- a line that isn't of words
pub line_says : (line : List ℕ) (found : Option Receipt) → IsUtf8 line → ((r : Receipt) → IsReceiptText line r → ⊥) →
    MatchOption found ((r : Receipt) → IsReceiptObject line r → ⊥) (IsReceiptObject line) →
    MatchOption found ((r : Receipt) → IsReceiptLine line r → ⊥) (IsReceiptLine line)
line_says line None utf8 bad m = λ r x. elim (x.is) [
  | inl text ↦ bad r text
  | inr object ↦ m r object
]
line_says line (Some r) utf8 bad m = record { utf8 = utf8; is = inr m }

-- the same of a text that is the line
pub text_line_says : (text line : List ℕ) (found : Option Receipt) → text ≡ line → IsUtf8 line →
    ((r : Receipt) → IsReceiptText text r → ⊥) →
    MatchOption found ((r : Receipt) → IsReceiptObject text r → ⊥) (IsReceiptObject text) →
    MatchOption found ((r : Receipt) → IsReceiptLine line r → ⊥) (IsReceiptLine line)
text_line_says text line found same utf8 bad m =
    line_says line found utf8 (subst (λ (t : List ℕ). (r : Receipt) → IsReceiptText t r → ⊥) same bad)
    (subst (λ (t : List ℕ). MatchOption found ((r : Receipt) → IsReceiptObject t r → ⊥) (IsReceiptObject t)) same m)

-- a line that is no receipt, and not empty
pub says_none : (line : List ℕ) → line ≢ [] → ((r : Receipt) → IsReceiptLine line r → ⊥) → (said : Option Receipt) →
    SaysReceipt line said → ⊥
says_none line full bad None is = full is
says_none line full bad (Some r) is = bad r is

pub nothing_said : (line : List ℕ) (empty : Bool) (found : Option Receipt) → empty ≡ (length line == 0) → empty ≡ false →
    found ≡ None → MatchOption found ((r : Receipt) → IsReceiptLine line r → ⊥) (IsReceiptLine line) →
    (said : Option Receipt) → SaysReceipt line said → ⊥
nothing_said line empty found tests full none m =
    says_none line
    (λ is. false≢true (sym full ∙ tests ∙ ap (λ (l : List ℕ). length l == 0) is))
    (subst (λ (f : Option Receipt). MatchOption f ((r : Receipt) → IsReceiptLine line r → ⊥) (IsReceiptLine line)) none m)
