-- What is no digit, no number and no event, and bytes that no word has.
use Rattle.std.proofs.Common.{◌≡◌, ◌≢◌, ℕ, ◌<◌, ◌≤◌, ◌^◌, Bool, true, false, List, [], ◌∷◌, length}
use Rattle.std.proofs.Common.{Decides, nat_lt, refl, sym, ap, subst, inl, inr, ◌∙◌, arith}
use Rattle.std.specs.Prelude.{nat_le}
use Rattle.std.specs.List.{list_all}
use Rattle.std.specs.Fmt.{decimal}
use Rattle.std.proofs.lemmas.Bool.Decides.{nat_tests}
use Rattle.std.proofs.lemmas.Bool.{leb-true, le-leb, false≢true}
use Rattle.std.proofs.lemmas.Fmt.{decimal_injective}
use Rattle.tx_journal.specs.Numbers.{Lacks}
use Rattle.tx_journal.proofs.Decimals.{lacks_number, above_digits}
use Rattle.tx_journal.proofs.OneSchedule.{lacks_front}
use Rattle.report_form.specs.declared.words.Name.{Name}
use Rattle.report_form.specs.declared.words.Name.TheVariants as name
use Rattle.report_form.specs.declared.words.Word.{Word}
use Rattle.report_form.specs.declared.words.Word.TheVariants.{Fixed, AtMost, Digits, Event}
use Rattle.report_form.specs.Words.{name_text, is_digit, IsNumber, IsEvent, IsWord}

-- a text that is a number is one of those up to a limit exactly where that number is
pub number_tells : (n limit : ℕ) (text : List ℕ) → n < 2 ^ 64 → text ≡ decimal n
    → Decides (nat_le n limit) (IsNumber limit text)
number_tells n limit text small is = (
  λ t. record { number = n; fits = small; within = leb-true n limit t; spelled = is },
  λ h.
      let same : n ≡ h.number = decimal_injective n h.number small h.fits (sym is ∙ h.spelled) in
      le-leb n limit (subst (λ m. m ≤ limit) (sym same) h.within),
)

-- a text that does not begin with an X is an event where it is a number
pub plain_tells : (last : ℕ) (text : List ℕ) (b : Bool) → ((rest : List ℕ) → text ≢ 88 ∷ rest)
    → Decides b (IsNumber last text) → Decides b (IsEvent last text)
plain_tells last text b other tells = (
  λ t. inl (tells.0 t),
  λ e. elim e as (λ _. b ≡ true) [ inl n ↦ tells.1 n | inr x ↦ absurd (other x.rest x.behind) ],
)

-- and one that does where the rest is
pub external_tells : (last : ℕ) (text rest : List ℕ) (b : Bool) → text ≡ 88 ∷ rest
    → Decides b (IsNumber last rest) → Decides b (IsEvent last text)
external_tells last text rest b is tells = (
  λ t. inr record { rest = rest; behind = is; cpu = tells.0 t },
  λ e.
      elim e as (λ _. b ≡ true) [
        | inl n ↦
            let none : Lacks 88 (88 ∷ rest) =
            subst (Lacks 88) (sym n.spelled ∙ is) (above_digits n.number n.fits) in
            absurd (none 0 (omega arith) refl)
        | inr x ↦
            let same : x.rest ≡ rest = cc in
            tells.1 (subst (IsNumber last) same x.cpu)
      ],
)

-- no text that is empty begins with a byte
pub no_first : (text rest : List ℕ) (byte : ℕ) → length text ≡ 0 → text ≢ byte ∷ rest
no_first text rest byte none is = omega (arith, none, ap length is)

pub other_first : (text rest : List ℕ) (first byte : ℕ) → text ≡ first ∷ rest → first ≢ byte
    → (more : List ℕ) → text ≢ byte ∷ more
other_first text rest first byte is other more e = let same : first ≡ byte = cc in other same

-- ---- bytes that no word has

all_above : (c : ℕ) (xs : List ℕ) → c ≤ 44 → list_all (λ b. nat_lt 44 b) xs ≡ true → Lacks c xs
all_above c [] low above = λ i within. absurd (omega arith)
all_above c (x ∷ xs) low above =
    let head : nat_lt 44 x ≡ true = grind (arith, above) in
    let tail : list_all (λ b. nat_lt 44 b) xs ≡ true = grind (arith, above) in
    let other : x ≢ c = λ e. grind (arith, nat_tests) in
    lacks_front c x xs other (all_above c xs low tail)

plain_name : (n : Name) → list_all (λ b. nat_lt 44 b) (name_text n) ≡ true
plain_name name.Empty = refl
plain_name name.Zero = refl
plain_name name.Six = refl
plain_name name.From0 = refl
plain_name name.From4 = refl
plain_name name.From8 = refl
plain_name name.From12 = refl
plain_name name.Aborts = refl
plain_name name.Access = refl
plain_name name.Asked = refl
plain_name name.At = refl
plain_name name.Condition = refl
plain_name name.Code = refl
plain_name name.Commits = refl
plain_name name.Completed = refl
plain_name name.Counts = refl
plain_name name.Cpu = refl
plain_name name.Block = refl
plain_name name.Depth = refl
plain_name name.End = refl
plain_name name.Flags = refl
plain_name name.Format = refl
plain_name name.General = refl
plain_name name.Halted = refl
plain_name name.History = refl
plain_name name.Interrupted = refl
plain_name name.Bytes = refl
plain_name name.Mask = refl
plain_name name.Nothing = refl
plain_name name.Pending = refl
plain_name name.Interruption = refl
plain_name name.Psw = refl
plain_name name.Rejected = refl
plain_name name.Report = refl
plain_name name.Running = refl
plain_name name.Sched = refl
plain_name name.Schedule = refl
plain_name name.Status = refl
plain_name name.Token = refl
plain_name name.Turns = refl
plain_name name.Transaction = refl
plain_name name.Ztx = refl

low_digit : (c : ℕ) → c ≤ 44 → is_digit c ≡ true → ⊥
low_digit c low d =
    let none : is_digit c ≡ false = grind (arith, nat_tests) in
    let no : false ≡ true = sym none ∙ d in
    false≢true no

number_lacks : (c limit : ℕ) (text : List ℕ) → c ≤ 44 → IsNumber limit text → Lacks c text
number_lacks c limit text low h =
    subst (Lacks c) (sym h.spelled) (lacks_number c h.number h.fits (omega arith))

-- a blank, a comma and the end of a line stand in no word
pub word_lacks : (w : Word) (c : ℕ) (text : List ℕ) → c ≤ 44 → IsWord w text → Lacks c text
word_lacks (Fixed n) c text low is =
    subst (Lacks c) (sym is) (all_above c (name_text n) low (plain_name n))
word_lacks (AtMost limit) c text low is = number_lacks c limit text low is
word_lacks (Digits count) c text low is = λ i within e.
    low_digit c low (subst (λ b. is_digit b ≡ true) e (is.digits i within))
word_lacks (Event last) c text low (inl n) = number_lacks c last text low n
word_lacks (Event last) c text low (inr x) =
    subst (Lacks c) (sym x.behind)
    (lacks_front c 88 x.rest (λ e. omega arith) (number_lacks c last x.rest low x.cpu))
