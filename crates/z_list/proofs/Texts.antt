-- No two instructions have one text.
use Rattle.std.proofs.Common.{◌≡◌, ◌≢◌, ℕ, ◌+◌, ◌<◌, ◌^◌, zero, suc, not, nat_eq, true, List, [], ◌∷◌, ◌++◌, append_assoc, drop, arith, refl, sym, ap, ap₂, ◌∙◌, subst}
use Rattle.std.specs.Prelude.{ℤ, pos, negsuc, ◌+ℤ◌}
use Rattle.std.specs.Fmt.{decimal, signed_decimal}
use Rattle.std.specs.List.{list_all}
use Rattle.std.proofs.lemmas.Bool.{ltb-true}
use Rattle.std.proofs.lemmas.Fmt.{decimal_injective, signed_decimal_injective}
use Rattle.std.proofs.lemmas.List.{append-nil}
use lib.Signed.{mag}
use Rattle.z_instr.specs.declared.instr.Instr.{Instr}
use Rattle.z_instr.specs.declared.instr.Fields.{Fields}
use Rattle.z_instr.specs.declared.table.TheConstants.{ROWS}
use Rattle.z_instr.specs.declared.form.Slot.{Slot}
use Rattle.z_instr.specs.declared.form.Slot.TheVariants as slot
use Rattle.z_instr.specs.declared.form.Slot.TheVariants.{First, Second, Third, Mask, Immediate, Compared, SecondBased}
use Rattle.z_instr.specs.Forms.{slots}
use Rattle.z_instr.specs.Made.{fields_of}
use Rattle.z_instr.specs.Table.{Entry, entry_at}
use Rattle.z_instr.specs.Ranges.{is_within}
use Rattle.z_instr.specs.Reading.{modulo}
use Rattle.z_instr.proofs.Distinct.{one_name}
use Rattle.z_instr.proofs.Passing.{and_left, and_right}
use Rattle.z_instr.proofs.TableFacts.{passes_row}
use Rattle.tx_journal.specs.Numbers.{Lacks}
use Rattle.tx_journal.proofs.Decimals.{SameCut, same_cut, lacks_not_there, lacks_number}
use Rattle.z_list.specs.declared.parts.Operand.{Operand}
use Rattle.z_list.specs.declared.parts.Operand.TheVariants.{Number, Target, Indexed, Based, Counted}
use Rattle.z_list.specs.Operands.{operand_at, operands_at, operands_by, operands_of, target_text, based_text, pair_text, operand_text, further_text, field_text, instruction_text}
use Rattle.z_list.proofs.Distances.{close, long_is_close, displacement_is_long, second_is_long, immediate_is_close}
use Rattle.z_list.proofs.Told.{one_instruction}
use Rattle.tx_journal.proofs.OneSchedule.{lacks_front}

-- ---- where an operand ends

lacks_signed : (c : ℕ) (z : ℤ) → mag z < 2 ^ 63 → c < 45 → Lacks c (signed_decimal z)
lacks_signed c (pos n) small low = lacks_number c n (omega arith) (omega arith)
lacks_signed c (negsuc n) small low = lacks_front c 45 (decimal (suc n)) (λ is. omega arith)
    (lacks_number c (suc n) (omega arith) (omega arith))

-- behind an operand stands a comma or nothing
split_tail : (a b : List ℕ) (os ps : List Operand) → Lacks 44 a → Lacks 44 b
    → a ++ further_text os ≡ b ++ further_text ps
    → SameCut a b (further_text os) (further_text ps)
split_tail a b [] [] a_lacks b_lacks is =
    record { front = sym (append-nil a) ∙ is ∙ append-nil b; behind = refl }
split_tail a b [] (p ∷ ps) a_lacks b_lacks is =
    absurd (lacks_not_there 44 b (operand_text p ++ further_text ps)
    (subst (Lacks 44) (sym (append-nil a) ∙ is) a_lacks))
split_tail a b (o ∷ os) [] a_lacks b_lacks is =
    absurd (lacks_not_there 44 a (operand_text o ++ further_text os)
    (subst (Lacks 44) (sym (append-nil b) ∙ sym is) b_lacks))
split_tail a b (o ∷ os) (p ∷ ps) a_lacks b_lacks is =
    let cut = same_cut 44 a b (operand_text o ++ further_text os) (operand_text p ++ further_text ps) a_lacks
    b_lacks is in
    record { front = cut.front; behind = ap (λ (t : List ℕ). 44 ∷ t) cut.behind }

-- ---- operands of one kind

abbrev Alike : Operand → Operand → Type 0
Alike (Number _) (Number _) = Unit {0}
Alike (Target _) (Target _) = Unit {0}
Alike (Indexed _ _ _) (Indexed _ _ _) = Unit {0}
Alike (Based _ _) (Based _ _) = Unit {0}
Alike (Counted _ _ _) (Counted _ _ _) = Unit {0}
Alike _ _ = ⊥

abbrev AreAlike : List Operand → List Operand → Type 0
AreAlike [] [] = Unit {0}
AreAlike (o ∷ os) (p ∷ ps) = Alike o p × AreAlike os ps
AreAlike _ _ = ⊥

abbrev IsSmall : Operand → Type 0
IsSmall (Number z) = mag z < 2 ^ 63
IsSmall (Target z) = mag z < 2 ^ 63
IsSmall (Indexed d x b) = (mag d < 2 ^ 63) × (x < 2 ^ 63) × (b < 2 ^ 63)
IsSmall (Based d b) = (mag d < 2 ^ 63) × (b < 2 ^ 63)
IsSmall (Counted d n b) = (mag d < 2 ^ 63) × (n < 2 ^ 63) × (b < 2 ^ 63)

abbrev AreSmall : List Operand → Type 0
AreSmall [] = Unit {0}
AreSmall (o ∷ os) = IsSmall o × AreSmall os

same_number : (m n : ℕ) → m < 2 ^ 63 → n < 2 ^ 63 → decimal m ≡ decimal n → m ≡ n
same_number m n m_in n_in is = decimal_injective m n (omega arith) (omega arith) is

pub based_before : (d : ℤ) (b : ℕ) (tail : List ℕ)
    → based_text d b ++ tail ≡ signed_decimal d ++ 40 ∷ (decimal b ++ 41 ∷ tail)
based_before d b tail = append_assoc (signed_decimal d) (40 ∷ (decimal b ++ 41 ∷ [])) tail
    ∙ ap (λ (t : List ℕ). signed_decimal d ++ 40 ∷ t) (append_assoc (decimal b) (41 ∷ []) tail)

pub pair_before : (d : ℤ) (m n : ℕ) (tail : List ℕ)
    → pair_text d m n ++ tail ≡ signed_decimal d ++ 40 ∷ (decimal m ++ 44 ∷ (decimal n ++ 41 ∷ tail))
pair_before d m n tail =
    append_assoc (signed_decimal d) (40 ∷ (decimal m ++ 44 ∷ (decimal n ++ 41 ∷ []))) tail
    ∙ ap (λ (t : List ℕ). signed_decimal d ++ 40 ∷ t)
    (append_assoc (decimal m) (44 ∷ (decimal n ++ 41 ∷ [])) tail
    ∙ ap (λ (t : List ℕ). decimal m ++ 44 ∷ t) (append_assoc (decimal n) (41 ∷ []) tail))

record SameBased (d e : ℤ) (b c : ℕ) (xs ys : List ℕ) : Type 0 where
  displacement : d ≡ e
  base : b ≡ c
  behind : xs ≡ ys

same_based : (d e : ℤ) (b c : ℕ) (xs ys : List ℕ) → IsSmall (Based d b) → IsSmall (Based e c)
    → based_text d b ++ xs ≡ based_text e c ++ ys → SameBased d e b c xs ys
same_based d e b c xs ys few also is =
    let open_cut = same_cut 40 (signed_decimal d) (signed_decimal e) (decimal b ++ 41 ∷ xs)
    (decimal c ++ 41 ∷ ys)
    (lacks_signed 40 d few.0 (omega arith)) (lacks_signed 40 e also.0 (omega arith))
    (sym (based_before d b xs) ∙ is ∙ based_before e c ys) in
    let cut = same_cut 41 (decimal b) (decimal c) xs ys
    (lacks_number 41 b (omega (arith, few.1)) (omega arith))
    (lacks_number 41 c (omega (arith, also.1)) (omega arith)) open_cut.behind in
    record {
      displacement = signed_decimal_injective d e few.0 also.0 open_cut.front;
      base = same_number b c few.1 also.1 cut.front;
      behind = cut.behind;
    }

record SamePair (d e : ℤ) (m n b c : ℕ) (xs ys : List ℕ) : Type 0 where
  displacement : d ≡ e
  inner : m ≡ n
  base : b ≡ c
  behind : xs ≡ ys

same_pair : (d e : ℤ) (m n b c : ℕ) (xs ys : List ℕ) → IsSmall (Indexed d m b) → IsSmall (Indexed e n c)
    → pair_text d m b ++ xs ≡ pair_text e n c ++ ys
    → SamePair d e m n b c xs ys
same_pair d e m n b c xs ys few also is =
    let open_cut = same_cut 40 (signed_decimal d) (signed_decimal e)
    (decimal m ++ 44 ∷ (decimal b ++ 41 ∷ xs)) (decimal n ++ 44 ∷ (decimal c ++ 41 ∷ ys))
    (lacks_signed 40 d few.0 (omega arith)) (lacks_signed 40 e also.0 (omega arith))
    (sym (pair_before d m b xs) ∙ is ∙ pair_before e n c ys) in
    let comma_cut = same_cut 44 (decimal m) (decimal n) (decimal b ++ 41 ∷ xs) (decimal c ++ 41 ∷ ys)
    (lacks_number 44 m (omega (arith, few.1)) (omega arith))
    (lacks_number 44 n (omega (arith, also.1)) (omega arith)) open_cut.behind in
    let cut = same_cut 41 (decimal b) (decimal c) xs ys
    (lacks_number 41 b (omega (arith, few.2)) (omega arith))
    (lacks_number 41 c (omega (arith, also.2)) (omega arith)) comma_cut.behind in
    record {
      displacement = signed_decimal_injective d e few.0 also.0 open_cut.front;
      inner = same_number m n few.1 also.1 comma_cut.front;
      base = same_number b c few.2 also.2 cut.front;
      behind = cut.behind;
    }

record SameOperand (o p : Operand) (xs ys : List ℕ) : Type 0 where
  operand : o ≡ p
  behind : xs ≡ ys

behind_two : (a b c d : ℕ) (xs ys : List ℕ) → a ∷ b ∷ xs ≡ c ∷ d ∷ ys → xs ≡ ys
behind_two a b c d xs ys is = cc

second_mark : (a b c d : ℕ) (xs ys : List ℕ) → a ∷ b ∷ xs ≡ c ∷ d ∷ ys → b ≡ d
second_mark a b c d xs ys is = cc

same_target : (y z : ℤ) (os ps : List Operand) → mag y < 2 ^ 63 → mag z < 2 ^ 63
    → target_text y ++ further_text os ≡ target_text z ++ further_text ps
    → SameOperand (Target y) (Target z) (further_text os) (further_text ps)
same_target (pos m) (pos n) os ps few also is =
    let cut = split_tail (decimal m) (decimal n) os ps (lacks_number 44 m (omega arith) (omega arith))
    (lacks_number 44 n (omega arith) (omega arith)) (behind_two _ _ _ _ _ _ is) in
    record {
      operand = ap (λ (k : ℕ). Target (pos k))
          (same_number m n (omega arith) (omega arith) cut.front);
      behind = cut.behind;
    }
same_target (negsuc m) (negsuc n) os ps few also is =
    let cut = split_tail (decimal (suc m)) (decimal (suc n)) os ps
    (lacks_number 44 (suc m) (omega arith) (omega arith))
    (lacks_number 44 (suc n) (omega arith) (omega arith)) (behind_two _ _ _ _ _ _ is) in
    let sucs = decimal_injective (suc m) (suc n) (omega arith) (omega arith) cut.front in
    let same : m ≡ n = omega arith in
    record { operand = ap (λ (k : ℕ). Target (negsuc k)) same; behind = cut.behind }
same_target (pos m) (negsuc n) os ps few also is = absurd (omega (arith, second_mark _ _ _ _ _ _ is))
same_target (negsuc m) (pos n) os ps few also is = absurd (omega (arith, second_mark _ _ _ _ _ _ is))

same_operand : (o p : Operand) (os ps : List Operand) → IsSmall o → IsSmall p → Alike o p
    → operand_text o ++ further_text os ≡ operand_text p ++ further_text ps
    → SameOperand o p (further_text os) (further_text ps)
same_operand (Number y) (Number z) os ps few also alike is =
    let cut = split_tail (signed_decimal y) (signed_decimal z) os ps (lacks_signed 44 y few (omega arith))
    (lacks_signed 44 z also (omega arith)) is in
    record { operand = ap Number (signed_decimal_injective y z few also cut.front); behind = cut.behind }
same_operand (Target y) (Target z) os ps few also alike is = same_target y z os ps few also is
same_operand (Indexed d x b) (Indexed e y c) os ps few also alike is =
    let s = same_pair d e x y b c (further_text os) (further_text ps) few also is in
    record { operand = λ k. Indexed (s.displacement k) (s.inner k) (s.base k); behind = s.behind }
same_operand (Based d b) (Based e c) os ps few also alike is =
    let s = same_based d e b c (further_text os) (further_text ps) few also is in
    record { operand = λ k. Based (s.displacement k) (s.base k); behind = s.behind }
same_operand (Counted d m b) (Counted e n c) os ps few also alike is =
    let s = same_pair d e m n b c (further_text os) (further_text ps) few also is in
    record { operand = λ k. Counted (s.displacement k) (s.inner k) (s.base k); behind = s.behind }
same_operand _ _ os ps few also alike is = absurd alike

-- ---- all operands

same_further : (os ps : List Operand) → AreSmall os → AreSmall ps → AreAlike os ps
    → further_text os ≡ further_text ps → os ≡ ps
same_further [] [] few also alike is = refl
same_further [] (p ∷ ps) few also alike is = absurd alike
same_further (o ∷ os) [] few also alike is = absurd alike
same_further (o ∷ os) (p ∷ ps) few also alike is =
    let s = same_operand o p os ps few.0 also.0 alike.0 (ap (drop 1) is) in
    ap₂ (λ (x : Operand) (xs : List Operand). x ∷ xs) s.operand
    (same_further os ps few.1 also.1 alike.1 s.behind)

same_field : (os ps : List Operand) → AreSmall os → AreSmall ps → AreAlike os ps
    → field_text os ≡ field_text ps → os ≡ ps
same_field [] [] few also alike is = refl
same_field [] (p ∷ ps) few also alike is = absurd alike
same_field (o ∷ os) [] few also alike is = absurd alike
same_field (o ∷ os) (p ∷ ps) few also alike is =
    let s = same_operand o p os ps few.0 also.0 alike.0 (ap (drop 1) is) in
    ap₂ (λ (x : Operand) (xs : List Operand). x ∷ xs) s.operand
    (same_further os ps few.1 also.1 alike.1 s.behind)

-- the mnemonic ends with a blank or with the text
split_words : (m n : List ℕ) (os ps : List Operand) → Lacks 32 m → Lacks 32 n
    → m ++ field_text os ≡ n ++ field_text ps → SameCut m n (field_text os) (field_text ps)
split_words m n [] [] m_lacks n_lacks is =
    record { front = sym (append-nil m) ∙ is ∙ append-nil n; behind = refl }
split_words m n [] (p ∷ ps) m_lacks n_lacks is =
    absurd (lacks_not_there 32 n (operand_text p ++ further_text ps)
    (subst (Lacks 32) (sym (append-nil m) ∙ is) m_lacks))
split_words m n (o ∷ os) [] m_lacks n_lacks is =
    absurd (lacks_not_there 32 m (operand_text o ++ further_text os)
    (subst (Lacks 32) (sym (append-nil n) ∙ sym is) n_lacks))
split_words m n (o ∷ os) (p ∷ ps) m_lacks n_lacks is =
    let cut = same_cut 32 m n (operand_text o ++ further_text os) (operand_text p ++ further_text ps) m_lacks
    n_lacks is in
    record { front = cut.front; behind = ap (λ (t : List ℕ). 32 ∷ t) cut.behind }

-- ---- the operands of instructions are small, and those of one row alike

record AreSmallFields (i : Instr) : Type 0 where
  r1 : i.r1 < 2 ^ 63
  r2 : i.r2 < 2 ^ 63
  r3 : i.r3 < 2 ^ 63
  x : i.x < 2 ^ 63
  b : i.b < 2 ^ 63
  d : mag i.d < 2 ^ 63
  b2 : i.b2 < 2 ^ 63
  d2 : mag i.d2 < 2 ^ 63
  imm : mag i.imm < 2 ^ 63
  mask : i.mask < 2 ^ 63
  twice : mag (i.imm +ℤ i.imm) < 2 ^ 63
  count : modulo 8 i.imm + 1 < 2 ^ 63

small : (z : ℤ) → is_within close z ≡ true → mag z < 2 ^ 63
small (pos n) h = let inside : n < 4294967296 = ltb-true n 4294967296 h in omega arith
small (negsuc n) h = let inside : n < 2147483648 = ltb-true n 2147483648 h in omega arith

twice_small : (z : ℤ) → is_within close z ≡ true → mag (z +ℤ z) < 2 ^ 63
twice_small (pos n) h = let inside : n < 4294967296 = ltb-true n 4294967296 h in omega arith
twice_small (negsuc n) h = let inside : n < 2147483648 = ltb-true n 2147483648 h in omega arith

count_small : (z : ℤ) → modulo 8 z + 1 < 2 ^ 63
count_small (pos n) = omega arith
count_small (negsuc n) = omega arith

small_fields : (i : Instr) → AreSmallFields i
small_fields i = record {
  r1 = omega (arith, i.r1_in);
  r2 = omega (arith, i.r2_in);
  r3 = omega (arith, i.r3_in);
  x = omega (arith, i.x_in);
  b = omega (arith, i.b_in);
  d = small i.d (long_is_close i.d (displacement_is_long i));
  b2 = omega (arith, i.b2_in);
  d2 = small i.d2 (long_is_close i.d2 (second_is_long i));
  imm = small i.imm (immediate_is_close i);
  mask = omega (arith, i.mask_in);
  twice = twice_small i.imm (immediate_is_close i);
  count = count_small i.imm;
}

small_at : (s : Slot) (i : Instr) → AreSmallFields i → IsSmall (operand_at s (fields_of i))
small_at First i few = few.r1
small_at Second i few = few.r2
small_at Third i few = few.r3
small_at Mask i few = few.mask
small_at Immediate i few = few.imm
small_at Compared i few = few.d2
small_at slot.Target i few = few.twice
small_at slot.Indexed i few = (few.d, few.x, few.b)
small_at slot.Based i few = (few.d, few.b)
small_at slot.Counted i few = (few.d, few.count, few.b)
small_at SecondBased i few = (few.d2, few.b2)

are_small : (ss : List Slot) (i : Instr) → AreSmall (operands_at ss (fields_of i))
are_small [] i = tt
are_small (s ∷ ss) i = (small_at s i (small_fields i), are_small ss i)

alike_at : (s : Slot) (f g : Fields) → Alike (operand_at s f) (operand_at s g)
alike_at First f g = tt
alike_at Second f g = tt
alike_at Third f g = tt
alike_at Mask f g = tt
alike_at Immediate f g = tt
alike_at Compared f g = tt
alike_at slot.Target f g = tt
alike_at slot.Indexed f g = tt
alike_at slot.Based f g = tt
alike_at slot.Counted f g = tt
alike_at SecondBased f g = tt

are_alike : (ss : List Slot) (f g : Fields) → AreAlike (operands_at ss f) (operands_at ss g)
are_alike [] f g = tt
are_alike (s ∷ ss) f g = (alike_at s f g, are_alike ss f g)

-- no name has a blank
other_than : (c : ℕ) → not (nat_eq c 32) ≡ true → c ≢ 32
other_than c h is = let e : not (nat_eq 32 32) ≡ true = subst (λ (x : ℕ). not (nat_eq x 32) ≡ true) is h in cc

lacks_blank : (name : List ℕ) → list_all (λ letter. not (nat_eq letter 32)) name ≡ true → Lacks 32 name
lacks_blank [] h i below = absurd (omega arith)
lacks_blank (c ∷ cs) h zero below = other_than c (and_left _ _ h)
lacks_blank (c ∷ cs) h (suc i) below = lacks_blank cs (and_right _ _ h) i (omega arith)

name_lacks_blank : (n : ℕ) → n < ROWS → Lacks 32 (entry_at n).name
name_lacks_blank n h = lacks_blank (entry_at n).name
    (passes_row (λ e. list_all (λ letter. not (nat_eq letter 32)) e.name) refl n h)

same_operands : (e : Entry) (i j : Instr)
    → field_text (operands_by e (fields_of i)) ≡ field_text (operands_by e (fields_of j))
    → operands_by e (fields_of i) ≡ operands_by e (fields_of j)
same_operands e i j is =
    same_field (operands_by e (fields_of i)) (operands_by e (fields_of j))
    (are_small (slots e.form) i) (are_small (slots e.form) j)
    (are_alike (slots e.form) (fields_of i) (fields_of j)) is

pub one_spelling : (i j : Instr) → instruction_text i ≡ instruction_text j → i ≡ j
unfolding instruction_text
one_spelling i j is =
    let words = split_words (entry_at i.op.number).name (entry_at j.op.number).name (operands_of i)
    (operands_of j)
    (name_lacks_blank i.op.number i.op.known) (name_lacks_blank j.op.number j.op.known) is in
    let op = one_name i.op.number j.op.number i.op.known j.op.known words.front in
    let field : field_text (operands_of i) ≡ field_text (operands_by (entry_at i.op.number) (fields_of j)) =
    subst (λ (n : ℕ). field_text (operands_of i) ≡ field_text (operands_by (entry_at n) (fields_of j)))
    (sym op) words.behind in
    let operands = same_operands (entry_at i.op.number) i j field in
    one_instruction i j op (subst (λ (n : ℕ). operands_of i ≡ operands_by (entry_at n) (fields_of j)) op
    operands)
