-- No two rows have one name, and no bytes have the opcodes of two rows.
use Rattle.std.proofs.Common.{◌≡◌, ℕ, ◌<◌, zero, suc, true, false, Bool, ◌&&◌, ◌||◌, not, refl, List, [], ◌∷◌, length, get_or, nat_eq, map, arith, sym, subst, ap, ◌∙◌, inl, inr}
use Rattle.std.proofs.lemmas.Bool.{cases_order}
use Rattle.std.proofs.lemmas.Cmp.{nat_list_eq_equiv}
use Rattle.std.specs.List.{list_all}
use Rattle.std.specs.Str.{bytes_eq}
use Rattle.z_instr.specs.declared.table.TheConstants.{TABLE, ROWS}
use Rattle.z_instr.specs.declared.format.Place.{Place}
use Rattle.z_instr.specs.declared.format.Place.TheVariants.{First, FirstTwo, FirstHalf, Ends}
use Rattle.z_instr.specs.Table.{Entry, table, entry_at, no_entry}
use Rattle.z_instr.specs.Lines.{entry_of}
use Rattle.z_instr.specs.Layout.{place, lead, length_by, form_length}
use Rattle.z_instr.specs.Facts.{all_pairs, have_other_names, have_other_opcodes, is_same_place}
use Rattle.z_instr.specs.Places.{opcode_at, HasOpcode}
use Rattle.z_instr.specs.Reading.{AreBytes}
use Rattle.z_instr.proofs.Passing.{passes, and_left, and_right}
use Rattle.z_instr.proofs.TableFacts.{same_table, opcode_length}
use Rattle.std.proofs.Common.{nat_lt, cond}

passes_pair : (test : Entry → Entry → Bool) (es : List Entry) (m n : ℕ) (d : Entry) →
    all_pairs test es ≡ true → m < n → n < length es → test (get_or es m d) (get_or es n d) ≡ true
passes_pair test [] m n d h l k = absurd (omega arith)
passes_pair test (e ∷ es) zero zero d h l k = absurd (omega arith)
passes_pair test (e ∷ es) zero (suc n) d h l k =
    passes (test e) es n d (and_left (list_all (test e) es) (all_pairs test es) h) (omega arith)
passes_pair test (e ∷ es) (suc m) zero d h l k = absurd (omega arith)
passes_pair test (e ∷ es) (suc m) (suc n) d h l k =
    passes_pair test es m n d (and_right (list_all (test e) es) (all_pairs test es) h) (omega arith)
    (omega arith)

-- what a computed test of all pairs says of two rows
pub passes_rows : (test : Entry → Entry → Bool) → all_pairs test (map entry_of TABLE) ≡ true → (m n : ℕ) →
    m < n → n < ROWS → test (entry_at m) (entry_at n) ≡ true
unfolding entry_at
passes_rows test e m n l h =
    passes_pair test table m n no_entry (subst (λ t. all_pairs test t ≡ true) same_table e) l
    (subst (λ (t : List Entry). n < length t) same_table h)

-- what no two rows share tells their numbers apart
one_number : (Shares : ℕ → ℕ → Type 0) → ((m n : ℕ) → m < n → n < ROWS → Shares m n → ⊥) → (m n : ℕ) →
    m < ROWS → n < ROWS → Shares m n → Shares n m → m ≡ n
one_number Shares never m n h k s t =
    elim (cases_order m n) [
      | inl e ↦ e
      | inr other ↦ elim other [
        | inl l ↦ absurd (never m n l k s)
        | inr l ↦ absurd (never n m l h t)
      ]
    ]

-- ---- names

other_names : (m n : ℕ) → m < n → n < ROWS → have_other_names (entry_at m) (entry_at n) ≡ true
other_names = passes_rows have_other_names refl

differ : (a b : List ℕ) → not (bytes_eq a b) ≡ true → a ≡ b → ⊥
differ a b h e =
    let same : bytes_eq a b ≡ true = subst (λ c. bytes_eq a c ≡ true) e (nat_list_eq_equiv.refl a) in
    absurd (grind arith)

pub one_name : (m n : ℕ) → m < ROWS → n < ROWS → (entry_at m).name ≡ (entry_at n).name → m ≡ n
one_name m n h k e =
    one_number (λ i j. (entry_at i).name ≡ (entry_at j).name)
    (λ i j l r. differ (entry_at i).name (entry_at j).name (other_names i j l r)) m n h k e (sym e)

-- ---- opcodes

other_opcodes : (m n : ℕ) → m < n → n < ROWS → have_other_opcodes (entry_at m) (entry_at n) ≡ true
other_opcodes = passes_rows have_other_opcodes refl

-- bytes that have an opcode in its place begin with its first byte
pub leads : (p : Place) (bytes : List ℕ) → AreBytes bytes → lead p (opcode_at p bytes) ≡ get_or bytes 0 0
leads First bytes b = refl
leads FirstTwo bytes b = omega (arith, b 1)
leads FirstHalf bytes b = omega arith
leads Ends bytes b = omega (arith, b 5)

same_opcode : (p q : Place) (bytes : List ℕ) → is_same_place p q ≡ true →
    opcode_at p bytes ≡ opcode_at q bytes
same_opcode First First bytes h = refl
same_opcode FirstTwo FirstTwo bytes h = refl
same_opcode FirstHalf FirstHalf bytes h = refl
same_opcode Ends Ends bytes h = refl
same_opcode First FirstTwo bytes h = cc
same_opcode First FirstHalf bytes h = cc
same_opcode First Ends bytes h = cc
same_opcode FirstTwo First bytes h = cc
same_opcode FirstTwo FirstHalf bytes h = cc
same_opcode FirstTwo Ends bytes h = cc
same_opcode FirstHalf First bytes h = cc
same_opcode FirstHalf FirstTwo bytes h = cc
same_opcode FirstHalf Ends bytes h = cc
same_opcode Ends First bytes h = cc
same_opcode Ends FirstTwo bytes h = cc
same_opcode Ends FirstHalf bytes h = cc

-- what the test says of two rows with one first byte
one_lead : (x y o r : ℕ) (same : Bool) → x ≡ y → (not (nat_eq x y) || (same && not (nat_eq o r))) ≡ true →
    (same ≡ true) × (o ≡ r → ⊥)
one_lead x y o r true e h = (refl, grind arith)
one_lead x y o r false e h = absurd (grind arith)

never_both : (a b : Entry) (bytes : List ℕ) → AreBytes bytes → have_other_opcodes a b ≡ true →
    HasOpcode a bytes → HasOpcode b bytes → ⊥
never_both a b bytes y h f g =
    let p = place a.form in
    let q = place b.form in
    let e : lead p a.opcode ≡ lead q b.opcode = ap (lead p) (sym f) ∙ leads p bytes y ∙ sym (leads q bytes y)
    ∙ ap (lead q) g in
    let t = one_lead (lead p a.opcode) (lead q b.opcode) a.opcode b.opcode (is_same_place p q) e h in
    t.1 (sym f ∙ same_opcode p q bytes t.0 ∙ g)

pub one_row : (m n : ℕ) (bytes : List ℕ) → m < ROWS → n < ROWS → AreBytes bytes →
    HasOpcode (entry_at m) bytes → HasOpcode (entry_at n) bytes → m ≡ n
one_row m n bytes h k b f g =
    one_number (λ i j. HasOpcode (entry_at i) bytes × HasOpcode (entry_at j) bytes)
    (λ i j l r s. never_both (entry_at i) (entry_at j) bytes b (other_opcodes i j l r) s.0 s.1) m n h k
    (f, g) (g, f)

-- the length that the first byte gives is the format's
pub opcode_gives_length : (n : ℕ) (bytes : List ℕ) → n < ROWS → AreBytes bytes →
    HasOpcode (entry_at n) bytes → length_by (get_or bytes 0 0) ≡ form_length (entry_at n).form
opcode_gives_length n bytes h b f =
    let p = place (entry_at n).form in
    ap length_by (sym (leads p bytes b)) ∙ ap (λ o. length_by (lead p o)) f ∙ opcode_length n h

pub some_length : (first : ℕ) → 0 < length_by first
some_length first = by (nat_lt first 64) (nat_lt first 192)
  where
    by : (a b : Bool) → 0 < cond a 2 (cond b 4 6)
    by true b = omega arith
    by false true = omega arith
    by false false = omega arith
