-- The fault of a card of 80 bytes, by its type.
use Rattle.std.proofs.Common.{◌≡◌, ℕ, ◌+◌, ◌<◌, ◌≤◌, Bool, true, false, not, ◌&&◌, ◌||◌, ◌⊎◌, inl, inr}
use Rattle.std.proofs.Common.{List, [], ◌∷◌, length, Option, Some, None, is_none, refl, sym, ap, ap₂, ◌∙◌}
use Rattle.std.proofs.Common.{arith, lt-ltb, le-ltb, le-leb, eq-eqb}
use Rattle.std.proofs.lemmas.Bool.{lt-leb}
use Rattle.std.specs.Prelude.{nat_lt, nat_le, ◌==◌}
use Rattle.std.proofs.lemmas.Bool.{and_parts, leb-true}
use Rattle.std.proofs.Math.Bool.{and-false, or-true}
use Rattle.z_deck.specs.Columns.{type_of}
use Rattle.z_deck.specs.Reading.{fault_of, first_kind, test, is_type, is_text, is_end, is_accessible, is_above}
use Rattle.z_deck.specs.Reading.{count_of, address_of, entry_of, IsAccessible}
use Rattle.z_deck.specs.declared.card.CardType.{CardType}
use Rattle.z_deck.specs.declared.card.CardType.TheVariants.{Section, Text, End, Relocation, Symbol}
use Rattle.z_deck.specs.declared.fault.Kind.{Kind}
use Rattle.z_deck.specs.declared.fault.Kind.TheVariants as kinds

-- the tests, from what they look at
abbrev pub fault_by : Bool → Bool → Option CardType → Bool → Bool → Bool → Option Kind
fault_by whole ended type many within above = first_kind
    (test kinds.ShortCard (not whole)
    ∷ test kinds.AfterEnd ended
    ∷ test kinds.NotACard (is_none type)
    ∷ test kinds.RelocationCard (is_type Relocation type)
    ∷ test kinds.SymbolCard (is_type Symbol type)
    ∷ test kinds.BadCount (is_text type && many)
    ∷ test kinds.OutOfRange ((is_text type && not within) || (is_end type && above))
    ∷ [])

abbrev pub many_on : List ℕ → Bool
many_on card = nat_lt 56 (count_of card)

abbrev pub within_on : ℕ → List ℕ → Bool
within_on origin card = is_accessible (address_of origin card) (count_of card)

abbrev pub above_on : ℕ → List ℕ → Bool
above_on origin card = is_above (entry_of origin card)

pub fault_is : (origin : ℕ) (ended : Bool) (card : List ℕ) → fault_of origin ended card
    ≡ fault_by (length card == 80) ended (type_of card) (many_on card) (within_on origin card)
    (above_on origin card)
unfolding fault_of
fault_is origin ended card = refl

module _ (origin : ℕ) (card : List ℕ) (whole : length card ≡ 80) where
  -- a card of 80 bytes has the fault that its type and its fields give
  pub fault_for : (ended : Bool) (t : Option CardType) → type_of card ≡ t
      → fault_of origin ended card
      ≡ fault_by true ended t (many_on card) (within_on origin card) (above_on origin card)
  fault_for ended t typed =
      fault_is origin ended card
      ∙ ap₂ (λ (b : Bool) (o : Option CardType). fault_by b ended o (many_on card) (within_on origin card)
      (above_on origin card)) (eq-eqb (length card) 80 whole) typed

  -- a card behind the end is one
  pub behind : fault_of origin true card ≡ Some kinds.AfterEnd
  behind = fault_for true (type_of card) refl

  pub none_known : type_of card ≡ None → fault_of origin false card ≡ Some kinds.NotACard
  none_known typed = fault_for false None typed

  pub relocation : type_of card ≡ Some Relocation → fault_of origin false card ≡ Some kinds.RelocationCard
  relocation typed = fault_for false (Some Relocation) typed

  pub symbol : type_of card ≡ Some Symbol → fault_of origin false card ≡ Some kinds.SymbolCard
  symbol typed = fault_for false (Some Symbol) typed

  pub section : type_of card ≡ Some Section → fault_of origin false card ≡ None
  section typed = fault_for false (Some Section) typed

  pub many_bytes : type_of card ≡ Some Text → 56 < count_of card
      → fault_of origin false card ≡ Some kinds.BadCount
  many_bytes typed many =
      fault_for false (Some Text) typed
      ∙ ap (λ b. fault_by true false (Some Text) b (within_on origin card) (above_on origin card))
      (lt-ltb 56 (count_of card) many)

  few_then : type_of card ≡ Some Text → count_of card ≤ 56 → (within : Bool) → within_on origin card ≡ within
      → fault_of origin false card ≡ fault_by true false (Some Text) false within (above_on origin card)
  few_then typed few within is =
      fault_for false (Some Text) typed
      ∙ ap₂ (λ b c. fault_by true false (Some Text) b c (above_on origin card))
      (le-ltb 56 (count_of card) few) is

  pub outside : type_of card ≡ Some Text → count_of card ≤ 56 → within_on origin card ≡ false
      → fault_of origin false card ≡ Some kinds.OutOfRange
  outside typed few apart = few_then typed few false apart

  pub inside : type_of card ≡ Some Text → count_of card ≤ 56 → within_on origin card ≡ true
      → fault_of origin false card ≡ None
  inside typed few within = few_then typed few true within

  pub ending : type_of card ≡ Some End → (above : Bool) → above_on origin card ≡ above
      → fault_of origin false card ≡ fault_by true false (Some End) false true above
  ending typed above is =
      fault_for false (Some End) typed
      ∙ ap (λ b. fault_by true false (Some End) (many_on card) (within_on origin card) b) is

-- ---- the range of bytes

pub empty_within : (first size : ℕ) → size ≡ 0 → is_accessible first size ≡ true
empty_within first size none =
    ap (λ b. not b || (nat_le 8192 first && nat_le (first + size) 1048576)) (le-ltb 0 size (omega arith))

pub range_within : (first size : ℕ) → 8192 ≤ first → first + size ≤ 1048576 → is_accessible first size ≡ true
range_within first size low high =
    ap₂ (λ b c. not (nat_lt 0 size) || (b && c)) (le-leb 8192 first low)
    (le-leb (first + size) 1048576 high) ∙ or-true (not (nat_lt 0 size))

pub low_outside : (first size : ℕ) → 0 < size → first < 8192 → is_accessible first size ≡ false
low_outside first size some low =
    ap₂ (λ b c. not b || (c && nat_le (first + size) 1048576)) (lt-ltb 0 size some) (lt-leb 8192 first low)

pub high_outside : (first size : ℕ) → 0 < size → 1048576 < first + size → is_accessible first size ≡ false
high_outside first size some high =
    ap₂ (λ b c. not b || (nat_le 8192 first && c)) (lt-ltb 0 size some) (lt-leb (first + size) 1048576 high)
    ∙ and-false (nat_le 8192 first)

pub accessible : (first size : ℕ) → is_accessible first size ≡ true → IsAccessible first size
accessible first size within some =
    let both : (nat_le 8192 first && nat_le (first + size) 1048576) ≡ true =
    ap (λ b. not b || (nat_le 8192 first && nat_le (first + size) 1048576)) (sym (lt-ltb 0 size some)) ∙ within in
    let parts = and_parts (nat_le 8192 first) (nat_le (first + size) 1048576) both in
    (leb-true 8192 first parts.0, leb-true (first + size) 1048576 parts.1)
