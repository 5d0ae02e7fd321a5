-- What one card says.
use Rattle.std.proofs.Common.{◌≡◌, ℕ, ◌+◌, ◌-◌, ◌<◌, ◌≤◌, Bool, true, false, ◌⊎◌, inl, inr, List, ◌∷◌, [], length}
use Rattle.std.proofs.Common.{take, drop, Option, Some, None, refl, sym, ap, ap₂, subst, ◌∙◌, arith, lt-ltb, le-ltb}
use Rattle.std.specs.Prelude.{nat_lt, if◌then◌else◌}
use Rattle.std.specs.Str.{bytes_eq}
use Rattle.std.proofs.Common.{slice_index}
use Rattle.std.proofs.lemmas.Bool.{ltb-true, ltb-false}
use Rattle.std.proofs.lemmas.List.{get_or-take, get_or-drop, get_or_past, length-take}
use Rattle.byteorder.specs.Numbers.{big_from-lt}
use Rattle.z_deck.specs.Columns.{type_of, at, number_at, address_field, no_entry}
use Rattle.z_deck.specs.Reading.{fault_of, IsText, IsEnd, IsAccessible, count_of, address_of, bytes_of, entry_of}
use Rattle.z_deck.specs.Reading.{is_above}
use Rattle.z_deck.specs.declared.card.CardType.TheVariants.{Section, Text, End}
use Rattle.z_deck.specs.declared.fault.Kind.{Kind}
use Rattle.z_deck.specs.declared.fault.Kind.TheVariants as kinds
use Rattle.z_deck.proofs.Faults.{many_bytes, outside, inside, ending, empty_within, range_within, low_outside}
use Rattle.z_deck.proofs.Faults.{high_outside}

no_range : (first size : ℕ) → size ≡ 0 → IsAccessible first size
no_range first size none some = absurd (omega arith)

-- ---- numbers in columns

part_low : (card : List ℕ) → ((i : ℕ) → slice_index card i < 256) → (n k i : ℕ)
    → slice_index (take n (drop k card)) i < 256
part_low card low n k i = by (nat_lt i n) refl
  where
    by : (b : Bool) → nat_lt i n ≡ b → slice_index (take n (drop k card)) i < 256
    by true is =
        let same : slice_index (take n (drop k card)) i ≡ slice_index card (k + i) =
        get_or-take n (drop k card) i 0 (ltb-true i n is) ∙ get_or-drop k card i 0 in
        subst (λ x. x < 256) (sym same) (low (k + i))
    by false is =
        let past : n ≤ i = ltb-false i n is in
        let none : slice_index (take n (drop k card)) i ≡ 0 =
        get_or_past (take n (drop k card)) i 0 (omega (arith, length-take n (drop k card))) in
        subst (λ x. x < 256) (sym none) (omega arith)

-- an address has 24 bits
pub address_low : (card : List ℕ) → ((i : ℕ) → slice_index card i < 256) → number_at address_field card < 16777216
address_low card low = big_from-lt 0 3 (take 3 (drop 5 card)) (part_low card low 3 5)

module _ (origin : ℕ) (card : List ℕ) (whole : length card ≡ 80) where
  module _ (typed : type_of card ≡ Some Text) (count : ℕ) (counts : count ≡ count_of card) where
    pub too_many : 56 < count → fault_of origin false card ≡ Some kinds.BadCount
    too_many many = many_bytes origin card whole typed (subst (λ n. 56 < n) counts many)

    pub empty_text : count ≡ 0 → (fault_of origin false card ≡ None)
        × ((type_of card ≡ Some Section) ⊎ (IsText origin card × (count_of card ≡ 0)))
    empty_text none =
        let nothing : count_of card ≡ 0 = sym counts ∙ none in
        let few : count_of card ≤ 56 = subst (λ n. n ≤ 56) (sym nothing) (omega arith) in (
          inside origin card whole typed few (empty_within (address_of origin card) (count_of card) nothing),
          inr (
            record {
              type = typed;
              few = few;
              within = no_range (address_of origin card) (count_of card) nothing;
            },
            nothing,
          ),
        )

    module _ (few : count ≤ 56) (some : 0 < count) (first : ℕ) (starts : first ≡ address_of origin card) where
      few_on : count_of card ≤ 56
      few_on = subst (λ n. n ≤ 56) counts few

      some_on : 0 < count_of card
      some_on = subst (λ n. 0 < n) counts some

      pub too_low : first < 8192 → fault_of origin false card ≡ Some kinds.OutOfRange
      too_low low = outside origin card whole typed few_on (low_outside (address_of origin card) (count_of card)
          some_on (subst (λ n. n < 8192) starts low))

      pub too_high : 1048576 < first + count → fault_of origin false card ≡ Some kinds.OutOfRange
      too_high high = outside origin card whole typed few_on (high_outside (address_of origin card) (count_of card)
          some_on (subst (λ n. 1048576 < n) (ap₂ (λ (a b : ℕ). a + b) starts counts) high))

      pub full_text : 8192 ≤ first → first + count ≤ 1048576 → (bytes : List ℕ)
          → bytes ≡ take (16 + count - 16) (drop 16 card)
          → (fault_of origin false card ≡ None) × (IsText origin card × (0 < count_of card)
          × (first ≡ address_of origin card) × (bytes ≡ bytes_of card))
      full_text low high bytes are =
          let lows : 8192 ≤ address_of origin card = subst (λ n. 8192 ≤ n) starts low in
          let highs : address_of origin card + count_of card ≤ 1048576 =
          subst (λ n. n ≤ 1048576) (ap₂ (λ (a b : ℕ). a + b) starts counts) high in
          let back : 16 + count - 16 ≡ count = omega arith in (
            inside origin card whole typed few_on (range_within (address_of origin card) (count_of card) lows highs),
            (
              record { type = typed; few = few_on; within = λ any. (lows, highs) },
              some_on,
              starts,
              are ∙ ap (λ n. take n (drop 16 card)) (back ∙ counts),
            ),
          )

  module _ (typed : type_of card ≡ Some End) where
    none_there : bytes_eq (at address_field card) no_entry ≡ true → entry_of origin card ≡ None
    none_there blanks = ap (λ b. if b then None else Some (address_of origin card)) blanks

    one_there : bytes_eq (at address_field card) no_entry ≡ false
        → entry_of origin card ≡ Some (address_of origin card)
    one_there inked = ap (λ b. if b then None else Some (address_of origin card)) inked

    pub end_without : bytes_eq (at address_field card) no_entry ≡ true → (fault_of origin false card ≡ None)
        × (IsEnd origin card × (None ≡ entry_of origin card))
    end_without blanks = (
      ending origin card whole typed false (ap is_above (none_there blanks)),
      (
        record {
          size = whole;
          type = typed;
          within = λ entry is. let none = none_there blanks in cc;
        },
        sym (none_there blanks),
      ),
    )

    module _ (inked : bytes_eq (at address_field card) no_entry ≡ false) (entry : ℕ)
        (enters : entry ≡ address_of origin card) where
      there : entry_of origin card ≡ Some entry
      there = one_there inked ∙ ap Some (sym enters)

      pub end_outside : 1048576 ≤ entry → fault_of origin false card ≡ Some kinds.OutOfRange
      end_outside high = ending origin card whole typed true (ap is_above there
          ∙ lt-ltb 1048575 entry (omega arith))

      pub end_with : entry < 1048576 → (fault_of origin false card ≡ None)
          × (IsEnd origin card × (Some entry ≡ entry_of origin card))
      end_with low = (
        ending origin card whole typed false (ap is_above there ∙ le-ltb 1048575 entry (omega arith)),
        (
          record {
            size = whole;
            type = typed;
            within = λ other is.
                let same : other ≡ entry = cc (is, there) in subst (λ n. n < 1048576) (sym same) low;
          },
          sym there,
        ),
      )
