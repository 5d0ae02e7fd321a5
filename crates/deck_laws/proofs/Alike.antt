-- Cards are read by the columns that their type names, and by no others.
use Rattle.std.proofs.Common.{◌≡◌, ◌⊎◌, ℕ, ◌+◌, ◌-◌, ◌≤◌, false, ◌&&◌, List, [], ◌∷◌, ◌++◌, length}
use Rattle.std.proofs.Common.{Option, Some, None, refl, sym, ap, ap₂, ◌∙◌, subst, arith, inl, inr, length-append}
use Rattle.std.proofs.Common.{slice_index}
use Rattle.std.specs.Prelude.{All, if◌then◌else◌, unwrap_or}
use Rattle.std.specs.List.{concat}
use Rattle.std.specs.Str.{bytes_eq}
use Rattle.std.proofs.lemmas.List.Elements.{All-nil, All-head, All-tail, All-cons}
use Rattle.byteorder.specs.Endian.{big_number}
use Rattle.z_deck.specs.Columns.{type_of, type_named, mark, no_entry, count_field, address_field}
use Rattle.z_deck.specs.Reading.{IsDeck, IsPart, IsText, IsEnd, IsAccessible, count_of, address_of, bytes_of}
use Rattle.z_deck.specs.Reading.{entry_of, covers, is_text, byte_on, byte_from, over}
use Rattle.z_deck.specs.declared.card.CardType.{CardType}
use Rattle.z_deck.specs.declared.card.CardType.TheVariants.{Section, Text, End, Relocation, Symbol}
use Rattle.deck_laws.specs.Alike.{AreAlike, AllAlike}

-- a card that is no text puts no byte
pub none_on : (origin address : ℕ) (card : List ℕ) → is_text (type_of card) ≡ false
    → byte_on origin card address ≡ None
unfolding byte_on
none_on origin address card is = ap (λ b. if b && covers (address_of origin card) (bytes_of card) address
    then Some (slice_index (bytes_of card) (address - address_of origin card)) else None) is

module _ (card other : List ℕ) (alike : AreAlike card other) where
  type_same : type_of other ≡ type_of card
  type_same = λ k. if bytes_eq (alike.mark k) mark then type_named (alike.type k) else None

  count_same : type_of card ≡ Some Text → count_of other ≡ count_of card
  count_same text =
      ap (λ (b : List ℕ). big_number (count_field.last + 1 - count_field.first) b) (alike.count text)

  module _ (origin : ℕ) where
    address_same : (type_of card ≡ Some Text) ⊎ (type_of card ≡ Some End)
        → address_of origin other ≡ address_of origin card
    address_same named =
        ap (λ (b : List ℕ). big_number (address_field.last + 1 - address_field.first) b + origin)
        (alike.address named)

    entry_same : type_of card ≡ Some End → entry_of origin other ≡ entry_of origin card
    entry_same end = λ k.
        if bytes_eq (alike.address (inr end) k) no_entry then None else Some (address_same (inr end) k)

    -- ---- bytes

    module _ (address : ℕ) where
      none_both : is_text (type_of card) ≡ false → byte_on origin other address ≡ byte_on origin card address
      none_both is =
          none_on origin address other (ap is_text type_same ∙ is) ∙ sym (none_on origin address card is)

      some_both : type_of card ≡ Some Text → byte_on origin other address ≡ byte_on origin card address
      unfolding byte_on
      some_both text =
          let a = address_same (inl text) in
          let b = alike.bytes text in
          let t = type_same in
          λ k. if is_text (t k) && covers (a k) (b k) address then Some (slice_index (b k) (address - a k)) else None

      by_type : (t : Option CardType) → type_of card ≡ t → byte_on origin other address ≡ byte_on origin card address
      by_type (Some Text) is = some_both is
      by_type None is = none_both (ap is_text is)
      by_type (Some Section) is = none_both (ap is_text is)
      by_type (Some End) is = none_both (ap is_text is)
      by_type (Some Relocation) is = none_both (ap is_text is)
      by_type (Some Symbol) is = none_both (ap is_text is)

      pub byte_same : byte_on origin other address ≡ byte_on origin card address
      byte_same = by_type (type_of card) refl

    -- ---- what a card is

    text_same : IsText origin card → IsText origin other
    text_same t = record {
      type = type_same ∙ t.type;
      few = subst (λ (n : ℕ). n ≤ 56) (sym (count_same t.type)) t.few;
      within = subst (λ (a : ℕ). IsAccessible a (count_of other)) (sym (address_same (inl t.type)))
          (subst (λ (n : ℕ). IsAccessible (address_of origin card) n) (sym (count_same t.type)) t.within);
    }

    kind_same : (type_of card ≡ Some Section) ⊎ IsText origin card
        → (type_of other ≡ Some Section) ⊎ IsText origin other
    kind_same (inl section) = inl (type_same ∙ section)
    kind_same (inr text) = inr (text_same text)

    pub part_same : IsPart origin card → IsPart origin other
    part_same part = (alike.size ∙ part.0, kind_same part.1)

    pub end_same : IsEnd origin card → IsEnd origin other
    end_same end = record {
      size = alike.size ∙ end.size;
      type = type_same ∙ end.type;
      within = λ entry is. end.within entry (sym (entry_same end.type) ∙ is);
    }

    pub enters_same : IsEnd origin card → entry_of origin other ≡ entry_of origin card
    enters_same end = entry_same end.type

-- ---- all cards

-- they put the same bytes
pub all_bytes : (origin address : ℕ) (cards others : List (List ℕ)) → AllAlike cards others
    → byte_from origin others address ≡ byte_from origin cards address
all_bytes origin address [] [] alike = refl
all_bytes origin address [] (o ∷ os) alike = absurd alike
all_bytes origin address (c ∷ cs) [] alike = absurd alike
all_bytes origin address (c ∷ cs) (o ∷ os) alike =
    ap₂ over (all_bytes origin address cs os alike.1) (byte_same c o alike.0 origin address)

all_parts : (origin : ℕ) (cards others : List (List ℕ)) → AllAlike cards others → All (IsPart origin) cards
    → All (IsPart origin) others
all_parts origin [] [] alike parts = All-nil (IsPart origin)
all_parts origin [] (o ∷ os) alike parts = absurd alike
all_parts origin (c ∷ cs) [] alike parts = absurd alike
all_parts origin (c ∷ cs) (o ∷ os) alike parts =
    All-cons (IsPart origin) o os (part_same c o alike.0 origin (All-head (IsPart origin) c cs parts))
    (all_parts origin cs os alike.1 (All-tail (IsPart origin) c cs parts))

all_sizes : (cards others : List (List ℕ)) → AllAlike cards others → length (concat others) ≡ length (concat cards)
all_sizes [] [] alike = refl
all_sizes [] (o ∷ os) alike = absurd alike
all_sizes (c ∷ cs) [] alike = absurd alike
all_sizes (c ∷ cs) (o ∷ os) alike =
    omega (
      arith,
      alike.0.size,
      all_sizes cs os alike.1,
      length-append c (concat cs),
      length-append o (concat os),
    )

pub read_alike : (bytes : List ℕ) (origin : ℕ) (storage : List ℕ) (entry : Option ℕ)
    → (deck : IsDeck bytes origin storage entry) → (cards : List (List ℕ)) (last : List ℕ)
    → AllAlike deck.cards cards → AreAlike deck.last last → IsDeck (concat cards ++ last) origin storage entry
read_alike bytes origin storage entry deck cards last alike ends = record {
  few = omega (
    arith,
    deck.few,
    ap (λ (bs : List ℕ). length bs) deck.whole,
    all_sizes deck.cards cards alike,
    ends.size,
    length-append (concat deck.cards) deck.last,
    length-append (concat cards) last,
  );
  cards = cards;
  last = last;
  whole = refl;
  parts = all_parts origin deck.cards cards alike deck.parts;
  end = end_same deck.last last ends origin deck.end;
  holds = record {
    size = deck.holds.size;
    bytes = λ address low. deck.holds.bytes address low
        ∙ ap (λ (b : Option ℕ). unwrap_or b 0) (sym (all_bytes origin address deck.cards cards alike));
  };
  enters = deck.enters ∙ sym (enters_same deck.last last ends origin deck.end);
}
