-- Bytes are a deck or have a first fault, never both, and only one.
use Rattle.std.proofs.Common.{◌≡◌, ℕ, zero, suc, ◌+◌, ◌-◌, ◌*◌, ◌/◌, ◌<◌, ◌≤◌, Bool, true, false, ◌||◌, ◌⊎◌}
use Rattle.std.proofs.Common.{inl, inr, List, [], ◌∷◌, ◌++◌, length, take, drop, Option, Some, None, is_some}
use Rattle.std.proofs.Common.{refl, sym, ap, ap₂, subst, ◌∙◌, arith, All, length-append}
use Rattle.std.proofs.Common.{append_assoc, le-ltb}
use Rattle.std.specs.Prelude.{nat_lt, ◌==◌}
use Rattle.std.specs.List.{concat}
use Rattle.std.proofs.lemmas.Bool.{eqb-true, ltb-true, ltb-false}
use Rattle.std.proofs.lemmas.List.{append-nil, length-replicate, take_at, drop_at, ext_get_or}
use Rattle.std.proofs.lemmas.List.Elements.{All-head, All-tail}
use Rattle.std.proofs.lemmas.List.Folds.{concat-append}
use Rattle.z_deck.specs.Columns.{type_of}
use Rattle.z_deck.specs.Loading.{Loaded}
use Rattle.z_deck.specs.Reading.{fault_of, ends, is_end, Pass, Holds, IsDeck, FirstFault, too_long, at_card, no_end}
use Rattle.z_deck.specs.Reading.{IsText, IsEnd, IsPart, entry_of, address_of, bytes_of, count_of, zeros}
use Rattle.z_deck.specs.Reading.{is_accessible, is_above}
use Rattle.z_deck.specs.Ways.{HasDeck, HasFault}
use Rattle.z_deck.specs.declared.card.CardType.{CardType}
use Rattle.z_deck.specs.declared.card.CardType.TheVariants.{Section, Text, End, Relocation, Symbol}
use Rattle.z_deck.specs.declared.fault.Kind.{Kind}
use Rattle.z_deck.specs.declared.fault.Kind.TheVariants as kinds
use Rattle.z_deck.proofs.Faults.{fault_is, fault_by, fault_for, many_on, within_on, above_on, accessible, section}
use Rattle.z_deck.proofs.Faults.{inside, ending, empty_within, range_within}
use Rattle.z_deck.proofs.Loaded.{first_cards, nothing_loaded, pass_more, ends_more, section_loaded, empty_loaded}
use Rattle.z_deck.proofs.Loaded.{text_loaded, end_loaded, still_open}
use Rattle.z_deck.proofs.Decks.{fault_in, short_in, no_end_in, deck_in}
use Rattle.std.proofs.Math.Bool.{or-false, or_assoc}

-- ---- what a card without a fault is

size_by : (b : Bool) (ended : Bool) (t : Option CardType) (many within above : Bool)
    → fault_by b ended t many within above ≡ None → b ≡ true
size_by true ended t many within above h = refl
size_by false ended t many within above h = cc

-- it has 80 bytes
pub fair_size : (origin : ℕ) (ended : Bool) (card : List ℕ) → fault_of origin ended card ≡ None → length card ≡ 80
fair_size origin ended card fair = eqb-true (length card) 80 (size_by (length card == 80) ended (type_of card)
    (many_on card) (within_on origin card) (above_on origin card) (sym (fault_is origin ended card) ∙ fair))

text_by : (many within above : Bool) → fault_by true false (Some Text) many within above ≡ None
    → (many ≡ false) × (within ≡ true)
text_by true within above h = cc
text_by false true above h = (refl, refl)
text_by false false above h = cc

end_by : (many within above : Bool) → fault_by true false (Some End) many within above ≡ None → above ≡ false
end_by many within true h = cc
end_by many within false h = refl

low_entry : (o : Option ℕ) → is_above o ≡ false → (entry : ℕ) → o ≡ Some entry → entry < 1048576
low_entry None low entry is = cc
low_entry (Some x) low entry is =
    let same : x ≡ entry = cc in
    let below : x ≤ 1048575 = ltb-false 1048575 x low in omega arith

-- ---- one more card

pub record More (origin : ℕ) (cards : List (List ℕ)) : Type 0 where
  pub storage : List ℕ
  pub end : Option (Option ℕ)
  pub loaded : Loaded origin cards storage end

module _ (origin : ℕ) (cards : List (List ℕ)) (card storage : List ℕ) (end : Option (Option ℕ))
    (l : Loaded origin cards storage end) (fair : fault_of origin (is_some end) card ≡ None) where
  whole : length card ≡ 80
  whole = fair_size origin (is_some end) card fair

  now : fault_of origin false card ≡ None
  now = ap (λ (e : Option (Option ℕ)). fault_of origin (is_some e) card) (sym (still_open origin cards card storage
      whole end fair)) ∙ fair

  typed_fault : (t : Option CardType) → type_of card ≡ t
      → fault_by true false t (many_on card) (within_on origin card) (above_on origin card) ≡ None
  typed_fault t is = sym (fault_for origin card whole false t is) ∙ now

  text_so : type_of card ≡ Some Text → IsText origin card
  text_so is =
      let facts = text_by (many_on card) (within_on origin card) (above_on origin card) (typed_fault (Some Text)
      is) in
      record {
        type = is;
        few = ltb-false 56 (count_of card) facts.0;
        within = accessible (address_of origin card) (count_of card) facts.1;
      }

  text_more : IsText origin card → (some : Bool) → nat_lt 0 (count_of card) ≡ some → More origin (cards ++ card ∷ [])
  text_more text true is = record {
    storage = take (address_of origin card) storage
        ++ (bytes_of card ++ drop (address_of origin card + length (bytes_of card)) storage);
    end = end;
    loaded = text_loaded origin cards card storage whole end fair text (ltb-true 0 (count_of card) is) l;
  }
  text_more text false is =
      let few : count_of card ≤ 0 = ltb-false 0 (count_of card) is in
      let none : count_of card ≡ 0 = nothing_left (count_of card) few in
      record {
        storage = storage;
        end = end;
        loaded = empty_loaded origin cards card storage whole end fair l text none;
      }
    where
      nothing_left : (n : ℕ) → n ≤ 0 → n ≡ 0
      nothing_left n h = omega arith

  end_so : type_of card ≡ Some End → IsEnd origin card
  end_so is = record {
    size = whole;
    type = is;
    within = low_entry (entry_of origin card)
        (end_by (many_on card) (within_on origin card) (above_on origin card) (typed_fault (Some End) is));
  }

  -- a card without a fault is loaded
  pub card_more : More origin (cards ++ card ∷ [])
  card_more = by (type_of card) refl
    where
      by : (t : Option CardType) → type_of card ≡ t → More origin (cards ++ card ∷ [])
      by None is = let never = typed_fault None is in cc
      by (Some Relocation) is = let never = typed_fault (Some Relocation) is in cc
      by (Some Symbol) is = let never = typed_fault (Some Symbol) is in cc
      by (Some Section) is = record {
        storage = storage;
        end = end;
        loaded = section_loaded origin cards card storage whole end fair l is;
      }
      by (Some Text) is = text_more (text_so is) (nat_lt 0 (count_of card)) refl
      by (Some End) is = record {
        storage = storage;
        end = Some (entry_of origin card);
        loaded = end_loaded origin cards card storage whole end fair (entry_of origin card) l (end_so is) refl;
      }

-- ---- one of the two

zeros_size : (n : ℕ) → length (zeros n) ≡ n
unfolding zeros
zeros_size n = length-replicate n 0

module _ (origin : ℕ) (bytes : List ℕ) (few : length bytes ≤ 16777216) where
  walk : (k : ℕ) → 80 * k ≤ length bytes → More origin (first_cards k bytes) ⊎ HasFault bytes origin
  unfolding first_cards
  walk zero within = inl (record {
    storage = zeros 1048576;
    end = None;
    loaded = nothing_loaded origin (zeros 1048576) (zeros_size 1048576) refl;
  })
  walk (suc k) within = by (walk k (omega arith))
    where
      with_fault : (m : More origin (first_cards k bytes)) (f : Option Kind)
          → fault_of origin (is_some m.end) (take 80 (drop (80 * k) bytes)) ≡ f
          → More origin (first_cards k bytes ++ take 80 (drop (80 * k) bytes) ∷ []) ⊎ HasFault bytes origin
      with_fault m None is = inl (card_more origin (first_cards k bytes) (take 80 (drop (80 * k) bytes)) m.storage m.end
          m.loaded is)
      with_fault m (Some kind) is = inr (record {
        number = k + 1;
        kind = kind;
        first = fault_in origin bytes few k m.storage m.end (take 80 (drop (80 * k) bytes)) kind (omega arith) refl is
            m.loaded;
      })

      by : More origin (first_cards k bytes) ⊎ HasFault bytes origin
          → More origin (first_cards k bytes ++ take 80 (drop (80 * k) bytes) ∷ []) ⊎ HasFault bytes origin
      by (inr f) = inr f
      by (inl m) = with_fault m (fault_of origin (is_some m.end) (take 80 (drop (80 * k) bytes))) refl

  -- the whole cards are loaded, and then come the bytes behind them
  last : (k : ℕ) → 80 * k ≤ length bytes → length bytes < 80 * k + 80 → More origin (first_cards k bytes)
      → HasDeck bytes origin ⊎ HasFault bytes origin
  last k low high m = by (nat_lt (80 * k) (length bytes)) refl
    where
      whole_cards : 80 * k ≡ length bytes → (end : Option (Option ℕ))
          → Loaded origin (first_cards k bytes) m.storage end → HasDeck bytes origin ⊎ HasFault bytes origin
      whole_cards all None l = inr (record {
        number = k + 1;
        kind = kinds.NoEnd;
        first = no_end_in origin bytes few k m.storage all l;
      })
      whole_cards all (Some entry) l = inl (record {
        storage = m.storage;
        entry = entry;
        deck = deck_in origin bytes few k m.storage entry all l;
      })

      by : (b : Bool) → nat_lt (80 * k) (length bytes) ≡ b → HasDeck bytes origin ⊎ HasFault bytes origin
      by true is = inr (record {
        number = k + 1;
        kind = kinds.ShortCard;
        first = short_in origin bytes few k m.storage m.end (ltb-true (80 * k) (length bytes) is) high m.loaded;
      })
      by false is = whole_cards (let more = ltb-false (80 * k) (length bytes) is in omega arith) m.end m.loaded

  few_hold : HasDeck bytes origin ⊎ HasFault bytes origin
  few_hold = by (walk (length bytes / 80) (omega arith))
    where
      by : More origin (first_cards (length bytes / 80) bytes) ⊎ HasFault bytes origin
          → HasDeck bytes origin ⊎ HasFault bytes origin
      by (inr f) = inr f
      by (inl m) = last (length bytes / 80) (omega arith) (omega arith) m

pub one_holds : (bytes : List ℕ) (origin : ℕ) → HasDeck bytes origin ⊎ HasFault bytes origin
one_holds bytes origin = by (nat_lt 16777216 (length bytes)) refl
  where
    by : (b : Bool) → nat_lt 16777216 (length bytes) ≡ b → HasDeck bytes origin ⊎ HasFault bytes origin
    by true is = inr (record {
      number = 209716;
      kind = kinds.ShortCard;
      first = too_long (ltb-true 16777216 (length bytes) is) refl refl;
    })
    by false is = few_hold origin bytes (ltb-false 16777216 (length bytes) is)

-- ---- only one

-- the front of two equal texts
front_same : (x y s t : List ℕ) → length x ≡ 80 → length y ≡ 80 → x ++ s ≡ y ++ t → (x ≡ y) × (s ≡ t)
front_same x y s t whole also same = (
  sym (take_at x s 80 whole) ∙ ap (take 80) same ∙ take_at y t 80 also,
  sym (drop_at x s 80 whole) ∙ ap (drop 80) same ∙ drop_at y t 80 also,
)

none_left : (x s : List ℕ) → length x ≡ 80 → x ++ s ≡ [] → ⊥
none_left x s whole none = absurd (omega (arith, length-append x s, ap length none))

module _ (origin : ℕ) where
  -- cards without a fault, and a fault behind the first of them: never of the same bytes
  clash : (ended : Bool) (before cards : List (List ℕ)) (rest : List ℕ) (kind : Kind) → Pass origin ended before
      → Pass origin ended cards → concat before ++ rest ≡ concat cards → 0 < length rest
      → fault_of origin (ended || ends before) (take 80 rest) ≡ Some kind → ⊥
  clash ended [] [] rest kind p q same some fault = absurd (omega (arith, ap length same))
  clash ended [] (c ∷ cards) rest kind p q same some fault =
      let whole = fair_size origin ended c q.0 in
      let card : take 80 rest ≡ c = ap (take 80) same ∙ take_at c (concat cards) 80 whole in
      let here : fault_of origin ended c ≡ Some kind =
      ap₂ (λ (b : Bool) (x : List ℕ). fault_of origin b x) (sym (or-false ended)) (sym card) ∙ fault in
      let fair = q.0 in cc
  clash ended (b ∷ before) [] rest kind p q same some fault =
      none_left b (concat before ++ rest) (fair_size origin ended b p.0)
      (sym (append_assoc b (concat before) rest) ∙ same)
  clash ended (b ∷ before) (c ∷ cards) rest kind p q same some fault =
      let parts = front_same b c (concat before ++ rest) (concat cards) (fair_size origin ended b p.0)
      (fair_size origin ended c q.0) (sym (append_assoc b (concat before) rest) ∙ same) in
      clash (ended || is_end (type_of b)) before cards rest kind p.1
      (subst (λ (x : List ℕ). Pass origin (ended || is_end (type_of x)) cards) (sym parts.0) q.1) parts.1 some
      (ap (λ x. fault_of origin x (take 80 rest)) (or_assoc ended (is_end (type_of b)) (ends before)) ∙ fault)

  -- cards without a fault of the same bytes are the same
  same_cards : (ended : Bool) (some others : List (List ℕ)) → Pass origin ended some → Pass origin ended others
      → concat some ≡ concat others → some ≡ others
  same_cards ended [] [] p q same = refl
  same_cards ended [] (c ∷ cards) p q same = absurd (none_left c (concat cards) (fair_size origin ended c q.0)
      (sym same))
  same_cards ended (b ∷ before) [] p q same = absurd (none_left b (concat before) (fair_size origin ended b p.0) same)
  same_cards ended (b ∷ before) (c ∷ cards) p q same =
      let parts = front_same b c (concat before) (concat cards) (fair_size origin ended b p.0)
      (fair_size origin ended c q.0) same in
      ap₂ (λ (x : List ℕ) (xs : List (List ℕ)). x ∷ xs) parts.0
      (same_cards (ended || is_end (type_of b)) before cards p.1
      (subst (λ (x : List ℕ). Pass origin (ended || is_end (type_of x)) cards) (sym parts.0) q.1) parts.1)

  -- two first faults are at one place and of one kind
  same_place : (ended : Bool) (some others : List (List ℕ)) (rest behind : List ℕ) (kind other : Kind)
      → Pass origin ended some → Pass origin ended others → concat some ++ rest ≡ concat others ++ behind
      → 0 < length rest → 0 < length behind
      → fault_of origin (ended || ends some) (take 80 rest) ≡ Some kind
      → fault_of origin (ended || ends others) (take 80 behind) ≡ Some other
      → (length some ≡ length others) × (kind ≡ other)
  same_place ended [] [] rest behind kind other p q same s t f g =
      let both : take 80 rest ≡ take 80 behind = ap (take 80) same in
      let one : fault_of origin (ended || false) (take 80 behind) ≡ Some kind =
      ap (fault_of origin (ended || false)) (sym both) ∙ f in
      let two : fault_of origin (ended || false) (take 80 behind) ≡ Some other = g in (refl, cc)
  same_place ended [] (c ∷ cards) rest behind kind other p q same s t f g =
      let whole = fair_size origin ended c q.0 in
      let card : take 80 rest ≡ c =
      ap (take 80) (same ∙ append_assoc c (concat cards) behind) ∙ take_at c (concat cards ++ behind) 80 whole in
      let here : fault_of origin ended c ≡ Some kind =
      ap₂ (λ (b : Bool) (x : List ℕ). fault_of origin b x) (sym (or-false ended)) (sym card) ∙ f in
      let fair = q.0 in cc
  same_place ended (b ∷ before) [] rest behind kind other p q same s t f g =
      let whole = fair_size origin ended b p.0 in
      let card : take 80 behind ≡ b =
      ap (take 80) (sym same ∙ append_assoc b (concat before) rest) ∙ take_at b (concat before ++ rest) 80 whole in
      let here : fault_of origin ended b ≡ Some other =
      ap₂ (λ (e : Bool) (x : List ℕ). fault_of origin e x) (sym (or-false ended)) (sym card) ∙ g in
      let fair = p.0 in cc
  same_place ended (b ∷ before) (c ∷ cards) rest behind kind other p q same s t f g =
      let parts = front_same b c (concat before ++ rest) (concat cards ++ behind) (fair_size origin ended b p.0)
      (fair_size origin ended c q.0)
      (sym (append_assoc b (concat before) rest) ∙ same ∙ append_assoc c (concat cards) behind) in
      let g2 : fault_of origin ((ended || is_end (type_of b)) || ends cards) (take 80 behind) ≡ Some other =
      ap (λ (x : List ℕ). fault_of origin ((ended || is_end (type_of x)) || ends cards) (take 80 behind)) parts.0
      ∙ ap (λ x. fault_of origin x (take 80 behind)) (or_assoc ended (is_end (type_of c)) (ends cards)) ∙ g in
      let rest_same = same_place (ended || is_end (type_of b)) before cards rest behind kind other p.1
      (subst (λ (x : List ℕ). Pass origin (ended || is_end (type_of x)) cards) (sym parts.0) q.1) parts.1 s t
      (ap (λ x. fault_of origin x (take 80 rest)) (or_assoc ended (is_end (type_of b)) (ends before)) ∙ f) g2 in
      (ap suc rest_same.0, rest_same.1)

  -- ---- the cards of a deck

  part_fair : (card : List ℕ) → IsPart origin card → (fault_of origin false card ≡ None)
      × (is_end (type_of card) ≡ false)
  part_fair card (whole, inl typed) = (section origin card whole typed, ap is_end typed)
  part_fair card (whole, inr text) = (
    inside origin card whole text.type text.few (by (nat_lt 0 (count_of card)) refl),
    ap is_end text.type,
  )
    where
      zero_of : (n : ℕ) → n ≤ 0 → n ≡ 0
      zero_of n h = omega arith

      by : (b : Bool) → nat_lt 0 (count_of card) ≡ b
          → is_accessible (address_of origin card) (count_of card) ≡ true
      by true is =
          let place = text.within (ltb-true 0 (count_of card) is) in
          range_within (address_of origin card) (count_of card) place.0 place.1
      by false is = empty_within (address_of origin card) (count_of card)
          (zero_of (count_of card) (ltb-false 0 (count_of card) is))

  parts_pass : (cards : List (List ℕ)) → All (IsPart origin) cards → Pass origin false cards × (ends cards ≡ false)
  parts_pass [] parts = (tt, refl)
  parts_pass (c ∷ cards) parts =
      let one = part_fair c (All-head (IsPart origin) c cards parts) in
      let rest = parts_pass cards (All-tail (IsPart origin) c cards parts) in (
        (one.0, subst (λ b. Pass origin b cards) (sym one.1) rest.0),
        ap₂ (λ b c. b || c) one.1 rest.1,
      )

  above_none : (o : Option ℕ) → ((entry : ℕ) → o ≡ Some entry → entry < 1048576) → is_above o ≡ false
  above_none None low = refl
  above_none (Some x) low = let below = low x refl in le_so x below
    where
      le_so : (n : ℕ) → n < 1048576 → nat_lt 1048575 n ≡ false
      le_so n h = le-ltb 1048575 n (omega arith)

  module _ (bytes : List ℕ) (storage : List ℕ) (entry : Option ℕ) (d : IsDeck bytes origin storage entry) where
    abbrev all : List (List ℕ)
    all = d.cards ++ d.last ∷ []

    deck_pass : Pass origin false all
    deck_pass =
        let parts = parts_pass d.cards d.parts in
        pass_more origin false d.cards d.last parts.0
        (ap (λ b. fault_of origin b d.last) parts.1
        ∙ ending origin d.last d.end.size d.end.type false (above_none (entry_of origin d.last) d.end.within))

    deck_ends : ends all ≡ true
    deck_ends =
        let parts = parts_pass d.cards d.parts in
        ends_more d.cards d.last ∙ ap₂ (λ b c. b || c) parts.1 (ap is_end d.end.type)

    deck_bytes : bytes ≡ concat all
    deck_bytes =
        d.whole ∙ ap (λ (t : List ℕ). concat d.cards ++ t) (sym (append-nil d.last))
        ∙ sym (concat-append d.cards (d.last ∷ []))

  -- a deck has no fault
  pub never_both : (bytes storage : List ℕ) (entry : Option ℕ) (number : ℕ) (kind : Kind)
      → IsDeck bytes origin storage entry → FirstFault bytes origin number kind → ⊥
  never_both bytes storage entry number kind d (too_long high n k) = absurd (omega (arith, d.few))
  never_both bytes storage entry number kind d (at_card few before rest is passed some fault n) =
      clash false before (all bytes storage entry d) rest kind passed (deck_pass bytes storage entry d)
      (sym is ∙ deck_bytes bytes storage entry d) some fault
  never_both bytes storage entry number kind d (no_end few cards is passed unended n k) =
      let same = same_cards false cards (all bytes storage entry d) passed (deck_pass bytes storage entry d)
      (sym is ∙ deck_bytes bytes storage entry d) in
      let here : ends cards ≡ true = ap ends same ∙ deck_ends bytes storage entry d in cc

  -- ---- decks and faults of the same bytes

  -- all but the first one
  abbrev tail_of : List (List ℕ) → List (List ℕ)
  tail_of [] = []
  tail_of (z ∷ zs) = zs

  last_same : (xs ys : List (List ℕ)) (x y : List ℕ) → xs ++ x ∷ [] ≡ ys ++ y ∷ [] → (xs ≡ ys) × (x ≡ y)
  last_same [] [] x y same = (refl, cc)
  last_same [] (c ∷ ys) x y same = absurd (two_many ys y (ap tail_of same))
    where
      two_many : (zs : List (List ℕ)) (z : List ℕ) → [] ≡ zs ++ z ∷ [] → ⊥
      two_many [] z e = cc
      two_many (w ∷ zs) z e = cc
  last_same (b ∷ xs) [] x y same = absurd (two_many xs x (ap tail_of same))
    where
      two_many : (zs : List (List ℕ)) (z : List ℕ) → zs ++ z ∷ [] ≡ [] → ⊥
      two_many [] z e = cc
      two_many (w ∷ zs) z e = cc
  last_same (b ∷ xs) (c ∷ ys) x y same =
      let head : b ≡ c = cc in
      let tail : xs ++ x ∷ [] ≡ ys ++ y ∷ [] = cc in
      let rest = last_same xs ys x y tail in
      (ap₂ (λ (z : List ℕ) (zs : List (List ℕ)). z ∷ zs) head rest.0, rest.1)

  same_storage : (cards : List (List ℕ)) (some others : List ℕ) → Holds origin cards some → Holds origin cards others
      → some ≡ others
  same_storage cards some others h k = ext_get_or 0 some others (h.size ∙ sym k.size)
      (λ i low. h.bytes i (subst (λ n. i < n) h.size low) ∙ sym (k.bytes i (subst (λ n. i < n) h.size low)))

  -- a text is one deck
  pub one_deck : (bytes some others : List ℕ) (entry other : Option ℕ) → IsDeck bytes origin some entry
      → IsDeck bytes origin others other → (some ≡ others) × (entry ≡ other)
  one_deck bytes some others entry other d e =
      let same = same_cards false (all bytes some entry d) (all bytes others other e) (deck_pass bytes some entry d)
      (deck_pass bytes others other e) (sym (deck_bytes bytes some entry d) ∙ deck_bytes bytes others other e) in
      let parts = last_same d.cards e.cards d.last e.last same in (
        same_storage e.cards some others
            (subst (λ (cs : List (List ℕ)). Holds origin cs some) parts.0 d.holds) e.holds,
        d.enters ∙ ap (entry_of origin) parts.1 ∙ sym e.enters,
      )

  -- and has one first fault
  pub one_fault : (bytes : List ℕ) (number other : ℕ) (kind another : Kind) → FirstFault bytes origin number kind
      → FirstFault bytes origin other another → (number ≡ other) × (kind ≡ another)
  one_fault bytes number other kind another (too_long h n k) (too_long i m l) = (n ∙ sym m, k ∙ sym l)
  one_fault bytes number other kind another (too_long h n k) (at_card few before rest is p s f m) =
      absurd (omega arith)
  one_fault bytes number other kind another (too_long h n k) (no_end few cards is p unended m l) = absurd (omega arith)
  one_fault bytes number other kind another (at_card few before rest is p s f n) (too_long i m l) =
      absurd (omega arith)
  one_fault bytes number other kind another (no_end few cards is p unended n k) (too_long i m l) = absurd (omega arith)
  one_fault bytes number other kind another (at_card few before rest is p s f n) (at_card few2 before2 rest2 is2 p2 s2
      f2 n2) =
      let same = same_place false before before2 rest rest2 kind another p p2 (sym is ∙ is2) s s2 f f2 in
      (n ∙ ap (λ x. x + 1) same.0 ∙ sym n2, same.1)
  one_fault bytes number other kind another (at_card few before rest is p s f n) (no_end few2 cards is2 p2 no2 n2 k2) =
      absurd (clash false before cards rest kind p p2 (sym is ∙ is2) s f)
  one_fault bytes number other kind another (no_end few cards is p unended n k) (at_card few2 before2 rest2 is2 p2 s2 f2
      n2) = absurd (clash false before2 cards rest2 another p2 p (sym is2 ∙ is) s2 f2)
  one_fault bytes number other kind another (no_end few cards is p unended n k) (no_end few2 cards2 is2 p2 no2 n2 k2) =
      let same = same_cards false cards cards2 p p2 (sym is ∙ is2) in
      (n ∙ ap (λ (cs : List (List ℕ)). length cs + 1) same ∙ sym n2, k ∙ sym k2)
