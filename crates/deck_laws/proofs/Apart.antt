-- Decks whose texts name the same places, none over another, read alike only where the texts are alike.
use Rattle.std.proofs.Common.{◌≡◌, ℕ, suc, ◌+◌, ◌-◌, ◌<◌, Bool, true, false, ◌&&◌, List, [], ◌∷◌}
use Rattle.std.proofs.Common.{◌++◌, length, Option, Some, None, refl, sym, ap, ap₂, ◌∙◌, subst, arith, inl}
use Rattle.std.proofs.Common.{inr}
use Rattle.std.proofs.Common.{slice_index, lt-ltb, le-leb, append_assoc, cond}
use Rattle.std.specs.Prelude.{All, AllPairs, if◌then◌else◌, unwrap_or, nat_lt, nat_le, ◌↔◌}
use Rattle.std.specs.List.{concat}
use Rattle.std.proofs.lemmas.List.{ext_get_or}
use Rattle.std.proofs.lemmas.List.Elements.{All-nil, All-head, All-tail, All-cons}
use Rattle.z_deck.specs.Columns.{type_of}
use Rattle.z_deck.specs.Reading.{IsDeck, IsPart, IsText, address_of, bytes_of, count_of}
use Rattle.z_deck.specs.Reading.{covers, is_text, byte_on, byte_from, over}
use Rattle.z_deck.proofs.Loaded.{text_bytes, length_bytes, over_none}
use Rattle.deck_laws.specs.Alike.{AreAlike, AllAlike}
use Rattle.deck_laws.specs.Texts.{AreBytes, AreApart, NamesSamePlace, NameSamePlaces, texts_in}
use Rattle.deck_laws.proofs.Alike.{none_on, all_bytes, enters_same}
use Rattle.deck_laws.proofs.Columns.{front_bytes, behind_bytes, column_bytes, same_address, same_count}
use Rattle.deck_laws.proofs.Columns.{same_entry}
use Rattle.deck_laws.proofs.Columns.{text_alike, end_alike}

-- a text of bytes, on a whole card
pub record IsTextOfBytes (origin : ℕ) (card : List ℕ) : Type 0 where
  pub size : length card ≡ 80
  pub text : IsText origin card
  pub small : AreBytes card

-- ---- the texts of a deck

-- what the texts put is what the cards put
pub texts_put : (origin address : ℕ) (cards : List (List ℕ))
    → byte_from origin (texts_in cards) address ≡ byte_from origin cards address
texts_put origin address [] = refl
texts_put origin address (c ∷ cs) = by (is_text (type_of c)) refl (texts_put origin address cs)
  where
    by : (b : Bool) → is_text (type_of c) ≡ b
        → byte_from origin (texts_in cs) address ≡ byte_from origin cs address
        → byte_from origin (texts_in (c ∷ cs)) address ≡ byte_from origin (c ∷ cs) address
    by true is rest =
        ap (λ (b : Bool). byte_from origin (cond b (c ∷ texts_in cs) (texts_in cs)) address) is
        ∙ ap (λ (o : Option ℕ). over o (byte_on origin c address)) rest
    by false is rest =
        ap (λ (b : Bool). byte_from origin (cond b (c ∷ texts_in cs) (texts_in cs)) address) is
        ∙ rest
        ∙ sym (ap (over (byte_from origin cs address)) (none_on origin address c is)
        ∙ over_none (byte_from origin cs address))

-- the texts among cards of bytes
pub texts_are : (origin : ℕ) (cards : List (List ℕ)) (last : List ℕ) → All (IsPart origin) cards
    → AreBytes (concat cards ++ last) → All (IsTextOfBytes origin) (texts_in cards)
texts_are origin [] last parts small = All-nil (IsTextOfBytes origin)
texts_are origin (c ∷ cs) last parts small =
    let whole = subst AreBytes (append_assoc c (concat cs) last) small in
    by whole (is_text (type_of c)) refl (All-head (IsPart origin) c cs parts)
    (texts_are origin cs last (All-tail (IsPart origin) c cs parts)
    (behind_bytes c (concat cs ++ last) whole))
  where
    one : AreBytes (c ++ (concat cs ++ last)) → IsPart origin c → is_text (type_of c) ≡ true
        → IsTextOfBytes origin c
    one whole (size, inl section) is = let never = sym (ap is_text section) ∙ is in cc
    one whole (size, inr text) is = record {
      size = size;
      text = text;
      small = front_bytes c (concat cs ++ last) whole;
    }

    by : AreBytes (c ++ (concat cs ++ last)) → (b : Bool) → is_text (type_of c) ≡ b → IsPart origin c
        → All (IsTextOfBytes origin) (texts_in cs) → All (IsTextOfBytes origin) (texts_in (c ∷ cs))
    by whole true is part rest =
        subst (λ (b : Bool). All (IsTextOfBytes origin) (cond b (c ∷ texts_in cs) (texts_in cs)))
        (sym is) (All-cons (IsTextOfBytes origin) c (texts_in cs) (one whole part is) rest)
    by whole false is part rest =
        subst (λ (b : Bool). All (IsTextOfBytes origin) (cond b (c ∷ texts_in cs) (texts_in cs)))
        (sym is) rest

-- the last card has bytes
pub last_bytes : (cards : List (List ℕ)) (last : List ℕ) → AreBytes (concat cards ++ last) → AreBytes last
last_bytes cards last small = behind_bytes (concat cards) last small

-- ---- what one text puts

module _ (origin : ℕ) where
  abbrev has : List ℕ → ℕ → Bool
  has card address = covers (address_of origin card) (bytes_of card) address

  -- the byte of an address that the text has
  pub byte_there : (card : List ℕ) (address : ℕ) → IsTextOfBytes origin card → has card address ≡ true
      → byte_on origin card address ≡ Some (slice_index (bytes_of card) (address - address_of origin card))
  byte_there card address t is =
      text_bytes origin card address t.text.type
      ∙ ap (λ (b : Bool). if b
      then Some (slice_index (bytes_of card) (address - address_of origin card)) else None)
      is

  -- and none of another
  pub none_there : (card : List ℕ) (address : ℕ) → IsTextOfBytes origin card → has card address ≡ false
      → byte_on origin card address ≡ None
  none_there card address t is =
      text_bytes origin card address t.text.type
      ∙ ap (λ (b : Bool). if b
      then Some (slice_index (bytes_of card) (address - address_of origin card)) else None)
      is

  -- it has as many bytes as its count says
  pub bytes_count : (card : List ℕ) → IsTextOfBytes origin card → length (bytes_of card) ≡ count_of card
  bytes_count card t = length_bytes card t.size t.text.few

  -- an address in a text's range
  pub has_in : (card : List ℕ) (k : ℕ) → k < length (bytes_of card)
      → has card (address_of origin card + k) ≡ true
  has_in card k low =
      ap₂ (λ (b c : Bool). b && c)
      (le-leb (address_of origin card) (address_of origin card + k) (omega arith))
      (lt-ltb (address_of origin card + k) (address_of origin card + length (bytes_of card)) (omega arith))

  -- and it is in storage
  pub in_storage : (card : List ℕ) (k : ℕ) → IsTextOfBytes origin card → k < length (bytes_of card)
      → address_of origin card + k < 1048576
  in_storage card k t low =
      let count = bytes_count card t in
      let some : 0 < count_of card = omega arith in
      let within = (t.text.within some).1 in omega (arith, within, count, low)

  -- ---- the same places

  -- texts of one place have one address
  address_same : (card other : List ℕ) → NamesSamePlace card other
      → address_of origin other ≡ address_of origin card
  address_same card other same = ap (λ (n : ℕ). n + origin) same.address

  -- and the same addresses
  has_same : (card other : List ℕ) (address : ℕ) → NamesSamePlace card other → IsTextOfBytes origin card
      → IsTextOfBytes origin other → has other address ≡ has card address
  has_same card other address same t u =
      ap₂ (λ (first count : ℕ). nat_le first address && nat_lt address (first + count))
      (address_same card other same) (bytes_count other u ∙ same.count ∙ sym (bytes_count card t))

  -- where one text has an address, texts that name the places of texts apart from it have none
  bare : (card : List ℕ) (address : ℕ) → has card address ≡ true → (cards others : List (List ℕ))
      → NameSamePlaces cards others → All (AreApart origin card) cards → All (IsTextOfBytes origin) cards
      → All (IsTextOfBytes origin) others → byte_from origin others address ≡ None
  bare card address is [] [] same apart ts us = refl
  bare card address is [] (o ∷ os) same apart ts us = absurd same
  bare card address is (c ∷ cs) [] same apart ts us = absurd same
  bare card address is (c ∷ cs) (o ∷ os) same apart ts us =
      let t = All-head (IsTextOfBytes origin) c cs ts in
      let u = All-head (IsTextOfBytes origin) o os us in
      ap₂ over
      (bare card address is cs os same.1 (All-tail (AreApart origin card) c cs apart)
      (All-tail (IsTextOfBytes origin) c cs ts) (All-tail (IsTextOfBytes origin) o os us))
      (none_there o address u (has_same c o address same.0 t u ∙ by (has c address) refl))
    where
      by : (b : Bool) → has c address ≡ b → b ≡ false
      by false there = refl
      by true there = absurd (All-head (AreApart origin card) c cs apart address is there)

  -- texts name the places that they name
  same_itself : (cards : List (List ℕ)) → NameSamePlaces cards cards
  same_itself [] = tt
  same_itself (c ∷ cs) = (record { address = refl; count = refl }, same_itself cs)

  -- storage has the same from both, where they have a place
  abbrev Agree : List (List ℕ) → List (List ℕ) → Type 0
  Agree cards others = (address : ℕ) → address < 1048576
      → unwrap_or (byte_from origin cards address) 0 ≡ unwrap_or (byte_from origin others address) 0

  module _ (c o : List ℕ) (cs os : List (List ℕ)) (place : NamesSamePlace c o) (places : NameSamePlaces cs os)
      (apart : All (AreApart origin c) cs) (t : IsTextOfBytes origin c) (u : IsTextOfBytes origin o)
      (ts : All (IsTextOfBytes origin) cs) (us : All (IsTextOfBytes origin) os)
      (agree : Agree (c ∷ cs) (o ∷ os)) where
    -- the first texts have as many bytes
    size_same : length (bytes_of o) ≡ length (bytes_of c)
    size_same = bytes_count o u ∙ place.count ∙ sym (bytes_count c t)

    -- and the same byte at each place
    byte_same : (k : ℕ) → k < length (bytes_of o) → slice_index (bytes_of o) k ≡ slice_index (bytes_of c) k
    byte_same k low =
        let first = address_of origin c in
        let below : k < length (bytes_of c) = subst (λ (n : ℕ). k < n) size_same low in
        let here : has c (first + k) ≡ true = has_in c k below in
        let there : has o (first + k) ≡ true = has_same c o (first + k) place t u ∙ here in
        let place_c : first + k - first ≡ k = omega arith in
        let place_o : first + k - address_of origin o ≡ k =
        ap (λ (n : ℕ). first + k - n) (address_same c o place) ∙ place_c in
        let from_c : unwrap_or (byte_from origin (c ∷ cs) (first + k)) 0 ≡ slice_index (bytes_of c) k =
        ap₂ (λ (a b : Option ℕ). unwrap_or (over a b) 0)
        (bare c (first + k) here cs cs (same_itself cs) apart ts ts) (byte_there c (first + k) t here)
        ∙ ap (slice_index (bytes_of c)) place_c in
        let from_o : unwrap_or (byte_from origin (o ∷ os) (first + k)) 0 ≡ slice_index (bytes_of o) k =
        ap₂ (λ (a b : Option ℕ). unwrap_or (over a b) 0)
        (bare c (first + k) here cs os places apart ts us) (byte_there o (first + k) u there)
        ∙ ap (slice_index (bytes_of o)) place_o in
        sym from_o ∙ sym (agree (first + k) (in_storage c k t below)) ∙ from_c

    -- so they have the same bytes
    bytes_same : bytes_of o ≡ bytes_of c
    bytes_same = ext_get_or 0 (bytes_of o) (bytes_of c) size_same byte_same

    -- so they are alike
    one_alike : AreAlike c o
    one_alike = text_alike c o t.size u.size t.text.type u.text.type
        (same_address o c u.size t.size (column_bytes 3 5 o u.small) (column_bytes 3 5 c t.small)
        place.address)
        (same_count o c u.size t.size (column_bytes 2 10 o u.small) (column_bytes 2 10 c t.small) place.count)
        bytes_same

    -- without the first text they still agree
    agree_behind : Agree cs os
    agree_behind address low = by (has c address) refl
      where
        by : (b : Bool) → has c address ≡ b
            → unwrap_or (byte_from origin cs address) 0 ≡ unwrap_or (byte_from origin os address) 0
        by true here =
            ap (λ (a : Option ℕ). unwrap_or a 0) (bare c address here cs cs (same_itself cs) apart ts ts)
            ∙ sym (ap (λ (a : Option ℕ). unwrap_or a 0) (bare c address here cs os places apart ts us))
        by false here =
            let c_none : byte_on origin c address ≡ None = none_there c address t here in
            let o_none : byte_on origin o address ≡ None =
            none_there o address u (has_same c o address place t u ∙ here) in
            sym (ap (λ (a : Option ℕ). unwrap_or (over (byte_from origin cs address) a) 0) c_none
            ∙ ap (λ (a : Option ℕ). unwrap_or a 0) (over_none (byte_from origin cs address)))
            ∙ agree address low
            ∙ (ap (λ (a : Option ℕ). unwrap_or (over (byte_from origin os address) a) 0) o_none
            ∙ ap (λ (a : Option ℕ). unwrap_or a 0) (over_none (byte_from origin os address)))

  -- the first text is apart from the others
  apart_head : (c : List ℕ) (cs : List (List ℕ)) → AllPairs (AreApart origin) (c ∷ cs)
      → All (AreApart origin c) cs
  apart_head c cs apart = λ j d within. apart 0 (suc j) d (omega arith) (omega arith)

  -- and these are from one another
  apart_tail : (c : List ℕ) (cs : List (List ℕ)) → AllPairs (AreApart origin) (c ∷ cs)
      → AllPairs (AreApart origin) cs
  apart_tail c cs apart = λ i j d lt within. apart (suc i) (suc j) d (omega arith) (omega arith)

  -- texts of the same places, none over another, that agree are alike
  same_texts : (cards others : List (List ℕ)) → NameSamePlaces cards others → AllPairs (AreApart origin) cards
      → All (IsTextOfBytes origin) cards → All (IsTextOfBytes origin) others → Agree cards others
      → AllAlike cards others
  same_texts [] [] places apart ts us agree = tt
  same_texts [] (o ∷ os) places apart ts us agree = absurd places
  same_texts (c ∷ cs) [] places apart ts us agree = absurd places
  same_texts (c ∷ cs) (o ∷ os) places apart ts us agree =
      let t = All-head (IsTextOfBytes origin) c cs ts in
      let u = All-head (IsTextOfBytes origin) o os us in
      let far = apart_head c cs apart in
      let rest = All-tail (IsTextOfBytes origin) c cs ts in
      let rests = All-tail (IsTextOfBytes origin) o os us in (
        one_alike c o cs os places.0 places.1 far t u rest rests agree,
        same_texts cs os places.1 (apart_tail c cs apart) rest rests
            (agree_behind c o cs os places.0 places.1 far t u rest rests agree),
      )

-- ---- decks

module _ (bytes others : List ℕ) (origin : ℕ) (storage another : List ℕ) (entry other : Option ℕ)
    (deck : IsDeck bytes origin storage entry) (twin : IsDeck others origin another other) where
  abbrev AreTheSame : Type 0
  AreTheSame = (storage ≡ another) × (entry ≡ other)

  abbrev HaveAlike : Type 0
  HaveAlike = AllAlike (texts_in deck.cards) (texts_in twin.cards) × AreAlike deck.last twin.last

  -- storage is what the texts of the one deck put
  from_deck : (address : ℕ) → address < 1048576
      → slice_index storage address ≡ unwrap_or (byte_from origin (texts_in deck.cards) address) 0
  from_deck address low = deck.holds.bytes address low
      ∙ ap (λ (o : Option ℕ). unwrap_or o 0) (sym (texts_put origin address deck.cards))

  -- and that of the other is what its texts put
  from_twin : (address : ℕ) → address < 1048576
      → slice_index another address ≡ unwrap_or (byte_from origin (texts_in twin.cards) address) 0
  from_twin address low = twin.holds.bytes address low
      ∙ ap (λ (o : Option ℕ). unwrap_or o 0) (sym (texts_put origin address twin.cards))

  -- alike decks are read as the same
  alike_is_same : HaveAlike → AreTheSame
  alike_is_same alike = (
    ext_get_or 0 storage another (deck.holds.size ∙ sym twin.holds.size) (λ i low.
        let within : i < 1048576 = subst (λ (n : ℕ). i < n) deck.holds.size low in
        from_deck i within
        ∙ ap (λ (o : Option ℕ). unwrap_or o 0)
        (sym (all_bytes origin i (texts_in deck.cards) (texts_in twin.cards) alike.0))
        ∙ sym (from_twin i within)),
    deck.enters ∙ sym (enters_same deck.last twin.last alike.1 origin deck.end) ∙ sym twin.enters,
  )

  module _ (small : AreBytes bytes) (smalls : AreBytes others)
      (places : NameSamePlaces (texts_in deck.cards) (texts_in twin.cards))
      (apart : AllPairs (AreApart origin) (texts_in deck.cards)) where
    -- decks that are read as the same are alike
    same_is_alike : AreTheSame → HaveAlike
    same_is_alike same =
        let all = subst AreBytes deck.whole small in
        let alls = subst AreBytes twin.whole smalls in (
          same_texts origin (texts_in deck.cards) (texts_in twin.cards) places apart
              (texts_are origin deck.cards deck.last deck.parts all)
              (texts_are origin twin.cards twin.last twin.parts alls)
              (λ address low. sym (from_deck address low) ∙ ap (λ (s : List ℕ). slice_index s address) same.0
              ∙ from_twin address low),
          end_alike deck.last twin.last deck.end.size twin.end.size deck.end.type twin.end.type
              (same_entry origin twin.last deck.last twin.end.size deck.end.size
              (column_bytes 3 5 twin.last (last_bytes twin.cards twin.last alls))
              (column_bytes 3 5 deck.last (last_bytes deck.cards deck.last all))
              (sym twin.enters ∙ sym same.1 ∙ deck.enters)),
        )

    -- and so the texts and the ends tell them apart
    pub told_by_texts : AreTheSame ↔ HaveAlike
    told_by_texts = (same_is_alike, alike_is_same)
