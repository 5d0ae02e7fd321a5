-- What cards load, one more card at a time.
use Rattle.std.proofs.Common.{◌≡◌, ℕ, zero, suc, ◌+◌, ◌-◌, ◌*◌, ◌<◌, ◌≤◌, Bool, true, false, not, ◌&&◌, ◌||◌}
use Rattle.std.proofs.Common.{◌⊎◌, inl, inr, List, [], ◌∷◌, ◌++◌, length, take, drop, Option, Some, None}
use Rattle.std.proofs.Common.{is_some, refl, sym, ap, ap₂, subst, ◌∙◌, arith, All, slice_index, get_or}
use Rattle.std.proofs.Common.{lt-ltb, le-ltb, le-leb, length-append, length-drop}
use Rattle.std.proofs.lemmas.Bool.{lt-leb}
use Rattle.std.specs.Prelude.{nat_lt, nat_le, unwrap_or, if◌then◌else◌}
use Rattle.std.specs.List.{concat}
use Rattle.std.proofs.lemmas.Bool.{leb-true, leb-false, ltb-true, ltb-false}
use Rattle.std.proofs.lemmas.List.{length-take, get_or_append_left, get_or-append_right, get_or-take}
use Rattle.std.proofs.lemmas.List.{get_or-drop, append-nil, take-append-drop}
use Rattle.std.proofs.Math.Seq.{take-add}
use Rattle.std.proofs.lemmas.List.Elements.{All-nil, All-append, All-cons}
use Rattle.std.proofs.lemmas.List.Folds.{concat-append}
use Rattle.z_deck.specs.Columns.{type_of}
use Rattle.z_deck.specs.Reading.{fault_of, is_text, is_end, count_of, address_of, bytes_of, entry_of, covers}
use Rattle.z_deck.specs.Reading.{byte_on, byte_from, over, Pass, ends, IsText, IsPart, IsEnd, Holds, zeros}
use Rattle.z_deck.specs.Loading.{IsClosed, HasEnd, Loaded}
use Rattle.z_deck.specs.declared.card.CardType.{CardType}
use Rattle.z_deck.specs.declared.card.CardType.TheVariants.{Section, Text, End}
use Rattle.z_deck.specs.declared.fault.Kind.TheVariants as kinds
use Rattle.z_deck.proofs.Faults.{behind}
use Rattle.std.proofs.Math.Bool.{or-false, or_assoc}

-- ---- one more card

pub over_none : (o : Option ℕ) → over o None ≡ o
over_none (Some x) = refl
over_none None = refl

over_over : (a b c : Option ℕ) → over (over a b) c ≡ over a (over b c)
over_over (Some x) b c = refl
over_over None b c = refl

-- the last card's byte is over those of the cards before it
pub more_bytes : (origin : ℕ) (cards : List (List ℕ)) (card : List ℕ) (address : ℕ)
    → byte_from origin (cards ++ card ∷ []) address
    ≡ over (byte_on origin card address) (byte_from origin cards address)
more_bytes origin [] card address = sym (over_none (byte_on origin card address))
more_bytes origin (c ∷ cards) card address =
    ap (λ o. over o (byte_on origin c address)) (more_bytes origin cards card address)
    ∙ over_over (byte_on origin card address) (byte_from origin cards address) (byte_on origin c address)

pub pass_more : (origin : ℕ) (ended : Bool) (cards : List (List ℕ)) (card : List ℕ) → Pass origin ended cards
    → fault_of origin (ended || ends cards) card ≡ None → Pass origin ended (cards ++ card ∷ [])
pass_more origin ended [] card passed fair =
    (ap (λ b. fault_of origin b card) (sym (or-false ended)) ∙ fair, tt)
pass_more origin ended (c ∷ cards) card passed fair = (
  passed.0,
  pass_more origin (ended || is_end (type_of c)) cards card passed.1
      (ap (λ b. fault_of origin b card) (or_assoc ended (is_end (type_of c)) (ends cards)) ∙ fair),
)

pub ends_more : (cards : List (List ℕ)) (card : List ℕ)
    → ends (cards ++ card ∷ []) ≡ (ends cards || is_end (type_of card))
ends_more [] card = or-false (is_end (type_of card))
ends_more (c ∷ cards) card =
    ap (λ b. is_end (type_of c) || b) (ends_more cards card)
    ∙ sym (or_assoc (is_end (type_of c)) (ends cards) (is_end (type_of card)))

-- ---- bytes over others

module _ (old new : List ℕ) (first address : ℕ) (fits : first + length new ≤ length old) where
  abbrev after : List ℕ
  after = take first old ++ (new ++ drop (first + length new) old)

  front : length (take first old) ≡ first
  front = omega (arith, length-take first old)

  before_it : address < first → slice_index after address ≡ slice_index old address
  before_it low =
      get_or_append_left (take first old) (new ++ drop (first + length new) old) 0 address (omega (arith, front))
      ∙ get_or-take first old address 0 low

  behind_first : first ≤ address
      → slice_index after address ≡ slice_index (new ++ drop (first + length new) old) (address - first)
  behind_first high = get_or-append_right (take first old) (new ++ drop (first + length new) old) first address 0
      front high

  in_it : first ≤ address → address < first + length new
      → slice_index after address ≡ slice_index new (address - first)
  in_it high low =
      behind_first high
      ∙ get_or_append_left new (drop (first + length new) old) 0 (address - first) (omega arith)

  behind_it : first + length new ≤ address → slice_index after address ≡ slice_index old address
  behind_it high =
      let place : first + length new + (address - first - length new) ≡ address = omega arith in
      behind_first (omega arith)
      ∙ get_or-append_right new (drop (first + length new) old) (length new) (address - first) 0 refl (omega arith)
      ∙ get_or-drop (first + length new) old (address - first - length new) 0
      ∙ ap (slice_index old) place

  -- the new bytes stand in their range, and the old ones elsewhere
  pub spliced : slice_index after address
      ≡ (if covers first new address then slice_index new (address - first) else slice_index old address)
  spliced = by (nat_le first address) (nat_lt address (first + length new)) refl refl
    where
      by : (b c : Bool) → nat_le first address ≡ b → nat_lt address (first + length new) ≡ c
          → slice_index after address
          ≡ (if b && c then slice_index new (address - first) else slice_index old address)
      by true true e k = in_it (leb-true first address e) (ltb-true address (first + length new) k)
      by true false e k = behind_it (ltb-false address (first + length new) k)
      by false c e k = before_it (leb-false first address e)

-- ---- what cards load

zero_read : (n address : ℕ) → slice_index (zeros n) address ≡ 0
unfolding zeros
zero_read zero address = refl
zero_read (suc n) zero = refl
zero_read (suc n) (suc address) = zero_read n address

pub nothing_loaded : (origin : ℕ) (storage : List ℕ) → length storage ≡ 1048576
    → storage ≡ zeros 1048576 → Loaded origin [] storage None
nothing_loaded origin storage size is = record {
  passed = tt;
  holds = record { size = size; bytes = λ address low. all_zero address };
  low = λ address low. all_zero address;
  ended = refl;
  has = All-nil (IsPart origin);
}
  where
    all_zero : (address : ℕ) → slice_index storage address ≡ 0
    all_zero address = ap (λ (s : List ℕ). slice_index s address) is ∙ zero_read 1048576 address

-- the card puts no byte
pub no_byte : (origin : ℕ) (card : List ℕ) (t : CardType) → type_of card ≡ Some t → is_text (Some t) ≡ false
    → (address : ℕ) → byte_on origin card address ≡ None
unfolding byte_on
no_byte origin card t typed other address =
    ap (λ b. if b && covers (address_of origin card) (bytes_of card) address
    then Some (slice_index (bytes_of card) (address - address_of origin card)) else None)
    (ap is_text typed ∙ other)

empty_covers : (first address : ℕ) (bytes : List ℕ) → length bytes ≡ 0 → covers first bytes address ≡ false
empty_covers first address bytes none = by (nat_le first address) (nat_lt address (first + length bytes)) refl refl
  where
    by : (b c : Bool) → nat_le first address ≡ b → nat_lt address (first + length bytes) ≡ c → (b && c) ≡ false
    by true true e k =
        absurd (omega (arith, leb-true first address e, ltb-true address (first + length bytes) k, none))
    by true false e k = refl
    by false c e k = refl

-- the bytes that a text puts
pub text_bytes : (origin : ℕ) (card : List ℕ) (address : ℕ) → type_of card ≡ Some Text
    → byte_on origin card address
    ≡ (if covers (address_of origin card) (bytes_of card) address
    then Some (slice_index (bytes_of card) (address - address_of origin card)) else None)
unfolding byte_on
text_bytes origin card address typed =
    ap (λ b. if b && covers (address_of origin card) (bytes_of card) address
    then Some (slice_index (bytes_of card) (address - address_of origin card)) else None)
    (ap is_text typed)

pub length_bytes : (card : List ℕ) → length card ≡ 80 → count_of card ≤ 56 → length (bytes_of card) ≡ count_of card
length_bytes card whole few =
    omega (arith, length-take (count_of card) (drop 16 card), length-drop 16 card)

module _ (origin : ℕ) (cards : List (List ℕ)) (card storage : List ℕ) (whole : length card ≡ 80) where
  abbrev more : List (List ℕ)
  more = cards ++ card ∷ []

  part_more : All (IsPart origin) cards → IsPart origin card → All (IsPart origin) more
  part_more parts part = All-append (IsPart origin) cards (card ∷ []) parts
      (All-cons (IsPart origin) card [] part (All-nil (IsPart origin)))

  -- what is loaded where a card puts no byte
  same_holds : ((address : ℕ) → byte_on origin card address ≡ None) → Holds origin cards storage
      → Holds origin more storage
  same_holds none holds = record {
    size = holds.size;
    bytes = λ address low.
        holds.bytes address low
        ∙ ap (λ o. unwrap_or (over o (byte_from origin cards address)) 0) (sym (none address))
        ∙ ap (λ o. unwrap_or o 0) (sym (more_bytes origin cards card address));
  }

  module _ (end : Option (Option ℕ)) (fair : fault_of origin (is_some end) card ≡ None) where
    passed_on : Loaded origin cards storage end → Pass origin false more
    passed_on l = pass_more origin false cards card l.passed
        (ap (λ b. fault_of origin b card) (sym l.ended) ∙ fair)

    -- no card that has no fault stands behind the end
    pub still_open : end ≡ None
    still_open = by end refl
      where
        by : (e : Option (Option ℕ)) → end ≡ e → e ≡ None
        by None is = refl
        by (Some x) is =
            let fault = behind origin card whole in
            let now : fault_of origin true card ≡ None = ap (λ o. fault_of origin (is_some o) card) (sym is) ∙ fair in
            cc

    parts_so : Loaded origin cards storage end → All (IsPart origin) cards
    parts_so l = subst (HasEnd origin cards) still_open l.has

    not_ended : Loaded origin cards storage end → ends cards ≡ false
    not_ended l = sym l.ended ∙ ap is_some still_open

    -- a part that puts these bytes
    part_loaded : (later : List ℕ) → Loaded origin cards storage end → IsPart origin card
        → is_end (type_of card) ≡ false → Holds origin more later
        → ((address : ℕ) → address < 8192 → slice_index later address ≡ 0) → Loaded origin more later end
    part_loaded later l part goes_on holds low = record {
      passed = passed_on l;
      holds = holds;
      low = low;
      ended = ap is_some still_open ∙ sym (ends_more cards card ∙ ap₂ (λ b c. b || c) (not_ended l) goes_on);
      has = subst (HasEnd origin more) (sym still_open) (part_more (parts_so l) part);
    }

    pub section_loaded : Loaded origin cards storage end → type_of card ≡ Some Section
        → Loaded origin more storage end
    section_loaded l typed = part_loaded storage l (whole, inl typed) (ap is_end typed)
        (same_holds (no_byte origin card Section typed refl) l.holds) l.low

    pub empty_loaded : Loaded origin cards storage end → IsText origin card → count_of card ≡ 0
        → Loaded origin more storage end
    empty_loaded l text none = part_loaded storage l (whole, inr text) (ap is_end text.type)
        (same_holds (λ address. text_bytes origin card address text.type
        ∙ ap (λ b. if b then Some (slice_index (bytes_of card) (address - address_of origin card)) else None)
        (empty_covers (address_of origin card) address (bytes_of card) (length_bytes card whole text.few ∙ none)))
        l.holds) l.low

    module _ (text : IsText origin card) (some : 0 < count_of card) where
      abbrev first : ℕ
      first = address_of origin card

      abbrev bytes : List ℕ
      bytes = bytes_of card

      pub size_is : length bytes ≡ count_of card
      size_is = length_bytes card whole text.few

      abbrev put : List ℕ
      put = take first storage ++ (bytes ++ drop (first + length bytes) storage)

      fits : length storage ≡ 1048576 → first + length bytes ≤ length storage
      fits size = omega (arith, size_is, (text.within some).1, size)

      size_after : length storage ≡ 1048576 → length put ≡ 1048576
      size_after size =
          omega (
            arith,
            fits size,
            size,
            length-append (take first storage) (bytes ++ drop (first + length bytes) storage),
            length-append bytes (drop (first + length bytes) storage),
            length-take first storage,
            length-drop (first + length bytes) storage,
          )

      covered : (b : Bool) (address : ℕ) (old : Option ℕ) → slice_index storage address ≡ unwrap_or old 0
          → (if b then slice_index bytes (address - first) else slice_index storage address)
          ≡ unwrap_or (over (if b then Some (slice_index bytes (address - first)) else None) old) 0
      covered true address old is = refl
      covered false address old is = is

      text_holds : Holds origin cards storage → Holds origin more put
      text_holds holds = record {
        size = size_after holds.size;
        bytes = λ address low.
            spliced storage bytes first address (fits holds.size)
            ∙ covered (covers first bytes address) address (byte_from origin cards address)
            (holds.bytes address low)
            ∙ ap (λ o. unwrap_or (over o (byte_from origin cards address)) 0)
            (sym (text_bytes origin card address text.type))
            ∙ ap (λ o. unwrap_or o 0) (sym (more_bytes origin cards card address));
      }

      text_low : Loaded origin cards storage end → (address : ℕ) → address < 8192 → slice_index put address ≡ 0
      text_low l address low =
          before_it storage bytes first address (fits l.holds.size) (omega (arith, (text.within some).0))
          ∙ l.low address low

      pub text_loaded : Loaded origin cards storage end → Loaded origin more put end
      text_loaded l = part_loaded put l (whole, inr text) (ap is_end text.type) (text_holds l.holds) (text_low l)

    pub end_loaded : (entry : Option ℕ) → Loaded origin cards storage end → IsEnd origin card
        → entry ≡ entry_of origin card → Loaded origin more storage (Some entry)
    end_loaded entry l is enters = record {
      passed = passed_on l;
      holds = same_holds (no_byte origin card End is.type refl) l.holds;
      low = l.low;
      ended = sym (ends_more cards card
          ∙ ap₂ (λ b c. b || c) (not_ended l) (ap is_end is.type));
      has = record {
        before = cards;
        last = card;
        are = refl;
        parts = parts_so l;
        end = is;
        enters = enters;
      };
    }

-- ---- the cards of bytes

-- the first so many cards
unfoldable pub first_cards : ℕ → List ℕ → List (List ℕ)
first_cards zero bytes = []
first_cards (suc k) bytes = first_cards k bytes ++ take 80 (drop (80 * k) bytes) ∷ []

pub cards_join : (k : ℕ) (bytes : List ℕ) → concat (first_cards k bytes) ≡ take (80 * k) bytes
unfolding first_cards
cards_join zero bytes = refl
cards_join (suc k) bytes =
    let size : 80 * suc k ≡ 80 * k + 80 = omega arith in
    concat-append (first_cards k bytes) (take 80 (drop (80 * k) bytes) ∷ [])
    ∙ ap₂ (λ (s t : List ℕ). s ++ t) (cards_join k bytes) (append-nil (take 80 (drop (80 * k) bytes)))
    ∙ sym (take-add (80 * k) 80 bytes) ∙ ap (λ n. take n bytes) (sym size)

pub count_cards : (k : ℕ) (bytes : List ℕ) → length (first_cards k bytes) ≡ k
unfolding first_cards
count_cards zero bytes = refl
count_cards (suc k) bytes =
    omega (
      arith,
      count_cards k bytes,
      length-append (first_cards k bytes) (take 80 (drop (80 * k) bytes) ∷ []),
    )

-- the cards with the next one
pub next_cards : (k : ℕ) (bytes : List ℕ)
    → first_cards (k + 1) bytes ≡ first_cards k bytes ++ take 80 (drop (80 * k) bytes) ∷ []
unfolding first_cards
next_cards k bytes = let one : k + 1 ≡ suc k = omega arith in ap (λ n. first_cards n bytes) one

-- the bytes are the first cards and the bytes behind them
pub cut_behind : (k : ℕ) (bytes : List ℕ)
    → bytes ≡ concat (first_cards k bytes) ++ drop (80 * k) bytes
cut_behind k bytes = sym (ap (λ (s : List ℕ). s ++ drop (80 * k) bytes) (cards_join k bytes)
    ∙ take-append-drop (80 * k) bytes)
