-- A deck of the shape in which decks are written is told by its storage and entry, column by column.
use Rattle.std.proofs.Common.{◌≡◌, ℕ, zero, suc, ◌+◌, ◌-◌, ◌*◌, ◌<◌, ◌≤◌, Bool, true, false, ◌&&◌, List, []}
use Rattle.std.proofs.Common.{◌∷◌}
use Rattle.std.proofs.Common.{◌++◌, length, Option, Some, None, refl, sym, ap, ap₂, ◌∙◌, subst, arith, min}
use Rattle.std.proofs.Common.{add-zero}
use Rattle.std.proofs.Common.{slice_index, le-leb, le-ltb, append_assoc, cond, drop}
use Rattle.std.specs.Prelude.{All, AllPairs, if◌then◌else◌, unwrap_or, nat_lt, nat_le}
use Rattle.std.specs.List.{concat}
use Rattle.std.proofs.lemmas.Bool.{lt-leb, ltb-true, ltb-false, leb-true, eq-eqb, and_parts}
use Rattle.std.proofs.lemmas.List.{ext_get_or, append-nil, length-take}
use Rattle.std.proofs.lemmas.List.Elements.{All-nil, All-head, All-tail, All-cons}
use Rattle.std.proofs.lemmas.List.Kept.{AllPairs-cons}
use Rattle.byteorder.specs.Endian.{big_bytes}
use Rattle.tx_journal.specs.Content.{Content}
use Rattle.tx_journal.specs.Image.{IsImage}
use Rattle.z_deck.specs.Columns.{at, address_field, count_field, number_at}
use Rattle.z_deck.specs.Reading.{IsDeck, IsPart, address_of, bytes_of, count_of, byte_from}
use Rattle.z_deck.specs.Reading.{over, is_text, covers}
use Rattle.z_deck.specs.Writing.{section_card, text_card, end_card, is_zero, piece_address, piece_at}
use Rattle.z_deck.specs.Writing.{cards_of_piece}
use Rattle.z_deck.specs.Writing.{text_cards, first_entry, deck_of_image}
use Rattle.z_deck.proofs.Again.{section_size, section_type, end_size, end_type, end_entry, text_type}
use Rattle.z_deck.proofs.Again.{text_size, no_cards}
use Rattle.z_deck.proofs.Loaded.{over_none}
use Rattle.z_deck.proofs.Again.{text_count, text_address, text_says, piece_few, piece_in}
use Rattle.z_deck.proofs.Again.{piece_size as size_of_piece}
use Rattle.z_deck.proofs.Written.{first_low}
use Rattle.deck_laws.specs.Alike.{AreAlike, AllAlike}
use Rattle.deck_laws.specs.Texts.{AreApart, AreBytes, texts_in}
use Rattle.deck_laws.specs.Written.{IsPiece, ArePieces, HasWrittenShape, written_cards}
use Rattle.deck_laws.proofs.Columns.{column_bytes, same_address, same_count, same_entry, text_alike}
use Rattle.deck_laws.proofs.Columns.{end_alike}
use Rattle.deck_laws.proofs.Columns.{section_alike}
use Rattle.deck_laws.proofs.Apart.{IsTextOfBytes, texts_put, texts_are, last_bytes, byte_there, none_there}
use Rattle.deck_laws.proofs.Apart.{bytes_count, has_in, in_storage}

-- ---- bytes of numbers

-- a number of two bytes stands in bytes
two_bytes : (n : ℕ) → AreBytes (big_bytes 2 n)
two_bytes n zero = omega arith
two_bytes n (suc zero) = omega arith
two_bytes n (suc (suc k)) = omega arith

-- and so does one of three
three_bytes : (n : ℕ) → AreBytes (big_bytes 3 n)
three_bytes n zero = omega arith
three_bytes n (suc zero) = omega arith
three_bytes n (suc (suc zero)) = omega arith
three_bytes n (suc (suc (suc k))) = omega arith

-- so the columns of a written address are bytes
text_address_bytes : (address : ℕ) (bytes : List ℕ) → AreBytes (at address_field (text_card address bytes))
unfolding text_card
text_address_bytes address bytes = three_bytes address

-- those of a written count
text_count_bytes : (address : ℕ) (bytes : List ℕ) → AreBytes (at count_field (text_card address bytes))
unfolding text_card
text_count_bytes address bytes = two_bytes (length bytes)

-- and those of a written entry
end_address_bytes : (entry : ℕ) → AreBytes (at address_field (end_card entry))
unfolding end_card
end_address_bytes entry = three_bytes entry

-- ---- zeros

-- bytes that read as zeros are all zero
zeros_alone : (bytes : List ℕ) → ((k : ℕ) → k < length bytes → slice_index bytes k ≡ 0) → is_zero bytes ≡ true
zeros_alone [] none = refl
zeros_alone (b ∷ bs) none = ap₂ (λ (p q : Bool). p && q) (eq-eqb b 0 (none 0 (omega arith)))
    (zeros_alone bs (λ k low. none (suc k) (omega arith)))

module _ (storage : List ℕ) (size : length storage ≡ 1048576) where
  -- ---- the cards of the pieces from a number on

  unfoldable pieces_from : ℕ → ℕ → List (List ℕ)
  pieces_from zero i = []
  pieces_from (suc k) i = cards_of_piece storage i ++ pieces_from k (suc i)

  -- no pieces have no cards
  no_pieces : (i : ℕ) → pieces_from 0 i ≡ []
  unfolding pieces_from
  no_pieces i = refl

  -- one piece more comes first, if it is not all zero
  pieces_next : (k i : ℕ) → pieces_from (suc k) i
      ≡ (if is_zero (piece_at storage i) then [] else text_card (piece_address i) (piece_at storage i) ∷ [])
      ++ pieces_from k (suc i)
  unfolding pieces_from cards_of_piece
  pieces_next k i = refl

  -- the cards of the pieces before a number, and from it on, are those of all of these pieces
  cards_joined : (k i : ℕ) → text_cards i storage ++ pieces_from k i ≡ text_cards (k + i) storage
  unfolding pieces_from text_cards
  cards_joined zero i =
      let here : i ≡ 0 + i = omega arith in
      append-nil (text_cards i storage) ∙ ap (λ (n : ℕ). text_cards n storage) here
  cards_joined (suc k) i =
      let next : k + suc i ≡ suc k + i = omega arith in
      sym (append_assoc (text_cards i storage) (cards_of_piece storage i) (pieces_from k (suc i)))
      ∙ cards_joined k (suc i) ∙ ap (λ (n : ℕ). text_cards n storage) next

  -- so the written texts are those of the pieces from the first on
  all_pieces : pieces_from 18579 0 ≡ text_cards 18579 storage
  all_pieces = ap (λ (cs : List (List ℕ)). cs ++ pieces_from 18579 0) (sym (no_cards storage size)) ∙ cards_joined 18579 0

  -- ---- a text of a piece

  -- its address is where the piece begins
  first_of : (i : ℕ) (card : List ℕ) → IsPiece i card → address_of 0 card ≡ 8192 + 56 * i
  first_of i card p = add-zero (number_at address_field card) ∙ p.address

  -- it has the bytes of the piece
  count_in : (i : ℕ) (card : List ℕ) → IsPiece i card → IsTextOfBytes 0 card
      → length (bytes_of card) ≡ min 56 (1048576 - (8192 + 56 * i))
  count_in i card p t = bytes_count 0 card t ∙ p.count

  -- texts of later pieces put no byte before these
  below_none : (cards : List (List ℕ)) (i address : ℕ) → ArePieces i cards → All (IsTextOfBytes 0) cards
      → address < 8192 + 56 * i → byte_from 0 cards address ≡ None
  below_none [] i address pieces ts low = refl
  below_none (c ∷ cs) i address (j, from, p, rest) ts low =
      let first = first_of j c p in
      let apart : address < address_of 0 c = omega (arith, first, from, low) in
      ap₂ over
      (below_none cs (suc j) address rest (All-tail (IsTextOfBytes 0) c cs ts) (omega arith))
      (none_there 0 c address (All-head (IsTextOfBytes 0) c cs ts)
      (ap (λ (b : Bool). b && nat_lt address (address_of 0 c + length (bytes_of c)))
      (lt-leb (address_of 0 c) address apart)))

  -- storage from an address on is what the cards put there
  abbrev HoldsFrom : ℕ → List (List ℕ) → Type 0
  HoldsFrom from cards = (address : ℕ) → from ≤ address → address < 1048576
      → slice_index storage address ≡ unwrap_or (byte_from 0 cards address) 0

  -- the piece of the first card is that of storage
  piece_bytes : (i : ℕ) (c : List ℕ) (cs : List (List ℕ)) → IsPiece i c → ArePieces (suc i) cs
      → IsTextOfBytes 0 c → All (IsTextOfBytes 0) cs → HoldsFrom (8192 + 56 * i) (c ∷ cs)
      → bytes_of c ≡ piece_at storage i
  piece_bytes i c cs p rest t ts holds = ext_get_or 0 (bytes_of c) (piece_at storage i)
      (count_in i c p t ∙ sym (size_of_piece storage size i)) place
    where
      place : (k : ℕ) → k < length (bytes_of c)
          → slice_index (bytes_of c) k ≡ slice_index (piece_at storage i) k
      place k low =
          let first = first_of i c p in
          let few = count_in i c p t in
          let a = address_of 0 c + k in
          let in_card : a - address_of 0 c ≡ k = omega arith in
          let in_piece : a - (8192 + 56 * i) ≡ k = omega (arith, first) in
          let here : byte_from 0 (c ∷ cs) a ≡ Some (slice_index (bytes_of c) (a - address_of 0 c)) =
          ap₂ over (below_none cs (suc i) a rest ts (omega (arith, first, few, low)))
          (byte_there 0 c a t (has_in 0 c k low)) in
          ap (slice_index (bytes_of c)) (sym in_card)
          ∙ sym (holds a (omega (arith, first)) (in_storage 0 c k t low)
          ∙ ap (λ (o : Option ℕ). unwrap_or o 0) here)
          ∙ sym (piece_in storage size i a (omega (arith, first)) (omega (arith, first, few, low)))
          ∙ ap (slice_index (piece_at storage i)) in_piece

  -- a piece that no card has is all zero
  bare_piece : (i : ℕ) (cards : List (List ℕ)) → ArePieces (suc i) cards → All (IsTextOfBytes 0) cards
      → HoldsFrom (8192 + 56 * i) cards → is_zero (piece_at storage i) ≡ true
  bare_piece i cards pieces ts holds = zeros_alone (piece_at storage i) zero_at
    where
      zero_at : (k : ℕ) → k < length (piece_at storage i) → slice_index (piece_at storage i) k ≡ 0
      zero_at k low =
          let few = size_of_piece storage size i in
          let in_piece : 8192 + 56 * i + k - (8192 + 56 * i) ≡ k = omega arith in
          ap (slice_index (piece_at storage i)) (sym in_piece)
          ∙ piece_in storage size i (8192 + 56 * i + k) (omega arith) (omega (arith, few, low))
          ∙ holds (8192 + 56 * i + k) (omega arith) (omega (arith, few, low))
          ∙ ap (λ (o : Option ℕ). unwrap_or o 0)
          (below_none cards (suc i) (8192 + 56 * i + k) pieces ts (omega (arith, few, low)))

  -- the written card of a piece and a text of its bytes are alike
  piece_alike : (i : ℕ) (c : List ℕ) → i < 18579 → IsPiece i c → IsTextOfBytes 0 c
      → bytes_of c ≡ piece_at storage i
      → AreAlike (text_card (piece_address i) (piece_at storage i)) c
  piece_alike i c few p t is =
      let bytes = piece_at storage i in
      let card = text_card (piece_address i) bytes in
      let whole = text_size (piece_address i) bytes (piece_few storage size i) in
      let address : number_at address_field c ≡ number_at address_field card =
      p.address ∙ sym (text_address (piece_address i) bytes (omega (arith, few)))
      ∙ add-zero (number_at address_field card) in
      let count : count_of c ≡ count_of card =
      p.count ∙ sym (size_of_piece storage size i)
      ∙ sym (text_count (piece_address i) bytes (piece_few storage size i)) in
      text_alike card c whole t.size (text_type (piece_address i) bytes) p.type
      (same_address c card t.size whole (column_bytes 3 5 c t.small)
      (text_address_bytes (piece_address i) bytes) address)
      (same_count c card t.size whole (column_bytes 2 10 c t.small)
      (text_count_bytes (piece_address i) bytes) count)
      (is ∙ sym (text_says (piece_address i) bytes (piece_few storage size i)))

  -- ---- all texts

  -- a later piece than this comes first where this one is all zero
  later : (i : ℕ) (cards : List (List ℕ)) → ArePieces i cards → All (IsTextOfBytes 0) cards
      → HoldsFrom (8192 + 56 * i) cards → is_zero (piece_at storage i) ≡ true → ArePieces (suc i) cards
  later i [] pieces ts holds zeros = tt
  later i (c ∷ cs) (j, from, p, rest) ts holds zeros = by (nat_lt i j) refl
    where
      by : (b : Bool) → nat_lt i j ≡ b → ArePieces (suc i) (c ∷ cs)
      by true is = (j, ltb-true i j is, p, rest)
      by false is =
          let low : j ≤ i = ltb-false i j is in
          let same : j ≡ i = omega arith in
          let here = subst (λ (n : ℕ). IsPiece n c) same p in
          let bytes = piece_bytes i c cs here (subst (λ (n : ℕ). ArePieces (suc n) cs) same rest)
          (All-head (IsTextOfBytes 0) c cs ts) (All-tail (IsTextOfBytes 0) c cs ts) holds in
          let never = sym p.some ∙ (ap is_zero bytes ∙ zeros) in cc

  -- what holds from one piece on holds from the next on
  behind : (i : ℕ) (cards : List (List ℕ)) → HoldsFrom (8192 + 56 * i) cards
      → HoldsFrom (8192 + 56 * suc i) cards
  behind i cards holds address from low = holds address (omega arith) low

  -- without its first text, storage behind this is held by the others
  behind_first : (i : ℕ) (c : List ℕ) (cs : List (List ℕ)) → IsPiece i c → IsTextOfBytes 0 c
      → HoldsFrom (8192 + 56 * i) (c ∷ cs) → HoldsFrom (8192 + 56 * suc i) cs
  behind_first i c cs p t holds address from low =
      let first = first_of i c p in
      let few = count_in i c p t in
      let past : address_of 0 c + length (bytes_of c) ≤ address = omega (arith, first, few, from) in
      let before : address_of 0 c ≤ address = omega arith in
      holds address (omega arith) low
      ∙ ap (λ (o : Option ℕ). unwrap_or (over (byte_from 0 cs address) o) 0)
      (none_there 0 c address t (ap₂ (λ (a b : Bool). a && b) (le-leb (address_of 0 c) address before)
      (le-ltb address (address_of 0 c + length (bytes_of c)) past)))
      ∙ ap (λ (o : Option ℕ). unwrap_or o 0) (over_none (byte_from 0 cs address))

  -- behind the last piece there is no text
  no_more : (cards : List (List ℕ)) → ArePieces 18579 cards → All (IsTextOfBytes 0) cards → AllAlike [] cards
  no_more [] pieces ts = tt
  no_more (c ∷ cs) (j, from, p, rest) ts =
      let few = count_in j c p (All-head (IsTextOfBytes 0) c cs ts) in
      let none : length (bytes_of c) ≡ 0 = omega (arith, few, from) in
      let zeros : is_zero (bytes_of c) ≡ true =
      zeros_alone (bytes_of c) (λ k low. absurd (omega (arith, none, low))) in
      let never = sym p.some ∙ zeros in cc

  module _ (i : ℕ) (few : i < 18579) (after : List (List ℕ))
      (rest : (cards : List (List ℕ)) → ArePieces (suc i) cards → All (IsTextOfBytes 0) cards
      → HoldsFrom (8192 + 56 * suc i) cards → AllAlike after cards) where
    -- the first text is that of this piece where the piece is not all zero
    first_alike : (cards : List (List ℕ)) → ArePieces i cards → All (IsTextOfBytes 0) cards
        → HoldsFrom (8192 + 56 * i) cards → is_zero (piece_at storage i) ≡ false
        → AllAlike (text_card (piece_address i) (piece_at storage i) ∷ after) cards
    first_alike [] pieces ts holds some = let never = sym some ∙ bare_piece i [] tt ts holds in cc
    first_alike (c ∷ cs) (j, from, p, behind) ts holds some = apart (nat_lt i j) refl
      where
        apart : (b : Bool) → nat_lt i j ≡ b
            → AllAlike (text_card (piece_address i) (piece_at storage i) ∷ after) (c ∷ cs)
        apart true is =
            let never = sym some ∙ bare_piece i (c ∷ cs) (j, ltb-true i j is, p, behind) ts holds in cc
        apart false is =
            let low : j ≤ i = ltb-false i j is in
            let same : j ≡ i = omega arith in
            let here = subst (λ (n : ℕ). IsPiece n c) same p in
            let others = subst (λ (n : ℕ). ArePieces (suc n) cs) same behind in
            let t = All-head (IsTextOfBytes 0) c cs ts in
            let us = All-tail (IsTextOfBytes 0) c cs ts in (
              piece_alike i c few here t (piece_bytes i c cs here others t us holds),
              rest cs others us (behind_first i c cs here t holds),
            )

    -- this piece and those behind it, by whether it is all zero
    piece_and_rest : (b : Bool) → is_zero (piece_at storage i) ≡ b → (cards : List (List ℕ))
        → ArePieces i cards → All (IsTextOfBytes 0) cards → HoldsFrom (8192 + 56 * i) cards
        → AllAlike ((if b then [] else text_card (piece_address i) (piece_at storage i) ∷ []) ++ after) cards
    piece_and_rest true is cards pieces ts holds =
        rest cards (later i cards pieces ts holds is) ts (behind i cards holds)
    piece_and_rest false is cards pieces ts holds = first_alike cards pieces ts holds is

  -- texts of the pieces from a number on, which leave storage, are alike to the written ones
  pieces_alike : (k i : ℕ) → k + i ≡ 18579 → (cards : List (List ℕ)) → ArePieces i cards
      → All (IsTextOfBytes 0) cards → HoldsFrom (8192 + 56 * i) cards → AllAlike (pieces_from k i) cards
  pieces_alike zero i e cards pieces ts holds =
      let last : i ≡ 18579 = omega arith in
      subst (λ (cs : List (List ℕ)). AllAlike cs cards) (sym (no_pieces i))
      (no_more cards (subst (λ (n : ℕ). ArePieces n cards) last pieces) ts)
  pieces_alike (suc k) i e cards pieces ts holds =
      let next : k + suc i ≡ 18579 = omega arith in
      let few : i < 18579 = omega arith in
      subst (λ (cs : List (List ℕ)). AllAlike cs cards) (sym (pieces_next k i))
      (piece_and_rest i few (pieces_from k (suc i)) (pieces_alike k (suc i) next)
      (is_zero (piece_at storage i)) refl cards pieces ts holds)

  -- texts of pieces that leave storage are the written ones
  texts_alike : (cards : List (List ℕ)) → ArePieces 0 cards → All (IsTextOfBytes 0) cards
      → ((address : ℕ) → address < 1048576
      → slice_index storage address ≡ unwrap_or (byte_from 0 cards address) 0)
      → AllAlike (text_cards 18579 storage) cards
  texts_alike cards pieces ts holds =
      subst (λ (cs : List (List ℕ)). AllAlike cs cards) all_pieces
      (pieces_alike 18579 0 refl cards pieces ts (λ address from low. holds address low))

-- ---- the written cards

module _ (storage : List ℕ) (size : length storage ≡ 1048576) where
  -- a written text is one of its piece
  written_piece : (i : ℕ) → i < 18579 → is_zero (piece_at storage i) ≡ false
      → IsPiece i (text_card (piece_address i) (piece_at storage i))
  written_piece i few some =
      let bytes = piece_at storage i in
      let card = text_card (piece_address i) bytes in
      record {
        type = text_type (piece_address i) bytes;
        address = sym (add-zero (number_at address_field card))
            ∙ text_address (piece_address i) bytes (omega (arith, few));
        count = text_count (piece_address i) bytes (piece_few storage size i) ∙ size_of_piece storage size i;
        some = ap is_zero (text_says (piece_address i) bytes (piece_few storage size i)) ∙ some;
      }

  -- pieces from the next number on are pieces from this one on
  weaker : (i : ℕ) (cards : List (List ℕ)) → ArePieces (suc i) cards → ArePieces i cards
  weaker i [] pieces = tt
  weaker i (c ∷ cs) (j, from, p, rest) = (j, omega arith, p, rest)

  -- this piece and those behind it, by whether it is all zero
  with_piece : (i : ℕ) → i < 18579 → (after : List (List ℕ)) → ArePieces (suc i) after → (b : Bool)
      → is_zero (piece_at storage i) ≡ b
      → ArePieces i ((if b then [] else text_card (piece_address i) (piece_at storage i) ∷ []) ++ after)
  with_piece i few after pieces true is = weaker i after pieces
  with_piece i few after pieces false is =
      let from : i ≤ i = omega arith in (i, from, written_piece i few is, pieces)

  -- the written cards from a number on are texts of pieces in rising order
  are_pieces : (k i : ℕ) → k + i ≡ 18579 → ArePieces i (pieces_from storage size k i)
  are_pieces zero i e = subst (ArePieces i) (sym (no_pieces storage size i)) tt
  are_pieces (suc k) i e =
      let next : k + suc i ≡ 18579 = omega arith in
      let few : i < 18579 = omega arith in
      subst (ArePieces i) (sym (pieces_next storage size k i))
      (with_piece i few (pieces_from storage size k (suc i)) (are_pieces k (suc i) next)
      (is_zero (piece_at storage i)) refl)

  -- and so are all of them
  written_pieces : ArePieces 0 (text_cards 18579 storage)
  written_pieces = subst (ArePieces 0) (all_pieces storage size) (are_pieces 18579 0 refl)

-- texts of pieces are all texts
pieces_kept : (i : ℕ) (cards : List (List ℕ)) → ArePieces i cards → texts_in cards ≡ cards
pieces_kept i [] pieces = refl
pieces_kept i (c ∷ cs) (j, from, p, rest) =
    ap (λ (b : Bool). cond b (c ∷ texts_in cs) (texts_in cs)) (ap is_text p.type)
    ∙ ap (λ (ds : List (List ℕ)). c ∷ ds) (pieces_kept (suc j) cs rest)

-- and those of cards of the written shape are all but the section
shape_kept : (cards : List (List ℕ)) → (s : HasWrittenShape cards) → texts_in cards ≡ s.texts
shape_kept cards s =
    ap texts_in s.are
    ∙ ap (λ (b : Bool). cond b (s.section ∷ texts_in s.texts) (texts_in s.texts)) (ap is_text s.type)
    ∙ pieces_kept 0 s.texts s.pieces

-- ---- texts of pieces lie apart

-- a text of a piece has no address behind it
within_piece : (j : ℕ) (c : List ℕ) (address : ℕ) → IsPiece j c
    → covers (address_of 0 c) (bytes_of c) address ≡ true
    → (8192 + 56 * j ≤ address) × (address < 8192 + 56 * j + 56)
within_piece j c address p is =
    let tests = and_parts (nat_le (address_of 0 c) address)
    (nat_lt address (address_of 0 c + length (bytes_of c))) is in
    let from : address_of 0 c ≤ address = leb-true (address_of 0 c) address tests.0 in
    let below : address < address_of 0 c + length (bytes_of c) =
    ltb-true address (address_of 0 c + length (bytes_of c)) tests.1 in
    let first : address_of 0 c ≡ 8192 + 56 * j = add-zero (number_at address_field c) ∙ p.address in
    let most = length-take (count_of c) (drop 16 c) in
    let count = p.count in (omega (arith, from, first), omega (arith, below, first, most, count))

-- a text of a piece is apart from those of later pieces
later_apart : (j : ℕ) (c : List ℕ) → IsPiece j c → (k : ℕ) → j < k → (cards : List (List ℕ))
    → ArePieces k cards → All (AreApart 0 c) cards
later_apart j c p k after [] pieces = All-nil (AreApart 0 c)
later_apart j c p k after (d ∷ ds) (m, from, q, rest) =
    All-cons (AreApart 0 c) d ds
    (λ address here there.
    let a = within_piece j c address p here in
    let b = within_piece m d address q there in absurd (omega (arith, a.1, b.0, from, after)))
    (later_apart j c p (suc m) (omega (arith, from, after)) ds rest)

-- so no two of them lie over one another
pieces_apart : (i : ℕ) (cards : List (List ℕ)) → ArePieces i cards → AllPairs (AreApart 0) cards
pieces_apart i [] pieces = λ j k d lt within. absurd (omega arith)
pieces_apart i (c ∷ cs) (j, from, p, rest) =
    AllPairs-cons (AreApart 0) c cs (later_apart j c p (suc j) (omega arith) cs rest)
    (pieces_apart (suc j) cs rest)

-- ---- decks of images

-- the deck of an image is these cards
pub deck_is : (image : Content)
    → deck_of_image image ≡ concat (written_cards image) ++ end_card (first_entry image.cpus)
deck_is image = sym (append_assoc section_card (concat (text_cards 18579 image.storage))
    (end_card (first_entry image.cpus)))

-- and they have the written shape
pub written_shape : (image : Content) → IsImage image → HasWrittenShape (written_cards image)
written_shape image is = record {
  section = section_card;
  texts = text_cards 18579 image.storage;
  are = refl;
  type = section_type;
  pieces = written_pieces image.storage is.size;
}

-- and none of their texts lies over another
pub written_apart : (image : Content) → IsImage image → AllPairs (AreApart 0) (texts_in (written_cards image))
written_apart image is =
    let shape = written_shape image is in
    subst (AllPairs (AreApart 0)) (sym (shape_kept (written_cards image) shape))
    (pieces_apart 0 shape.texts shape.pieces)

module _ (image : Content) (is : IsImage image) (bytes : List ℕ)
    (deck : IsDeck bytes 0 image.storage (Some (first_entry image.cpus))) (small : AreBytes bytes) where
  -- the cards of the deck have bytes
  all : AreBytes (concat deck.cards ++ deck.last)
  all = subst AreBytes deck.whole small

  -- the card of the end is alike to the written one
  pub last_alike : AreAlike (end_card (first_entry image.cpus)) deck.last
  last_alike =
      let entry = first_entry image.cpus in
      let low = first_low image.cpus is.some_cpu is.starting in
      end_alike (end_card entry) deck.last (end_size entry) deck.end.size (end_type entry) deck.end.type
      (same_entry 0 deck.last (end_card entry) deck.end.size (end_size entry)
      (column_bytes 3 5 deck.last (last_bytes deck.cards deck.last all)) (end_address_bytes entry)
      (sym deck.enters ∙ sym (end_entry entry low)))

  -- texts of pieces are alike to the written ones
  pub written_texts : ArePieces 0 (texts_in deck.cards)
      → AllAlike (text_cards 18579 image.storage) (texts_in deck.cards)
  written_texts pieces = texts_alike image.storage is.size (texts_in deck.cards) pieces
      (texts_are 0 deck.cards deck.last deck.parts all)
      (λ address low. deck.holds.bytes address low
      ∙ ap (λ (o : Option ℕ). unwrap_or o 0) (sym (texts_put 0 address deck.cards)))

  -- a deck of the written shape is the written one, card by card
  pub written_alone : HasWrittenShape deck.cards
      → AllAlike (written_cards image) deck.cards × AreAlike (end_card (first_entry image.cpus)) deck.last
  written_alone s =
      let texts = shape_kept deck.cards s in
      let alike = subst (λ (cs : List (List ℕ)). AllAlike (text_cards 18579 image.storage) cs) texts
      (written_texts (subst (ArePieces 0) (sym texts) s.pieces)) in
      let parts = subst (λ (cs : List (List ℕ)). All (IsPart 0) cs) s.are deck.parts in
      let size = (All-head (IsPart 0) s.section s.texts parts).0 in (
        subst (λ (cs : List (List ℕ)). AllAlike (written_cards image) cs) (sym s.are)
            (section_alike section_card s.section section_size size section_type s.type, alike),
        last_alike,
      )

  -- and texts of pieces anywhere among sections are the written ones
  pub texts_alone : ArePieces 0 (texts_in deck.cards)
      → AllAlike (text_cards 18579 image.storage) (texts_in deck.cards)
      × AreAlike (end_card (first_entry image.cpus)) deck.last
  texts_alone pieces = (written_texts pieces, last_alike)
