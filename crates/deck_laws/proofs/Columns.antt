-- Columns that hold the same numbers are the same, and what makes cards alike.
use Rattle.std.proofs.Common.{◌≡◌, ◌⊎◌, ℕ, zero, suc, ◌+◌, ◌-◌, ◌<◌, ◌≤◌, Bool, true, false, List, ◌++◌}
use Rattle.std.proofs.Common.{Some, None, length, take, drop, slice_index, refl, sym, ap, ◌∙◌, subst, arith}
use Rattle.std.proofs.Common.{inl, inr, length-drop}
use Rattle.std.specs.Prelude.{if◌then◌else◌, nat_lt}
use Rattle.std.specs.Str.{bytes_eq}
use Rattle.std.proofs.lemmas.Bool.{ltb-true, ltb-false}
use Rattle.std.proofs.lemmas.List.{ext_get_or, get_or-take, get_or-drop, get_or_past, length-take}
use Rattle.std.proofs.lemmas.List.{get_or_append_left, get_or-append_right}
use Rattle.std.proofs.lemmas.Slice.Eq.{bytes_eq-Decides}
use Rattle.byteorder.specs.Endian.{big_number}
use Rattle.z_deck.specs.Columns.{at, mark, mark_field, type_field, address_field, count_field, name_of}
use Rattle.z_deck.specs.Columns.{type_of}
use Rattle.z_deck.specs.Columns.{type_named, no_entry, number_at}
use Rattle.z_deck.specs.Reading.{address_of, count_of, bytes_of, entry_of}
use Rattle.z_deck.specs.declared.card.CardType.{CardType}
use Rattle.z_deck.specs.declared.card.CardType.TheVariants.{Section, Text, End, Relocation, Symbol}
use Rattle.deck_laws.specs.Alike.{AreAlike}
use Rattle.deck_laws.specs.Texts.{AreBytes}

-- ---- bytes of a part

-- the first part of bytes has bytes
pub front_bytes : (xs ys : List ℕ) → AreBytes (xs ++ ys) → AreBytes xs
front_bytes xs ys small k = by (nat_lt k (length xs)) refl
  where
    by : (b : Bool) → nat_lt k (length xs) ≡ b → slice_index xs k < 256
    by true is = subst (λ (n : ℕ). n < 256)
        (get_or_append_left xs ys 0 k (ltb-true k (length xs) is)) (small k)
    by false is = subst (λ (n : ℕ). n < 256)
        (sym (get_or_past xs k 0 (ltb-false k (length xs) is))) (omega arith)

-- and so has what follows
pub behind_bytes : (xs ys : List ℕ) → AreBytes (xs ++ ys) → AreBytes ys
behind_bytes xs ys small k =
    let place : length xs + k - length xs ≡ k = omega arith in
    subst (λ (n : ℕ). n < 256)
    (get_or-append_right xs ys (length xs) (length xs + k) 0 refl (omega arith) ∙ ap (slice_index ys) place)
    (small (length xs + k))

-- and so have columns
pub column_bytes : (size from : ℕ) (card : List ℕ) → AreBytes card → AreBytes (take size (drop from card))
column_bytes size from card small k = by (nat_lt k size) refl
  where
    by : (b : Bool) → nat_lt k size ≡ b → slice_index (take size (drop from card)) k < 256
    by true is = subst (λ (n : ℕ). n < 256)
        (sym (get_or-take size (drop from card) k 0 (ltb-true k size is) ∙ get_or-drop from card k 0))
        (small (from + k))
    by false is =
        let high : size ≤ k = ltb-false k size is in
        subst (λ (n : ℕ). n < 256)
        (sym (get_or_past (take size (drop from card)) k 0
        (omega (arith, length-take size (drop from card)))))
        (omega arith)

-- ---- numbers

-- two bytes that make one number are the same
pub same_two : (xs ys : List ℕ) → AreBytes xs → AreBytes ys → length xs ≡ 2 → length ys ≡ 2
    → big_number 2 xs ≡ big_number 2 ys → xs ≡ ys
same_two xs ys small smalls n m e = ext_get_or 0 xs ys (n ∙ sym m) place
  where
    place : (i : ℕ) → i < length xs → slice_index xs i ≡ slice_index ys i
    place zero h = omega (arith, small 0, small 1, smalls 0, smalls 1, e)
    place (suc zero) h = omega (arith, small 0, small 1, smalls 0, smalls 1, e)
    place (suc (suc i)) h = absurd (omega arith)

-- and so are three
pub same_three : (xs ys : List ℕ) → AreBytes xs → AreBytes ys → length xs ≡ 3 → length ys ≡ 3
    → big_number 3 xs ≡ big_number 3 ys → xs ≡ ys
same_three xs ys small smalls n m e = ext_get_or 0 xs ys (n ∙ sym m) place
  where
    place : (i : ℕ) → i < length xs → slice_index xs i ≡ slice_index ys i
    place zero h = omega (arith, small 0, small 1, small 2, smalls 0, smalls 1, smalls 2, e)
    place (suc zero) h = omega (arith, small 0, small 1, small 2, smalls 0, smalls 1, smalls 2, e)
    place (suc (suc zero)) h = omega (arith, small 0, small 1, small 2, smalls 0, smalls 1, smalls 2, e)
    place (suc (suc (suc i))) h = absurd (omega arith)

-- cards of one address have the same columns for it
pub same_address : (card other : List ℕ) → length card ≡ 80 → length other ≡ 80
    → AreBytes (at address_field card) → AreBytes (at address_field other)
    → number_at address_field card ≡ number_at address_field other
    → at address_field card ≡ at address_field other
same_address card other n m small smalls e =
    same_three (at address_field card) (at address_field other) small smalls
    (omega (arith, n, length-take 3 (drop 5 card), length-drop 5 card))
    (omega (arith, m, length-take 3 (drop 5 other), length-drop 5 other)) e

-- and cards of one count
pub same_count : (card other : List ℕ) → length card ≡ 80 → length other ≡ 80
    → AreBytes (at count_field card) → AreBytes (at count_field other)
    → count_of card ≡ count_of other → at count_field card ≡ at count_field other
same_count card other n m small smalls e =
    same_two (at count_field card) (at count_field other) small smalls
    (omega (arith, n, length-take 2 (drop 10 card), length-drop 10 card))
    (omega (arith, m, length-take 2 (drop 10 other), length-drop 10 other)) e

-- cards of the end with one entry have the same columns for it
pub same_entry : (origin : ℕ) (card other : List ℕ) → length card ≡ 80 → length other ≡ 80
    → AreBytes (at address_field card) → AreBytes (at address_field other)
    → entry_of origin card ≡ entry_of origin other → at address_field card ≡ at address_field other
same_entry origin card other n m small smalls =
    by (bytes_eq (at address_field card) no_entry) (bytes_eq (at address_field other) no_entry) refl refl
  where
    by : (b c : Bool) → bytes_eq (at address_field card) no_entry ≡ b
        → bytes_eq (at address_field other) no_entry ≡ c
        → (if b then None else Some (address_of origin card))
        ≡ (if c then None else Some (address_of origin other))
        → at address_field card ≡ at address_field other
    by true true p q e = (bytes_eq-Decides (at address_field card) no_entry).0 p
        ∙ sym ((bytes_eq-Decides (at address_field other) no_entry).0 q)
    by true false p q e = cc
    by false true p q e = cc
    by false false p q e =
        let same : address_of origin card ≡ address_of origin other = cc in
        same_address card other n m small smalls (omega (arith, same))

-- ---- types

-- a type has its name
named : (name : List ℕ) (t : CardType) → type_named name ≡ Some t → name ≡ name_of t
unfolding type_named
named name t = by (bytes_eq name (name_of Section)) (bytes_eq name (name_of Text))
    (bytes_eq name (name_of End)) (bytes_eq name (name_of Relocation)) (bytes_eq name (name_of Symbol))
    refl refl refl refl refl
  where
    is : (s : CardType) → bytes_eq name (name_of s) ≡ true → s ≡ t → name ≡ name_of t
    is s e same = (bytes_eq-Decides name (name_of s)).0 e ∙ ap name_of same

    by : (a b c d f : Bool) → bytes_eq name (name_of Section) ≡ a → bytes_eq name (name_of Text) ≡ b
        → bytes_eq name (name_of End) ≡ c → bytes_eq name (name_of Relocation) ≡ d
        → bytes_eq name (name_of Symbol) ≡ f
        → (if a then Some Section else (if b then Some Text else (if c then Some End
        else (if d then Some Relocation else (if f then Some Symbol else None))))) ≡ Some t → name ≡ name_of t
    by true b c d f p q r s u e = let same : Section ≡ t = cc in is Section p same
    by false true c d f p q r s u e = let same : Text ≡ t = cc in is Text q same
    by false false true d f p q r s u e = let same : End ≡ t = cc in is End r same
    by false false false true f p q r s u e = let same : Relocation ≡ t = cc in is Relocation s same
    by false false false false true p q r s u e = let same : Symbol ≡ t = cc in is Symbol u same
    by false false false false false p q r s u e = cc

-- the columns of a card's mark and type
record IsMarked (t : CardType) (card : List ℕ) : Type 0 where
  mark_is : at mark_field card ≡ mark
  type_is : at type_field card ≡ name_of t

-- a card of a type has its mark and its name
marked : (t : CardType) (card : List ℕ) → type_of card ≡ Some t → IsMarked t card
marked t card = by (bytes_eq (at mark_field card) mark) refl
  where
    by : (b : Bool) → bytes_eq (at mark_field card) mark ≡ b
        → (if b then type_named (at type_field card) else None) ≡ Some t → IsMarked t card
    by true is e = record {
      mark_is = (bytes_eq-Decides (at mark_field card) mark).0 is;
      type_is = named (at type_field card) t e;
    }
    by false is e = cc

-- ---- alike

module _ (card other : List ℕ) (size : length card ≡ 80) (sizes : length other ≡ 80) where
  -- texts with the same address, count and bytes are alike
  pub text_alike : type_of card ≡ Some Text → type_of other ≡ Some Text
      → at address_field other ≡ at address_field card → at count_field other ≡ at count_field card
      → bytes_of other ≡ bytes_of card → AreAlike card other
  text_alike is others address count bytes =
      let a = marked Text card is in
      let b = marked Text other others in
      record {
        size = sizes ∙ sym size;
        mark = b.mark_is ∙ sym a.mark_is;
        type = b.type_is ∙ sym a.type_is;
        address = λ _. address;
        count = λ _. count;
        bytes = λ _. bytes;
      }

  -- cards of the end with the same address are alike
  pub end_alike : type_of card ≡ Some End → type_of other ≡ Some End
      → at address_field other ≡ at address_field card → AreAlike card other
  end_alike is others address =
      let a = marked End card is in
      let b = marked End other others in
      record {
        size = sizes ∙ sym size;
        mark = b.mark_is ∙ sym a.mark_is;
        type = b.type_is ∙ sym a.type_is;
        address = λ _. address;
        count = λ text. let never = sym is ∙ text in cc;
        bytes = λ text. let never = sym is ∙ text in cc;
      }

  -- sections are alike
  pub section_alike : type_of card ≡ Some Section → type_of other ≡ Some Section → AreAlike card other
  section_alike is others =
      let a = marked Section card is in
      let b = marked Section other others in
      record {
        size = sizes ∙ sym size;
        mark = b.mark_is ∙ sym a.mark_is;
        type = b.type_is ∙ sym a.type_is;
        address = λ named. never named;
        count = λ text. let never = sym is ∙ text in cc;
        bytes = λ text. let never = sym is ∙ text in cc;
      }
    where
      never : (type_of card ≡ Some Text) ⊎ (type_of card ≡ Some End)
          → at address_field other ≡ at address_field card
      never (inl text) = let no = sym is ∙ text in cc
      never (inr end) = let no = sym is ∙ end in cc
