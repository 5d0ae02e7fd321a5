-- What the cards so far say of the whole: the first fault, or the deck.
use Rattle.std.proofs.Common.{◌≡◌, ◌≢◌, ℕ, suc, ◌+◌, ◌*◌, ◌<◌, ◌≤◌, Bool, true, false, List, [], ◌∷◌, ◌++◌, length}
use Rattle.std.proofs.Common.{take, drop, Option, Some, None, is_some, refl, sym, ap, ap₂, subst, ◌∙◌, arith}
use Rattle.std.proofs.Common.{length-append, length-drop, slice_index, All, ◌⊎◌, inl, inr}
use Rattle.std.specs.Prelude.{unwrap_or, ◌==◌}
use Rattle.std.specs.List.{concat}
use Rattle.std.proofs.lemmas.Bool.{ne_eqb}
use Rattle.std.proofs.lemmas.List.{append-nil, drop_all, length-take}
use Rattle.std.proofs.lemmas.List.Folds.{concat-append}
use Rattle.z_deck.specs.Columns.{type_of}
use Rattle.z_deck.specs.Loading.{Loaded, IsClosed}
use Rattle.z_deck.specs.Reading.{fault_of, ends, byte_on, byte_from, over, Holds, IsDeck, FirstFault, too_long, at_card}
use Rattle.z_deck.specs.Reading.{no_end, IsText, IsEnd, IsPart, entry_of, address_of, bytes_of, count_of, zeros}
use Rattle.z_deck.specs.declared.card.CardType.TheVariants.{Section, Text, End}
use Rattle.z_deck.specs.Said.{IsFault}
use Rattle.z_deck.specs.Words.{number_of}
use Rattle.z_deck.specs.declared.fault.DeckFault.{DeckFault}
use Rattle.z_deck.specs.declared.fault.DeckFault.TheVariants.{Card}
use Rattle.z_deck.specs.declared.fault.Kind.{Kind}
use Rattle.z_deck.specs.declared.fault.Kind.TheVariants as kinds
use Rattle.z_deck.proofs.Faults.{fault_is, fault_by, many_on, within_on, above_on}
use Rattle.z_deck.proofs.Loaded.{first_cards, next_cards, count_cards, cut_behind, more_bytes, no_byte}
use Rattle.z_deck.proofs.Loaded.{section_loaded, empty_loaded, text_loaded, end_loaded, length_bytes, nothing_loaded}

-- ---- one card

pub short_fault : (origin : ℕ) (ended : Bool) (card : List ℕ) → length card ≢ 80
    → fault_of origin ended card ≡ Some kinds.ShortCard
short_fault origin ended card other =
    fault_is origin ended card
    ∙ ap (λ b. fault_by b ended (type_of card) (many_on card) (within_on origin card) (above_on origin card))
    (ne_eqb (length card) 80 other)

module _ (origin : ℕ) (cards : List (List ℕ)) (card storage : List ℕ) (whole : length card ≡ 80)
    (end : Option (Option ℕ)) (seen : Bool) (saw : seen ≡ is_some end)
    (fair : fault_of origin seen card ≡ None) where
  fair_now : fault_of origin (is_some end) card ≡ None
  fair_now = ap (λ b. fault_of origin b card) (sym saw) ∙ fair

  -- a card that puts no byte
  pub nothing_taken : (type_of card ≡ Some Section) ⊎ (IsText origin card × (count_of card ≡ 0))
      → Loaded origin cards storage end → Loaded origin (cards ++ card ∷ []) storage end
  nothing_taken (inl typed) l = section_loaded origin cards card storage whole end fair_now l typed
  nothing_taken (inr text) l = empty_loaded origin cards card storage whole end fair_now l text.0 text.1

  -- a card that puts these bytes there
  pub text_taken : (first : ℕ) (bytes after : List ℕ) → IsText origin card → 0 < count_of card
      → first ≡ address_of origin card → bytes ≡ bytes_of card
      → after ≡ take first storage ++ (bytes ++ drop (first + length bytes) storage)
      → Loaded origin cards storage end → Loaded origin (cards ++ card ∷ []) after end
  text_taken first bytes after text some starts are is l =
      let same : after ≡ take (address_of origin card) storage
      ++ (bytes_of card ++ drop (address_of origin card + length (bytes_of card)) storage) =
      is ∙ ap₂ (λ (f : ℕ) (b : List ℕ). take f storage ++ (b ++ drop (f + length b) storage)) starts are in
      subst (λ (s : List ℕ). Loaded origin (cards ++ card ∷ []) s end) (sym same)
      (text_loaded origin cards card storage whole end fair_now text some l)

  pub end_taken : (entry : Option ℕ) → IsEnd origin card → entry ≡ entry_of origin card
      → Loaded origin cards storage end → Loaded origin (cards ++ card ∷ []) storage (Some entry)
  end_taken entry is enters l = end_loaded origin cards card storage whole end fair_now entry l is enters

-- the bytes of a text have their place in storage
pub text_place : (origin : ℕ) (card : List ℕ) → length card ≡ 80 → (first : ℕ) (bytes : List ℕ) → IsText origin card
    → 0 < count_of card → first ≡ address_of origin card → bytes ≡ bytes_of card
    → first + length bytes ≤ 1048576
text_place origin card whole first bytes text some starts are =
    let size : length bytes ≡ count_of card = ap length are ∙ length_bytes card whole text.few in
    subst (λ n. n ≤ 1048576) (sym (ap₂ (λ (a b : ℕ). a + b) starts size)) (text.within some).1

-- ---- all cards

module _ (origin : ℕ) (bytes : List ℕ) where
  pub begun : (storage : List ℕ) → length storage ≡ 1048576 → storage ≡ zeros 1048576
      → Loaded origin (first_cards 0 bytes) storage None
  unfolding first_cards
  begun storage size is = nothing_loaded origin storage size is

  -- the cards so far with the next one
  pub next : (k : ℕ) (card storage : List ℕ) (end : Option (Option ℕ)) → card ≡ take 80 (drop (80 * k) bytes)
      → Loaded origin (first_cards k bytes ++ card ∷ []) storage end
      → Loaded origin (first_cards (k + 1) bytes) storage end
  next k card storage end is l =
      subst (λ (cs : List (List ℕ)). Loaded origin cs storage end)
      (ap (λ (c : List ℕ). first_cards k bytes ++ c ∷ []) is ∙ sym (next_cards k bytes)) l

  module _ (few : length bytes ≤ 16777216) (k : ℕ) (storage : List ℕ) where
    pub fault_in : (end : Option (Option ℕ)) (card : List ℕ) (kind : Kind) → 80 * k < length bytes
        → card ≡ take 80 (drop (80 * k) bytes) → fault_of origin (is_some end) card ≡ Some kind
        → Loaded origin (first_cards k bytes) storage end → FirstFault bytes origin (k + 1) kind
    fault_in end card kind more is fault l =
        at_card few (first_cards k bytes) (drop (80 * k) bytes) (cut_behind k bytes) l.passed
        (omega (arith, length-drop (80 * k) bytes))
        (ap₂ (λ (b : Bool) (c : List ℕ). fault_of origin b c) (sym l.ended) (sym is) ∙ fault)
        (ap (λ n. n + 1) (sym (count_cards k bytes)))

    pub short_in : (end : Option (Option ℕ)) → 80 * k < length bytes → length bytes < 80 * k + 80
        → Loaded origin (first_cards k bytes) storage end → FirstFault bytes origin (k + 1) kinds.ShortCard
    short_in end more less l =
        let card = take 80 (drop (80 * k) bytes) in
        fault_in end card kinds.ShortCard more refl
        (short_fault origin (is_some end) card (λ e. omega (
          arith,
          e,
          length-take 80 (drop (80 * k) bytes),
          length-drop (80 * k) bytes,
        ))) l

    all_cards : 80 * k ≡ length bytes → bytes ≡ concat (first_cards k bytes)
    all_cards all =
        cut_behind k bytes
        ∙ ap (λ (t : List ℕ). concat (first_cards k bytes) ++ t) (drop_all (80 * k) bytes (omega (arith, all)))
        ∙ append-nil (concat (first_cards k bytes))

    pub no_end_in : 80 * k ≡ length bytes → Loaded origin (first_cards k bytes) storage None
        → FirstFault bytes origin (k + 1) kinds.NoEnd
    no_end_in all l =
        no_end few (first_cards k bytes) (all_cards all) l.passed (sym l.ended)
        (ap (λ n. n + 1) (sym (count_cards k bytes))) refl

    -- the card of the end puts no byte
    pub before_end : (before : List (List ℕ)) (last : List ℕ) → type_of last ≡ Some End
        → Holds origin (before ++ last ∷ []) storage → Holds origin before storage
    before_end before last typed holds = record {
      size = holds.size;
      bytes = λ address low.
          holds.bytes address low
          ∙ ap (λ o. unwrap_or o 0) (more_bytes origin before last address)
          ∙ ap (λ o. unwrap_or (over o (byte_from origin before address)) 0)
          (no_byte origin last End typed refl address);
    }

    pub deck_in : (entry : Option ℕ) → 80 * k ≡ length bytes
        → Loaded origin (first_cards k bytes) storage (Some entry) → IsDeck bytes origin storage entry
    deck_in entry all l =
        let h = l.has in
        record {
          few = few;
          cards = h.before;
          last = h.last;
          whole = all_cards all ∙ ap concat h.are ∙ concat-append h.before (h.last ∷ [])
              ∙ ap (λ (t : List ℕ). concat h.before ++ t) (append-nil h.last);
          parts = h.parts;
          end = h.end;
          holds = before_end h.before h.last h.end.type
              (subst (λ (cs : List (List ℕ)). Holds origin cs storage) h.are l.holds);
          enters = h.enters;
        }

    pub enters_low : (entry : Option ℕ) → Loaded origin (first_cards k bytes) storage (Some entry)
        → (address : ℕ) → entry ≡ Some address → address < 1048576
    enters_low entry l address is = l.has.end.within address (sym l.has.enters ∙ is)

-- ---- the answers of the reader

pub card_fault : (bytes : List ℕ) (origin k : ℕ) (kind : Kind) (fault : DeckFault)
    → fault ≡ Card (k + 1) (number_of kind) → FirstFault bytes origin (k + 1) kind → IsFault bytes origin fault
card_fault bytes origin k kind fault is first = subst (IsFault bytes origin) (sym is) (kind, first, refl)

pub at_count : (origin : ℕ) (bytes : List ℕ) (k count : ℕ) (storage : List ℕ) (end : Option (Option ℕ))
    → k ≡ count → Loaded origin (first_cards k bytes) storage end → Loaded origin (first_cards count bytes) storage end
at_count origin bytes k count storage end is l = subst (λ n. Loaded origin (first_cards n bytes) storage end) is l

pub has_ended : (origin : ℕ) (bytes : List ℕ) (k : ℕ) (storage : List ℕ) (end : Option (Option ℕ)) (entry : Option ℕ)
    → end ≡ Some entry → Loaded origin (first_cards k bytes) storage end
    → Loaded origin (first_cards k bytes) storage (Some entry)
has_ended origin bytes k storage end entry is l = subst (Loaded origin (first_cards k bytes) storage) is l
