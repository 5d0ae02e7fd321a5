-- What the writers add, piece by piece.
use Rattle.std.proofs.Common.{◌≡◌, ℕ, zero, suc, ◌+◌, ◌-◌, ◌*◌, ◌<◌, ◌≤◌, Bool, true, false, List, [], ◌∷◌, ◌++◌}
use Rattle.std.proofs.Common.{length, map, take, drop, replicate, refl, sym, ap, ap₂, ◌∙◌, arith, append_assoc}
use Rattle.std.proofs.Common.{All, min, subst, length-drop}
use Rattle.std.specs.Prelude.{if◌then◌else◌, slice_index_or, nat_le, Result, Ok, Err, is_ok, OnOk}
use Rattle.std.specs.List.{concat}
use Rattle.std.proofs.lemmas.List.{append-nil, drop-drop, take_all, length-replicate}
use Rattle.std.proofs.lemmas.Bool.{leb-true, leb-false}
use Rattle.std.proofs.lemmas.List.Elements.{All-head}
use Rattle.std.proofs.lemmas.List.Folds.{concat-append}
use Rattle.z_regs.specs.Cpu.{Cpu, cpu_of}
use Rattle.z_regs.specs.declared.image.CpuImage.{CpuImage}
use Rattle.tx_journal.specs.Image.{IsStarting}
use Rattle.z_deck.specs.Writing.{text_card, text_head, cards_of_piece, text_cards, is_zero, piece_at}
use Rattle.z_deck.specs.Writing.{piece_address, first_entry}
use Rattle.z_deck.specs.Listing.{block_lines, placing_lines, org_line, data_line, block_at, block_address}

-- ---- cards

-- the card of a text is its head, its bytes and blanks
pub text_parts : (address : ℕ) (bytes : List ℕ)
    → text_card address bytes ≡ text_head address (length bytes) ++ (bytes ++ drop (length bytes) (replicate 64 64))
unfolding text_card text_head
text_parts address bytes =
    ap (λ (t : List ℕ). text_head address (length bytes) ++ (bytes ++ t))
    (sym (drop-drop (length bytes) 16 (replicate 80 64)))

pub text_joined : (deck bytes : List ℕ) (address : ℕ)
    → ((deck ++ text_head address (length bytes)) ++ bytes) ++ drop (length bytes) (replicate 64 64)
    ≡ deck ++ text_card address bytes
text_joined deck bytes address =
    append_assoc (deck ++ text_head address (length bytes)) bytes (drop (length bytes) (replicate 64 64))
    ∙ append_assoc deck (text_head address (length bytes)) (bytes ++ drop (length bytes) (replicate 64 64))
    ∙ ap (λ (t : List ℕ). deck ++ t) (sym (text_parts address bytes))

pub text_added : (deck first second third bytes : List ℕ) (address : ℕ)
    → first ≡ deck ++ text_head address (length bytes) → second ≡ first ++ bytes
    → third ≡ second ++ take (64 - length bytes) (drop (length bytes) (replicate 64 64))
    → third ≡ deck ++ text_card address bytes
text_added deck first second third bytes address e f g =
    let all : take (64 - length bytes) (drop (length bytes) (replicate 64 64))
    ≡ drop (length bytes) (replicate 64 64) =
    take_all (64 - length bytes) (drop (length bytes) (replicate 64 64)) (omega (
      arith,
      length-drop {A = ℕ} (length bytes) (replicate 64 64),
      length-replicate {A = ℕ} 64 64,
    )) in
    g ∙ ap (λ (t : List ℕ). second ++ t) all
    ∙ ap (λ (t : List ℕ). t ++ drop (length bytes) (replicate 64 64)) (f ∙ ap (λ (t : List ℕ). t ++ bytes) e)
    ∙ text_joined deck bytes address

-- what is so where there is a value holds on it
pub on_ok_if : {T E X : Type 0} (r : Result T E) (x a b : X) → x ≡ (if is_ok r then a else b) → OnOk r (x ≡ a)
on_ok_if (Ok t) x a b e = e
on_ok_if (Err t) x a b e = tt

-- ---- pieces

-- what is taken of a rest that may be shorter
pub take_least : (n : ℕ) (rest : List ℕ) → take (min (length rest) n) rest ≡ take n rest
take_least n rest = by (nat_le n (length rest)) refl
  where
    by : (b : Bool) → nat_le n (length rest) ≡ b → take (min (length rest) n) rest ≡ take n rest
    by true e =
        let low : n ≤ length rest = leb-true n (length rest) e in
        let least : min (length rest) n ≡ n = omega arith in ap (λ k. take k rest) least
    by false e =
        let high : length rest < n = leb-false n (length rest) e in
        let least : min (length rest) n ≡ length rest = omega arith in
        ap (λ k. take k rest) least ∙ take_all (length rest) rest (omega arith)
        ∙ sym (take_all n rest (omega arith))

pub zero_piece : (deck storage piece : List ℕ) (i : ℕ) → piece ≡ piece_at storage i → is_zero piece ≡ true
    → deck ≡ deck ++ concat (cards_of_piece storage i)
unfolding cards_of_piece
zero_piece deck storage piece i is zeros =
    sym (ap (λ b. deck ++ concat (if b then [] else text_card (piece_address i) (piece_at storage i) ∷ []))
    (ap is_zero (sym is) ∙ zeros) ∙ append-nil deck)

pub some_piece : (deck storage piece : List ℕ) (i : ℕ) → piece ≡ piece_at storage i → is_zero piece ≡ false
    → deck ++ text_card (8192 + 56 * i) piece ≡ deck ++ concat (cards_of_piece storage i)
unfolding cards_of_piece
some_piece deck storage piece i is some =
    ap (λ (p : List ℕ). deck ++ text_card (8192 + 56 * i) p) is
    ∙ ap (λ (t : List ℕ). deck ++ t) (sym (append-nil (text_card (piece_address i) (piece_at storage i))))
    ∙ sym (ap (λ b. deck ++ concat (if b then [] else text_card (piece_address i) (piece_at storage i) ∷ []))
    (ap is_zero (sym is) ∙ some))

pub no_pieces : (deck storage : List ℕ) → deck ≡ deck ++ concat (text_cards 0 storage)
unfolding text_cards
no_pieces deck storage = sym (append-nil deck)

pub more_pieces : (deck storage : List ℕ) (i : ℕ)
    → (deck ++ concat (text_cards i storage)) ++ concat (cards_of_piece storage i)
    ≡ deck ++ concat (text_cards (i + 1) storage)
unfolding text_cards
more_pieces deck storage i =
    let next : i + 1 ≡ suc i = omega arith in
    append_assoc deck (concat (text_cards i storage)) (concat (cards_of_piece storage i))
    ∙ ap (λ (t : List ℕ). deck ++ t) (sym (concat-append (text_cards i storage) (cards_of_piece storage i)))
    ∙ ap (λ n. deck ++ concat (text_cards n storage)) (sym next)

-- ---- blocks

pub zero_block : (text storage block : List ℕ) (i : ℕ) → block ≡ block_at storage i → is_zero block ≡ true
    → text ≡ text ++ block_lines storage i
unfolding block_lines
zero_block text storage block i is zeros =
    sym (ap (λ b. text ++ (if b then [] else org_line (block_address i) ++ data_line (block_at storage i)))
    (ap is_zero (sym is) ∙ zeros) ∙ append-nil text)

pub some_block : (text storage block : List ℕ) (i : ℕ) → block ≡ block_at storage i → is_zero block ≡ false
    → (text ++ org_line (8192 + 32 * i)) ++ data_line block ≡ text ++ block_lines storage i
unfolding block_lines
some_block text storage block i is some =
    append_assoc text (org_line (8192 + 32 * i)) (data_line block)
    ∙ ap (λ (b : List ℕ). text ++ (org_line (8192 + 32 * i) ++ data_line b)) is
    ∙ sym (ap (λ b. text ++ (if b then [] else org_line (block_address i) ++ data_line (block_at storage i)))
    (ap is_zero (sym is) ∙ some))

pub no_blocks : (text storage : List ℕ) → text ≡ text ++ placing_lines 0 storage
unfolding placing_lines
no_blocks text storage = sym (append-nil text)

pub more_blocks : (text storage : List ℕ) (i : ℕ)
    → (text ++ placing_lines i storage) ++ block_lines storage i ≡ text ++ placing_lines (i + 1) storage
unfolding placing_lines
more_blocks text storage i =
    let next : i + 1 ≡ suc i = omega arith in
    append_assoc text (placing_lines i storage) (block_lines storage i)
    ∙ ap (λ n. text ++ placing_lines n storage) (sym next)

-- ---- the first CPU

pub first_is : (cpus : List CpuImage) (one : CpuImage) → 0 < length cpus → one ≡ slice_index_or cpus 0 one
    → one.address ≡ first_entry (map cpu_of cpus)
first_is [] one some is = absurd (omega arith)
first_is (c ∷ cs) one some is = ap (λ (x : CpuImage). x.address) is

pub first_low : (cpus : List Cpu) → 0 < length cpus → All IsStarting cpus → first_entry cpus < 1048576
first_low [] some all = absurd (omega arith)
first_low (c ∷ cs) some all = (All-head IsStarting c cs all).address

pub first_bound : (cpus : List CpuImage) (one : CpuImage) → 0 < length (map cpu_of cpus)
    → All IsStarting (map cpu_of cpus) → one ≡ slice_index_or cpus 0 one → one.address < 1048576
first_bound [] one some all is = absurd (omega arith)
first_bound (c ∷ cs) one some all is =
    subst (λ (x : CpuImage). x.address < 1048576) (sym is) (All-head IsStarting (cpu_of c) (map cpu_of cs) all).address
