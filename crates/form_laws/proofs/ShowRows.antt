-- The lines of shown storage.
use Rattle.std.proofs.Common.{◌≡◌, ◌∙◌, ap, sym, refl, subst, ℕ, zero, suc, ◌+◌, ◌-◌, ◌*◌, ◌/◌, ◌%◌, ◌<◌, ◌≤◌}
use Rattle.std.proofs.Common.{◌^◌, arith, Bool, true, false, List, [], ◌∷◌, ◌++◌, append_assoc, append-nil}
use Rattle.std.proofs.Common.{length, take, drop}
use Rattle.std.proofs.Common.{slice_index}
use Rattle.std.specs.Prelude.{codes, replicate, min, if◌then◌else◌, ◌==◌, All}
use Rattle.std.specs.List.{flat_map}
use Rattle.std.specs.Fmt.{decimal}
use Rattle.std.proofs.lemmas.List.{length-take-le, length-drop}
use Rattle.std.proofs.lemmas.List.Concat.{flat_map-append}
use Rattle.std.proofs.lemmas.List.Elements.{All-head, All-tail}
use Rattle.hex.specs.Hex.{IsBytes, encode_lower}
use Rattle.tx_journal.specs.Image.{IsShown}
use Rattle.tx_journal.specs.declared.image.Show.{Show}
use Rattle.report_form.specs.declared.words.Name.TheVariants as name
use Rattle.report_form.specs.declared.words.Word.TheVariants.{Fixed, AtMost, Digits}
use Rattle.report_form.specs.Words.{AreDigits}
use Rattle.report_form.specs.Spelling.{Spelled}
use Rattle.report_form.specs.declared.lines.Part.{Part}
use Rattle.report_form.specs.declared.rows.Row.TheVariants as row
use Rattle.report_form.specs.Rows.{IsRow, most}
use Rattle.report_form.specs.Lines.{rows_of}
use Rattle.report_form.specs.Sheet.{show_parts, once, times}
use Rattle.report_text.specs.Digits.{labelled, word_text}
use Rattle.report_text.specs.Storage.{bytes_at, bytes_line, number_at, block_head, block_tail}
use Rattle.report_text.specs.Storage.{block_line}
use Rattle.form_laws.proofs.Words.{word_then, word_last, a_number, byte_digits, word_digits}
use Rattle.form_laws.proofs.Lists.{bytes_piece, bytes_list, show_list, shows_list}
use Rattle.form_laws.proofs.Telling.{Tells, tells_nothing, tells_row, tells_behind, tells_sixteens, sixteens}

-- ---- bytes of bytes

drop_bytes : (n : ℕ) (xs : List ℕ) → IsBytes xs → IsBytes (drop n xs)
drop_bytes zero xs are = are
drop_bytes (suc n) [] are = are
drop_bytes (suc n) (x ∷ xs) are = drop_bytes n xs (λ k. are (suc k))

take_bytes : (n : ℕ) (xs : List ℕ) → IsBytes xs → IsBytes (take n xs)
take_bytes zero xs are = λ i. omega arith
take_bytes (suc n) [] are = are
take_bytes (suc n) (x ∷ xs) are = first_byte x (take n xs) (are 0) (take_bytes n xs (λ k. are (suc k)))
  where
    first_byte : (x : ℕ) (ys : List ℕ) → x < 256 → IsBytes ys → (i : ℕ) → slice_index (x ∷ ys) i < 256
    first_byte x ys small more zero = small
    first_byte x ys small more (suc i) = more i

part_bytes : (storage : List ℕ) (first count : ℕ) → IsBytes storage → IsBytes (bytes_at storage first count)
part_bytes storage first count are = take_bytes count (drop first storage) (drop_bytes first storage are)

part_length : (storage : List ℕ) (first count : ℕ) → first + count ≤ length storage
    → length (bytes_at storage first count) ≡ count
part_length storage first count within =
    length-take-le count (drop first storage) (let d = length-drop first storage in omega (arith, d, within))

-- ---- lines of bytes

bytes_row : (last digits address : ℕ) (bytes : List ℕ) → IsBytes bytes → 2 * length bytes ≡ digits
    → IsRow last (row.Bytes digits) (bytes_line address bytes)
unfolding IsRow bytes_line
bytes_row last digits address bytes are size =
    word_then (Fixed name.Bytes) _ _ (codes "M") _ 32 refl refl
    (word_then (Digits 8) _ _ (word_text address) _ 32 refl (word_digits address)
    (word_last (Digits digits) (encode_lower bytes)
    (subst (λ n. AreDigits n (encode_lower bytes)) size (byte_digits bytes are))))

piece_row : (last : ℕ) (storage : List ℕ) (first count k size : ℕ) → IsBytes storage
    → first + count ≤ length storage → 16 * k + size ≤ count → min 16 (count - 16 * k) ≡ size
    → IsRow last (row.Bytes (2 * size)) (bytes_piece storage first count k)
piece_row last storage first count k size are within low is =
    let many : length (bytes_at storage (first + 16 * k) (min 16 (count - 16 * k))) ≡ size =
    ap (λ n. length (bytes_at storage (first + 16 * k) n)) is
    ∙ part_length storage (first + 16 * k) size (omega (arith, within, low)) in
    bytes_row last (2 * size) (first + 16 * k) (bytes_at storage (first + 16 * k) (min 16 (count - 16 * k)))
    (part_bytes storage (first + 16 * k) (min 16 (count - 16 * k)) are) (ap (λ n. 2 * n) many)

bytes_tell : (last : ℕ) (storage : List ℕ) (first count : ℕ) → IsBytes storage
    → first + count ≤ length storage
    → Tells last (sixteens count (row.Bytes 32) (row.Bytes (2 * (count % 16))))
    (bytes_list storage first count)
bytes_tell last storage first count are within =
    tells_sixteens last count (row.Bytes 32) (row.Bytes (2 * (count % 16))) (bytes_piece storage first count)
    (λ k below. piece_row last storage first count k 16 are within (omega (arith, below)) (omega
    (arith, below)))
    (λ some. piece_row last storage first count (count / 16) (count % 16) are within (omega arith)
    (omega (arith, some)))

-- ---- a block

two_bytes : (block : List ℕ) (place : ℕ) → IsBytes block → number_at block place 2 < 2 ^ 64
unfolding number_at
two_bytes block place are =
    let xs = drop place block in
    let in_place : IsBytes xs = drop_bytes place block are in
    omega (arith, in_place 0, in_place 1)

eight_bytes : (block : List ℕ) (place : ℕ) → IsBytes block → number_at block place 8 < 2 ^ 64
unfolding number_at
eight_bytes block place are =
    let xs = drop place block in
    let in_place : IsBytes xs = drop_bytes place block are in
    omega (
      arith,
      in_place 0,
      in_place 1,
      in_place 2,
      in_place 3,
      in_place 4,
      in_place 5,
      in_place 6,
      in_place 7,
    )

some_digits : (block : List ℕ) (place count : ℕ) → IsBytes block → place + count ≤ length block
    → AreDigits (2 * count) (encode_lower (bytes_at block place count))
some_digits block place count are within =
    subst (λ n. AreDigits (2 * n) (encode_lower (bytes_at block place count)))
    (part_length block place count within)
    (byte_digits (bytes_at block place count) (part_bytes block place count are))

-- the words of the line of a block
block_words : (first : ℕ) (block : List ℕ) → IsBytes block → length block ≡ 256
    → Spelled (Fixed name.Block ∷ Digits 8 ∷ Fixed name.Format ∷ AtMost most ∷ Fixed name.Flags ∷ Digits 2
    ∷ Fixed name.Depth ∷ AtMost most ∷ Fixed name.Code ∷ AtMost most ∷ Fixed name.Token ∷ Digits 16
    ∷ Fixed name.At ∷ Digits 16 ∷ Fixed name.Interruption ∷ Digits 4 ∷ [])
    (codes "D " ++ (word_text first ++ (codes " FORMAT " ++ (decimal (slice_index block 0)
    ++ (codes " FLAGS " ++ (encode_lower (bytes_at block 1 1) ++ (codes " DEPTH "
    ++ (decimal (number_at block 6 2)
    ++ (codes " CODE " ++ (decimal (number_at block 8 8) ++ (codes " TOKEN "
    ++ (encode_lower (bytes_at block 16 8)
    ++ (codes " AT " ++ (encode_lower (bytes_at block 24 8) ++ (codes " PI "
    ++ (encode_lower (bytes_at block 38 2)
    ++ codes "\n"))))))))))))))))
block_words first block are size =
    let format : slice_index block 0 < 256 = are 0 in
    let deep = two_bytes block 6 are in
    let code = eight_bytes block 8 are in
    word_then (Fixed name.Block) _ _ (codes "D") _ 32 refl refl
    (word_then (Digits 8) _ _ (word_text first) _ 32 refl (word_digits first)
    (word_then (Fixed name.Format) _ _ (codes "FORMAT") _ 32 refl refl
    (word_then (AtMost most) _ _ (decimal (slice_index block 0)) _ 32 refl
    (a_number most (slice_index block 0) (omega (arith, format)) (omega (arith, format)))
    (word_then (Fixed name.Flags) _ _ (codes "FLAGS") _ 32 refl refl
    (word_then (Digits 2) _ _ (encode_lower (bytes_at block 1 1)) _ 32 refl
    (some_digits block 1 1 are (omega (arith, size)))
    (word_then (Fixed name.Depth) _ _ (codes "DEPTH") _ 32 refl refl
    (word_then (AtMost most) _ _ (decimal (number_at block 6 2)) _ 32 refl
    (a_number most (number_at block 6 2) deep (omega (arith, deep)))
    (word_then (Fixed name.Code) _ _ (codes "CODE") _ 32 refl refl
    (word_then (AtMost most) _ _ (decimal (number_at block 8 8)) _ 32 refl
    (a_number most (number_at block 8 8) code (omega (arith, code)))
    (word_then (Fixed name.Token) _ _ (codes "TOKEN") _ 32 refl refl
    (word_then (Digits 16) _ _ (encode_lower (bytes_at block 16 8)) _ 32 refl
    (some_digits block 16 8 are (omega (arith, size)))
    (word_then (Fixed name.At) _ _ (codes "AT") _ 32 refl refl
    (word_then (Digits 16) _ _ (encode_lower (bytes_at block 24 8)) _ 32 refl
    (some_digits block 24 8 are (omega (arith, size)))
    (word_then (Fixed name.Interruption) _ _ (codes "PI") _ 32 refl refl
    (word_last (Digits 4) (encode_lower (bytes_at block 38 2))
    (some_digits block 38 2 are (omega (arith, size))))))))))))))))))

-- the fields of a block are told from its head on
head_told : (f g d c t : List ℕ)
    → codes " FORMAT " ++ (f ++ (codes " FLAGS " ++ (g ++ (codes " DEPTH " ++ (d ++ (codes " CODE " ++ (c
    ++ t)))))))
    ≡ ((codes " FORMAT " ++ f) ++ (codes " FLAGS " ++ (g ++ ((codes " DEPTH " ++ d) ++ (codes " CODE "
    ++ c))))) ++ t
head_told f g d c t =
    let coded = codes " CODE " ++ c in
    let deep = codes " DEPTH " ++ (d ++ coded) in
    ap (λ x. codes " FORMAT " ++ (f ++ (codes " FLAGS " ++ x)))
    (ap (λ x. g ++ (codes " DEPTH " ++ x)) (sym (append_assoc d coded t)) ∙ sym (append_assoc g deep t))
    ∙ ap (λ x. codes " FORMAT " ++ x) (sym (append_assoc f (codes " FLAGS " ++ (g ++ deep)) t))

block_told : (block : List ℕ)
    → codes " FORMAT " ++ (decimal (slice_index block 0)
    ++ (codes " FLAGS " ++ (encode_lower (bytes_at block 1 1) ++ (codes " DEPTH "
    ++ (decimal (number_at block 6 2)
    ++ (codes " CODE " ++ (decimal (number_at block 8 8) ++ (codes " TOKEN "
    ++ (encode_lower (bytes_at block 16 8)
    ++ (codes " AT " ++ (encode_lower (bytes_at block 24 8) ++ (codes " PI "
    ++ (encode_lower (bytes_at block 38 2)
    ++ codes "\n")))))))))))))
    ≡ block_head block ++ block_tail block
unfolding block_head block_tail labelled
block_told block =
    head_told (decimal (slice_index block 0)) (encode_lower (bytes_at block 1 1)) (decimal
    (number_at block 6 2))
    (decimal (number_at block 8 8)) (block_tail block)

block_row : (last first : ℕ) (block : List ℕ) → IsBytes block → length block ≡ 256
    → IsRow last row.Block (block_line first block)
unfolding IsRow block_line
block_row last first block are size =
    subst (λ t. Spelled (Fixed name.Block ∷ Digits 8 ∷ Fixed name.Format ∷ AtMost most ∷ Fixed name.Flags
    ∷ Digits 2
    ∷ Fixed name.Depth ∷ AtMost most ∷ Fixed name.Code ∷ AtMost most ∷ Fixed name.Token ∷ Digits 16
    ∷ Fixed name.At ∷ Digits 16 ∷ Fixed name.Interruption ∷ Digits 4 ∷ []) (codes "D "
    ++ (word_text first ++ t)))
    (block_told block) (block_words first block are size)

-- ---- what is shown at one place, and at all

show_by : (last : ℕ) (storage : List ℕ) (s : Show) (b : Bool) → IsBytes storage
    → s.first + s.length ≤ length storage → (b ≡ true → s.length ≡ 256)
    → Tells last (rows_of (if b then once row.Block ∷ []
    else times (s.length / 16) (row.Bytes 32)
    ∷ times (if s.length % 16 == 0 then 0 else 1) (row.Bytes (2 * (s.length % 16))) ∷ []))
    (if b then block_line s.first (bytes_at storage s.first 256)
    ∷ [] else bytes_list storage s.first s.length)
show_by last storage s true are within block =
    let size = block refl in
    tells_row last row.Block (block_line s.first (bytes_at storage s.first 256))
    (block_row last s.first (bytes_at storage s.first 256) (part_bytes storage s.first 256 are)
    (part_length storage s.first 256 (omega (arith, within, size))))
show_by last storage s false are within block =
    let n = s.length in
    let rows : sixteens n (row.Bytes 32) (row.Bytes (2 * (n % 16)))
    ≡ replicate (n / 16) (row.Bytes 32)
    ++ (replicate (if n % 16 == 0 then 0 else 1) (row.Bytes (2 * (n % 16))) ++ []) =
    ap (λ rs. replicate (n / 16) (row.Bytes 32) ++ rs)
    (sym (append-nil (replicate (if n % 16 == 0 then 0 else 1) (row.Bytes (2 * (n % 16)))))) in
    subst (λ rs. Tells last rs (bytes_list storage s.first n)) rows
    (bytes_tell last storage s.first n are within)

show_tells : (last : ℕ) (storage : List ℕ) (s : Show) → IsBytes storage → length storage ≡ 1048576 → IsShown s
    → Tells last (rows_of (show_parts s)) (show_list storage s)
unfolding show_list
show_tells last storage s are size shown =
    show_by last storage s s.fields are (let h = shown.high in omega (arith, h, size)) shown.block

pub shows_tell : (last : ℕ) (storage : List ℕ) (shows : List Show) → IsBytes storage
    → length storage ≡ 1048576
    → All IsShown shows
    → Tells last (rows_of (flat_map show_parts shows)) (shows_list storage shows)
unfolding shows_list
shows_tell last storage [] are size shown = tells_nothing last
shows_tell last storage (s ∷ shows) are size shown =
    let rows : rows_of (show_parts s) ++ rows_of (flat_map show_parts shows)
    ≡ rows_of (flat_map show_parts (s ∷ shows)) =
    sym (flat_map-append (λ (p : Part). replicate p.count p.row) (show_parts s)
    (flat_map show_parts shows)) in
    subst (λ rs. Tells last rs (show_list storage s ++ shows_list storage shows)) rows
    (tells_behind last (rows_of (show_parts s)) (rows_of (flat_map show_parts shows)) (show_list storage s)
    (shows_list storage shows)
    (show_tells last storage s are size (All-head IsShown s shows shown))
    (shows_tell last storage shows are size (All-tail IsShown s shows shown)))
